use Rattle.std.proofs.Common.{rules, arith, ◌≡◌, ◌<◌, ◌∙◌, false, get_or, length, ap, refl, subst, sym}
use Rattle.std.proofs.lemmas.Grind.{common_steps}
use Rattle.std.proofs.lemmas.Option.{get_or_from_slice_get}
use Rattle.clock2q_cache.proofs.Retained.{asked_by, retained_by}
use Rattle.clock2q_uses.specs.Routes.{is_up}
use Rattle.clock2q_uses.proofs.routes.keep_up.Goals as goal

pub retain-requires : goal.retain-requires
retain-requires g c = record {
  callable = asked_by _ (λ f. f.0.now ≡ c.args.up.now) c.args.routes.now.machine
      (λ f key value slot same there.
      let l : value.now < length f.0.now = subst (λ up. value.now < length up) (sym same) (c.requires.links slot value.now there) in
      search rules)
      (λ f key value slot b next same there called.
      let still : next.0.now ≡ f.0.now = search rules in
      still ∙ same)
      _ refl;
}

pub returns : goal.returns
returns g c = record {
  up = retained_by _ (λ f. f.0.now ≡ c.args.up.now) c.args.routes.now.machine (λ route. is_up c.args.up.now c.args.routes.now.machine route.1)
      (λ f key value route b next same shows there called.
      let l : value.now < length f.0.now = subst (λ up. value.now < length up) (sym same) (c.requires.links route.1 value.now there) in
      let still : next.0.now ≡ f.0.now = search rules in
      let known : b ≡ get_or f.0.now value.now false = grind (arith, common_steps) in (
        known ∙ ap (λ up. get_or up value.now false) same
            ∙ ap (λ at. get_or c.args.up.now at false)
            (sym (get_or_from_slice_get c.args.routes.now.machine.values route.1 value.now 0 there)),
        still ∙ same,
      ))
      _ _ refl c.retain.ensures.retained;
}
