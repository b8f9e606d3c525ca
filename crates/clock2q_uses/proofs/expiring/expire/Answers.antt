use Rattle.std.proofs.Common.{rules, arith, ◌≡◌, ◌∙◌, ap, refl, sym}
use Rattle.std.specs.Prelude.{nat_lt, slice_get}
use Rattle.std.proofs.lemmas.Grind.{common_steps}
use Rattle.clock2q_cache.proofs.Retained.{asked_by, retained_by}
use Rattle.clock2q_uses.specs.Expiring.{is_live}
use Rattle.clock2q_uses.proofs.expiring.expire.Goals as goal

pub retain-requires : goal.retain-requires
retain-requires g c = record {
  callable = asked_by _ (λ f. f.0.now ≡ c.args.now) c.args.cache.now.machine (λ f key value slot same there. search rules)
      (λ f key value slot b next same there called.
      let still : next.0.now ≡ f.0.now = search rules in
      still ∙ same)
      _ refl;
}

pub returns : goal.returns
returns g c = record {
  machine = retained_by _ (λ f. f.0.now ≡ c.args.now) c.args.cache.now.machine (λ r. is_live c.args.now (slice_get c.args.cache.now.machine.values r.1))
      (λ f key value r b next same shows there called.
      let still : next.0.now ≡ f.0.now = search rules in
      let known : b ≡ nat_lt f.0.now value.now.deadline = grind (arith, common_steps) in (
        known ∙ ap (λ now. nat_lt now value.now.deadline) same ∙ sym (ap (is_live c.args.now) there),
        still ∙ same,
      ))
      _ _ refl c.retain.ensures.retained;
}
