-- The value is that of the command, if the key is new and there is one.
use Rattle.std.proofs.Common.{rules, ◌≡◌, None, refl, sym, subst, ◌∙◌}
use Rattle.std.specs.Result.{IsOk}
use Rattle.clock2q_cache.specs.Costs.{Costs}
use Rattle.clock2q_cache.specs.Runs.{known_after}
use Rattle.clock2q_machine.specs.Calls.{Try}
use Rattle.clock2q_machine.specs.Steps.{tried}
use Rattle.clock2q_command.proofs.Fetching.{at_err, tried-given, tried-known, tried-costs, untried}
use Rattle.clock2q_command.proofs.commands.try_fetch.Goals as goal

pub returns-in-Ok : goal.returns-in-Ok
returns-in-Ok g c =
    let eq = g.K.PartialEq.eq in
    let m = c.args.cache.now.machine in
    let becomes = c.try_get_or_insert_with_mut.follows.holds c.in-Ok.value.now (subst IsOk (sym c.in-Ok.is) refl) in
    let h = tried-given (eq c.args.key) c.args.key m _ c.in-Ok.value.now c.args.offered (λ w gave. search rules) c.in-Ok.ensures.value in
    record {
      value = h.0;
      machine = becomes.0 ∙ c.in-Ok.ensures.unwritten ∙ h.1;
      known = tried-known
          (record { eq = g.K.PartialEq.eq; hash_input = g.K.Hash.hash_input }) g.S.BuildHasher g.S.Hasher.Hasher c.args.key
          c.in-Ok.value.now c.args.cache.now _ becomes.2 becomes.3 _ c.args.offered (λ w gave. search rules) c.in-Ok.ensures.value;
      hasher = becomes.1;
      costs = tried-costs
          (record { eq = g.K.PartialEq.eq; hash_input = g.K.Hash.hash_input }) g.S.BuildHasher g.S.Hasher.Hasher c.args.key
          c.in-Ok.value.now c.args.cache.now _ becomes.2 _ c.args.offered (λ w gave. search rules) c.in-Ok.ensures.value;
    }

pub returns-in-Err : goal.returns-in-Err
returns-in-Err g c =
    let eq = g.K.PartialEq.eq in
    let m = c.args.cache.now.machine in
    let none : c.args.offered ≡ None = search rules in
    let becomes = at_err c.try_get_or_insert_with_mut.result _ c.in-Err.is c.try_get_or_insert_with_mut.follows.holds-at-none in
    let h = untried (eq c.args.key) c.args.key m c.in-Err.ensures.absent in
    record {
      value = search rules;
      machine = becomes.0 ∙ subst (λ o. m ≡ tried (eq c.args.key) c.args.key o m) (sym none) h.1;
      known = subst (λ o.
          c.try_get_or_insert_with_mut.follows.lender-at-none.known ≡ known_after (record { eq = g.K.PartialEq.eq; hash_input = g.K.Hash.hash_input }) g.S.BuildHasher g.S.Hasher.Hasher
          (Try c.args.key o) c.args.cache.now) (sym none) becomes.3;
      hasher = becomes.1;
      costs = subst (λ o.
          Costs (record { eq = g.K.PartialEq.eq; hash_input = g.K.Hash.hash_input }) g.S.BuildHasher g.S.Hasher.Hasher
          (Try c.args.key o) c.args.cache.now c.try_get_or_insert_with_mut.follows.lender-at-none) (sym none) becomes.2;
    }
