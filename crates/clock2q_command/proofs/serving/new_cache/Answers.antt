use Rattle.std.proofs.Common.{arith}
use Rattle.std.specs.NonZero.{non_zero_usize_get}
use Rattle.clock2q_machine.specs.Policies.{shares_of, shares_with}
use Rattle.clock2q_command.proofs.Making.{Makes-usual, Makes-chosen}
use Rattle.clock2q_command.proofs.serving.new_cache.Goals as goal

pub returns-in_default : goal.returns-in_default
returns-in_default g c =
    rw c.in_default.is
    (Makes-usual (λ cache. cache.machine) (non_zero_usize_get c.args.capacity) c.with_hasher.result
    (omega (arith, c.args.capacity.ok)) c.with_hasher.ensures.made c.with_hasher.ensures.capacity c.with_hasher.ensures.policy)

pub returns-in-None : goal.returns-in-None
returns-in-None g c =
    rw (c.in-Some.is, c.in-None.is) (Makes-chosen (λ cache. cache.machine) (shares_of (non_zero_usize_get c.args.capacity) c.in-Some.field-0.small c.in-Some.field-0.window) c.with_policy.result
    c.with_policy.ensures.made c.with_policy.ensures.capacity c.with_policy.ensures.policy)

pub returns-in-Some-history : goal.returns-in-Some-history
returns-in-Some-history g c =
    rw (c.in-Some.is, c.in-Some-history.is)
    (Makes-chosen (λ cache. cache.machine) (shares_with (non_zero_usize_get c.args.capacity) c.in-Some.field-0.small c.in-Some.field-0.window c.in-Some-history.history) c.with_history.result
    c.with_history.ensures.made c.with_history.ensures.capacity c.with_history.ensures.policy)
