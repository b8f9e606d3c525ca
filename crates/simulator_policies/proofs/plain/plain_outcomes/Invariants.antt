-- The outcomes so far, followed by those to come, are all outcomes.
use Rattle.std.proofs.Common.{◌≡◌, ◌+◌, ◌-◌, ◌≤◌, ◌++◌, length, drop, vec_len, vec_capacity}
use Rattle.std.specs.NonZero.{non_zero_usize_get}
use Rattle.clock2q_machine.specs.Hits.{outcomes, is_in}
use Rattle.simulator_policies.specs.Policies.{plain_after, plain_outcomes}
use Rattle.simulator_policies.specs.Residents.{held_by, IsHolding}
use Rattle.simulator_policies.proofs.plain.plain_outcomes.Given as goal

abbrev pub invariant-loop-at : goal.invariant-loop-at
invariant-loop-at g l = record {
  holding : IsHolding (non_zero_usize_get l.capacity) l.trace l.at l.residents;
  room : vec_len l.outcomes + (length l.trace - l.at) ≤ vec_capacity l.outcomes;
  so_far : l.outcomes.items ++ outcomes is_in (plain_after l.policy (non_zero_usize_get l.capacity)) (drop l.at l.trace)
      (held_by l.trace l.at l.residents) ≡ plain_outcomes l.policy (non_zero_usize_get l.capacity) l.trace;
}
