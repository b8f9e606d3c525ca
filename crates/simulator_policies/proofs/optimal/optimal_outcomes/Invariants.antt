-- The outcomes so far, followed by those to come, are all outcomes.
use Rattle.std.proofs.Common.{◌≡◌, ◌+◌, ◌-◌, ◌≤◌, ◌++◌, length, drop, vec_len, vec_capacity}
use Rattle.std.specs.NonZero.{non_zero_usize_get}
use Rattle.clock2q_machine.specs.Optimum.{optimal_outcomes_from, optimal_outcomes}
use Rattle.simulator_policies.specs.Awaited.{optimal_at, IsAwaiting}
use Rattle.simulator_policies.proofs.optimal.optimal_outcomes.Given as goal

abbrev pub invariant-loop-at : goal.invariant-loop-at
invariant-loop-at g l = record {
  awaiting : IsAwaiting l.trace l.at (optimal_at (non_zero_usize_get l.capacity) l.trace l.at) l.awaited;
  room : vec_len l.outcomes + (length l.trace - l.at) ≤ vec_capacity l.outcomes;
  so_far : l.outcomes.items ++ optimal_outcomes_from (non_zero_usize_get l.capacity) (drop l.at l.trace)
      (optimal_at (non_zero_usize_get l.capacity) l.trace l.at) ≡ optimal_outcomes (non_zero_usize_get l.capacity) l.trace;
}
