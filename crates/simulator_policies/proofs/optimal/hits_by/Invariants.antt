-- The hits so far plus those to come are all hits.
use Rattle.std.proofs.Common.{◌≡◌, ◌+◌, ◌≤◌, drop}
use Rattle.std.specs.NonZero.{non_zero_usize_get}
use Rattle.clock2q_machine.specs.Optimum.{optimal_hits_from, optimal_hits}
use Rattle.simulator_policies.specs.Awaited.{optimal_at, IsAwaiting}
use Rattle.simulator_policies.proofs.optimal.hits_by.Given as goal

abbrev pub invariant-loop-at : goal.invariant-loop-at
invariant-loop-at g l = record {
  awaiting : IsAwaiting l.trace l.at (optimal_at (non_zero_usize_get l.capacity) l.trace l.at) l.awaited;
  few : l.hits ≤ l.at;
  so_far : l.hits + optimal_hits_from (non_zero_usize_get l.capacity) (drop l.at l.trace)
      (optimal_at (non_zero_usize_get l.capacity) l.trace l.at) ≡ optimal_hits (non_zero_usize_get l.capacity) l.trace;
}
