-- The hits so far plus those to come are all hits.
use Rattle.std.proofs.Common.{◌≡◌, ◌+◌, ◌≤◌, drop}
use Rattle.std.specs.NonZero.{non_zero_usize_get}
use Rattle.clock2q_machine.specs.Hits.{hits, is_in}
use Rattle.simulator_policies.specs.Policies.{plain_after, plain_hits}
use Rattle.simulator_policies.specs.Residents.{held_by, IsHolding}
use Rattle.simulator_policies.proofs.plain.plain_hits.Given as goal

abbrev pub invariant-loop-at : goal.invariant-loop-at
invariant-loop-at g l = record {
  holding : IsHolding (non_zero_usize_get l.capacity) l.trace l.at l.residents;
  few : l.hits ≤ l.at;
  so_far : l.hits + hits is_in (plain_after l.policy (non_zero_usize_get l.capacity)) (drop l.at l.trace)
      (held_by l.trace l.at l.residents) ≡ plain_hits l.policy (non_zero_usize_get l.capacity) l.trace;
}
