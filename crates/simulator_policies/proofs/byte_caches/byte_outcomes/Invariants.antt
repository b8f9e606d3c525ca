-- The outcomes so far, followed by those to come, are all outcomes.
use Rattle.std.proofs.Common.{◌≡◌, ◌+◌, ◌-◌, ◌≤◌, ◌++◌, length, drop, vec_len, vec_capacity}
use Rattle.simulator_policies.specs.ByteCaches.{byte_outcomes, byte_outcomes_from}
use Rattle.simulator_policies.specs.ByteResidents.{entries_by, IsByteHolding}
use Rattle.simulator_policies.proofs.byte_caches.byte_outcomes.Given as goal

abbrev pub invariant-loop-at : goal.invariant-loop-at
invariant-loop-at g l = record {
  holding : IsByteHolding l.trace l.at l.residents;
  room : vec_len l.outcomes + (length l.trace - l.at) ≤ vec_capacity l.outcomes;
  so_far : l.outcomes.items ++ byte_outcomes_from l.policy l.capacity (drop l.at l.trace) (drop l.at l.sizes) (entries_by l.trace l.at l.residents) ≡ byte_outcomes l.policy l.capacity l.trace l.sizes;
}
