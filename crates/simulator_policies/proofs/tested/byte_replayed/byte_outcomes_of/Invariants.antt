-- There is an outcome for each access so far.
use Rattle.std.proofs.Common.{◌≡◌, ◌+◌, ◌-◌, ◌≤◌, length, vec_len, vec_capacity}
use Rattle.simulator_policies.proofs.tested.byte_replayed.byte_outcomes_of.Given as goal

abbrev pub invariant-loop-at : goal.invariant-loop-at
invariant-loop-at g l = record {
  long : length l.outcomes.items ≡ l.at;
  room : vec_len l.outcomes + (length l.trace - l.at) ≤ vec_capacity l.outcomes;
}
