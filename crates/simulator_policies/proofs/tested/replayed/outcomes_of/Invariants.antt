-- There is an outcome for each access so far.
use Rattle.std.proofs.Common.{◌≡◌, ◌+◌, ◌-◌, ◌≤◌, length, vec_len, vec_capacity}
use Rattle.simulator_policies.proofs.tested.replayed.outcomes_of.Given as goal

abbrev pub invariant-loop-key : goal.invariant-loop-key
invariant-loop-key g l = record {
  long : length l.outcomes.items ≡ l.key-index;
  room : vec_len l.outcomes + (length l.trace - l.key-index) ≤ vec_capacity l.outcomes;
}
