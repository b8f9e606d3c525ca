-- The numbers so far are the differences so far.
use Rattle.std.proofs.Common.{◌≡◌, ℕ, ◌-◌, ◌<◌, length, get_or}
use Rattle.simulator_replay.proofs.curve.minus_each.Given as goal

abbrev pub invariant-loop-index : goal.invariant-loop-index
invariant-loop-index g l = record {
  long : length l.rest.items ≡ l.index;
  each : (place : ℕ) → place < l.index → get_or l.rest.items place 0 ≡ get_or l.all place 0 - get_or l.before place 0;
}
