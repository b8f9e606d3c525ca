-- The ones so far.
use Rattle.std.proofs.Common.{◌≡◌, ◌≤◌, take}
use Rattle.simulator_traces.specs.Uses.{ones}
use Rattle.simulator_traces.proofs.summary.ones_in.Given as goal

abbrev pub invariant-loop-index : goal.invariant-loop-index
invariant-loop-index l = record {
  few : l.count ≤ l.index;
  counted : l.count ≡ ones (take l.index l.uses);
}
