-- How often each key was accessed so far.
use Rattle.std.proofs.Common.{◌≡◌, length, take}
use Rattle.simulator_traces.proofs.OncePerKey.{IsCounted}
use Rattle.simulator_traces.proofs.summary.summary_of.Given as goal

abbrev pub invariant-loop-index : goal.invariant-loop-index
invariant-loop-index g l = record {
  long : length l.uses.items ≡ l.fn.trace.different;
  counted : IsCounted l.uses.items (take l.index l.numbers);
}
