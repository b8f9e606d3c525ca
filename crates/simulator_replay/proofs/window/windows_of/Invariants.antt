-- The windows so far end where the next one begins.
use Rattle.std.proofs.Common.{◌-◌, ◌≤◌, length, min}
use Rattle.std.specs.List.{All}
use Rattle.std.specs.NonZero.{non_zero_usize_get}
use Rattle.simulator_replay.specs.ExpectedRows.{WindowsAreExpected}
use Rattle.simulator_replay.specs.RowBytes.{WindowsHaveBytes}
use Rattle.simulator_traces.specs.Trace.{sizes_of}
use Rattle.simulator_replay.specs.Windows.{AreInTurn, IsWindow}
use Rattle.simulator_replay.proofs.window.windows_of.Given as goal

abbrev pub invariant-loop-first : goal.invariant-loop-first
invariant-loop-first g l = record {
  within : l.first ≤ l.accesses;
  in_turn : AreInTurn (min l.fn.skipped (length l.fn.trace.numbers)) l.windows.items l.first;
  bytes : WindowsHaveBytes l.fn.shares l.fn.trace.numbers (sizes_of l.fn.trace) (non_zero_usize_get l.fn.capacity) l.windows.items;
  expected : WindowsAreExpected l.fn.trace l.windows.items;
  each : All (IsWindow l.fn.policies l.fn.shares l.fn.trace.numbers (non_zero_usize_get l.fn.capacity) (non_zero_usize_get l.fn.size)) l.windows.items;
}

abbrev pub decreases-loop-first : goal.decreases-loop-first
decreases-loop-first g l = l.accesses - l.first
