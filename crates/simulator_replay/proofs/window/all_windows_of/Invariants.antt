-- The windows so far are those of the rows so far.
use Rattle.std.proofs.Common.{◌≡◌, map, take}
use Rattle.std.specs.List.{All}
use Rattle.std.specs.NonZero.{non_zero_usize_get}
use Rattle.simulator_replay.specs.ExpectedRows.{AllWindowsAreExpected}
use Rattle.simulator_replay.specs.RowBytes.{AllHaveBytes}
use Rattle.simulator_traces.specs.Trace.{sizes_of}
use Rattle.simulator_replay.specs.Windows.{AreWindows}
use Rattle.simulator_replay.proofs.window.all_windows_of.Given as goal

abbrev pub invariant-loop-row : goal.invariant-loop-row
invariant-loop-row g l = record {
  capacities : map (λ windows. non_zero_usize_get windows.capacity) l.all.items ≡ map (λ row. non_zero_usize_get row.capacity) (take l.row-index l.rows);
  bytes : AllHaveBytes l.fn.shares l.fn.trace.numbers (sizes_of l.fn.trace) l.all.items;
  expected : AllWindowsAreExpected l.fn.trace l.all.items;
  each : All (λ windows. AreWindows l.fn.policies l.fn.shares l.fn.trace.numbers l.fn.skipped (non_zero_usize_get windows.capacity) (non_zero_usize_get l.fn.size) windows.windows.items) l.all.items;
}
