-- The rows so far are those of the capacities so far.
use Rattle.std.proofs.Common.{◌≡◌, map, take}
use Rattle.std.specs.List.{All}
use Rattle.std.specs.NonZero.{non_zero_usize_get}
use Rattle.simulator_replay.specs.ExpectedRows.{AreExpected}
use Rattle.simulator_replay.specs.RowBytes.{HaveBytes}
use Rattle.simulator_replay.specs.Rows.{IsRow}
use Rattle.simulator_traces.specs.Trace.{sizes_of}
use Rattle.simulator_replay.proofs.simulation.rows_of.Given as goal

abbrev pub invariant-loop-index : goal.invariant-loop-index
invariant-loop-index g l = record {
  capacities : map (λ row. non_zero_usize_get row.capacity) l.rows.items ≡ map non_zero_usize_get (take l.index l.rooms.items);
  bytes : HaveBytes l.fn.shares l.fn.trace.numbers (sizes_of l.fn.trace) l.fn.skipped l.rows.items;
  expected : AreExpected l.fn.trace l.rows.items;
  each : All (λ row. IsRow l.fn.policies l.fn.shares l.fn.skipped l.fn.trace.numbers (non_zero_usize_get row.capacity) row) l.rows.items;
}
