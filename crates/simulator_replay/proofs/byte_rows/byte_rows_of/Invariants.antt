-- The rows so far are those of the capacities so far.
use Rattle.std.proofs.Common.{◌≡◌, map, take}
use Rattle.std.specs.List.{All}
use Rattle.std.specs.NonZero.{non_zero_usize_get}
use Rattle.simulator_replay.specs.ByteRows.{IsByteRow}
use Rattle.simulator_replay.specs.ExpectedRows.{AreExpected}
use Rattle.simulator_traces.specs.Trace.{sizes_of}
use Rattle.simulator_replay.proofs.byte_rows.byte_rows_of.Given as goal

abbrev pub invariant-loop-capacity : goal.invariant-loop-capacity
invariant-loop-capacity g l = record {
  capacities : map (λ row. non_zero_usize_get row.capacity) l.rows.items ≡ map non_zero_usize_get (take l.capacity-index l.capacities);
  expected : AreExpected l.fn.trace l.rows.items;
  each : All (IsByteRow l.fn.skipped l.fn.trace.numbers (sizes_of l.fn.trace) l.fn.policies) l.rows.items;
}
