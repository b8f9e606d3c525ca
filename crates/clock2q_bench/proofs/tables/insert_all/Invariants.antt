-- The table's handles are indices of the hashes.
use Rattle.clock2q_bench.specs.Indices.{HoldsIndices}
use Rattle.clock2q_bench.proofs.tables.insert_all.Given as goal

abbrev pub invariant-loop-handle : goal.invariant-loop-handle
invariant-loop-handle l = HoldsIndices l.hashes l.table.homes
