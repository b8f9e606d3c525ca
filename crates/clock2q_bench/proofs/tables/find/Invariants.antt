-- The candidates that are left are indices of the hashes.
use Rattle.std.proofs.Common.{ℕ, ◌≡◌, ◌<◌, length, slice_get, Some}
use Rattle.clock2q_bench.proofs.tables.find.Given as goal

abbrev pub invariant-loop-handle : goal.invariant-loop-handle
invariant-loop-handle l = (i at : ℕ) → slice_get l.candidates.left i ≡ Some at → at < length l.hashes
