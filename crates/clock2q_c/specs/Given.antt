-- What a hasher that computes nothing returns.
use Rattle.std.specs.Prelude.{ℕ, ◌==◌, List, length, cond}
use Rattle.std.specs.Int.{w64, from_le_bytes}

-- the hash after a write, which only a number of eight bytes changes
abbrev pub written : ℕ → List ℕ → ℕ
written hash bytes = cond (length bytes == 8) (from_le_bytes w64 bytes) hash
