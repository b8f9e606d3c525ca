-- What a hasher of one multiplication computes.
use Rattle.std.specs.Prelude.{ℕ, ◌*◌, ◌/◌, ◌^◌, ◌-◌, ◌==◌, List, length, cond, bit_and, bit_xor}
use Rattle.std.specs.Int.{w64, from_le_bytes}

-- the XOR of both halves of the 128-bit product
abbrev pub folded : ℕ → ℕ
folded number = bit_xor (bit_and (number * 0x9e37_79b9_7f4a_7c15) (2 ^ 64 - 1)) (number * 0x9e37_79b9_7f4a_7c15 / 2 ^ 64)

-- the hash after a write, which changes it only if a number of eight bytes is written
abbrev pub written : ℕ → List ℕ → ℕ
written hash bytes = cond (length bytes == 8) (folded (from_le_bytes w64 bytes)) hash
