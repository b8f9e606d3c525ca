-- Which of several tables a hash belongs to.
use Rattle.std.specs.Prelude.{◌≡◌, ℕ, ◌-◌, ◌/◌, ◌%◌, ◌^◌, ◌≤◌, bit_and}

-- a power of two up to 2^16
pub record IsPartitionCount (p : ℕ) : Type 0 where
  pub power : (k : ℕ) × (p ≡ 2 ^ k)
  pub most : p ≤ 2 ^ 16

-- the group is the k bits just below the top byte, for p = 2^k groups
abbrev pub IsGroupOf : ℕ → ℕ → ℕ → Type 0
IsGroupOf x p group = (k : ℕ) → p ≡ 2 ^ k → group ≡ bit_and (x / 2 ^ (56 - k)) (p - 1)

-- the two hashes have the same bits between the top byte and the low 40 bits
abbrev pub SameMiddle : ℕ → ℕ → Type 0
SameMiddle x y = x / 2 ^ 40 % 2 ^ 16 ≡ y / 2 ^ 40 % 2 ^ 16
