-- The group of a hash: a field of its bits.
use Rattle.std.proofs.Common.{◌≡◌, ℕ, ◌-◌, ◌/◌, ◌%◌, ◌^◌, ◌≤◌, arith, bit_and}
use Rattle.std.proofs.lemmas.Nat.{field_of, and_mask, pow_below, shr-shr, pow_pos}
use Rattle.std.proofs.lemmas.Nat.Bits.{bit_at-trailing_zeros, bit_at-pow_other}
use Rattle.std.specs.Int.{trailing_zeros, w64}
use Rattle.clock2q_handles.specs.Partition.{IsPartitionCount, IsGroupOf, SameMiddle}

-- a power of two has one exponent
pub exponent_same : (i j : ℕ) → 2 ^ i ≡ 2 ^ j → i ≡ j
exponent_same i j e = grind (arith, pow_below i j, pow_below j i)

-- 2^k ends in k zeros
trailing_zeros-pow : (k : ℕ) → k ≤ 16 → trailing_zeros w64 (2 ^ k) ≡ k
trailing_zeros-pow k h =
    let found = bit_at-trailing_zeros w64 (2 ^ k) (pow_pos k) (pow_below k 64 (omega arith)) in
    grind (arith, found.1, bit_at-pow_other k (trailing_zeros w64 (2 ^ k)))

-- the group is computed by a shift and a mask
pub group_of : (x p t r : ℕ) → IsPartitionCount p → t ≡ trailing_zeros w64 p → r ≡ bit_and (x / 2 ^ (56 - t)) (p - 1) → IsGroupOf x p r
group_of x p t r is_count et er k ek = grind (arith, pow_below 16 k, trailing_zeros-pow)

-- hashes with the same middle have the same group
pub group_from_middle : (x y p r : ℕ) → IsPartitionCount p → IsGroupOf x p r → SameMiddle x y → IsGroupOf y p r
group_from_middle x y p r is_count is_group same k ek =
    let middle : (z : ℕ) → k ≤ 16 → z / 2 ^ (56 - k) % 2 ^ k ≡ z / 2 ^ 40 % 2 ^ 16 / 2 ^ (16 - k) = λ z h. grind (arith, field_of (z / 2 ^ 40) k (16 - k), shr-shr z 40 (16 - k)) in
    grind (arith, pow_below 16 k, and_mask, middle)

-- 2^k ends in fewer zeros than there are bits below the top byte
pub trailing_zeros_le : (p : ℕ) → IsPartitionCount p → trailing_zeros w64 p ≤ 16
trailing_zeros_le p is_count = grind (arith, pow_below 16 is_count.power.0, trailing_zeros-pow)
