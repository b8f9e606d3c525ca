-- How far the occupied slots from a home go.
use Rattle.std.proofs.Common.{◌≡◌, ℕ, zero, suc, ◌+◌, ◌<◌, ◌≤◌, arith, List, length, Option, None}
use Rattle.clock2q_handles.specs.Layout.{Placed, reach, slot_at, occupied, run}

module _ {E : Type 0} where
  pub occupied-is : (A : ℕ → Option (Placed E)) (h v k : ℕ) → v < k → A (h + v) ≡ None → ((j : ℕ) → j < v → 1 ≤ reach (A (h + j))) → occupied A h k ≡ v
  occupied-is A h v zero l hole full = absurd (omega arith)
  occupied-is A h zero (suc k) l hole full = grind arith
  occupied-is A h (suc v) (suc k) l hole full = grind (arith, full 0, occupied-is A (suc h) v k (omega arith) (grind arith) (λ j l. grind (arith, full (suc j))))

  occupied-above : (A : ℕ → Option (Placed E)) (h v k : ℕ) → v ≤ k → ((j : ℕ) → j < v → 1 ≤ reach (A (h + j))) → v ≤ occupied A h k
  occupied-above A h zero k l full = omega arith
  occupied-above A h (suc v) zero l full = absurd (omega arith)
  occupied-above A h (suc v) (suc k) l full = grind (arith, full 0, occupied-above A (suc h) v k (omega arith) (λ j l. grind (arith, full (suc j))))

  -- the run of h ends at the first empty slot
  pub run-is : (slots : List (Option (Placed E))) (h v : ℕ) → v < length slots → slot_at slots (h + v) ≡ None → ((j : ℕ) → j < v → 1 ≤ reach (slot_at slots (h + j))) → run slots h ≡ v
  run-is slots h v l hole full = occupied-is (slot_at slots) h v (length slots) l hole full

  -- and it is no shorter than the occupied slots from h on
  pub run-above : (slots : List (Option (Placed E))) (h v : ℕ) → v ≤ length slots → ((j : ℕ) → j < v → 1 ≤ reach (slot_at slots (h + j))) → v ≤ run slots h
  run-above slots h v l full = occupied-above (slot_at slots) h v (length slots) l full
