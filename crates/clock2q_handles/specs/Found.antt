-- The first entry of a home that passes a test.
use Rattle.std.specs.Prelude.{◌≡◌, ℕ, ◌+◌, ◌%◌, ◌<◌, Bool, true, false, List, length, Option, Some}
use Rattle.std.specs.List.{list_any}
use Rattle.clock2q_handles.specs.Layout.{Placed, placed, slot_at, reach, met}
use Rattle.clock2q_handles.specs.Shifts.{Closes, HasCome}

-- n slots past h is an entry of home h that passes the test, and none nearer to h does
pub record Finds {E : Type 0} (test : E → Bool) (A : ℕ → Option (Placed E)) (h n : ℕ) : Type 0 where
  pub entry : E
  pub here : A (h + n) ≡ Some (placed n entry)
  pub passes : test entry ≡ true
  pub none_before : list_any test (met A h 0 n) ≡ false

-- it is in slot s
pub record FindsAt {E : Type 0} (test : E → Bool) (slots : List (Option (Placed E))) (h s : ℕ) : Type 0 where
  pub distance : ℕ
  pub slot : s ≡ (h + distance) % length slots
  pub within : distance < length slots
  pub passed : (j : ℕ) → j < distance → j < reach (slot_at slots (h + j))
  pub finds : Finds test (slot_at slots) h distance

-- it was removed, and what followed it moved back, with one write per slot
pub record TakesOut {E : Type 0} (test : E → Bool) (old new : List (Option (Placed E))) (h before after : ℕ) : Type 0 where
  pub distance : ℕ
  pub vacancy : ℕ
  pub within : distance < length old
  pub finds : Finds test (slot_at old) h distance
  pub closes : Closes (slot_at old) (slot_at new) (length old) h distance vacancy finds.entry
  pub written : after + distance ≡ before + vacancy + 1
  pub len : length new ≡ length old

-- the entry in slot s was removed, and what followed it moved back, with one write per slot
pub record TakesOutAt {E : Type 0} (old new : List (Option (Placed E))) (s before after : ℕ) : Type 0 where
  pub closes : (h n : ℕ) (e : E) → HasCome old h n s → slot_at old (h + n) ≡ Some (placed n e)
      → (v : ℕ) × Closes (slot_at old) (slot_at new) (length old) h n v e × (after + n ≡ before + v + 1)
  pub len : length new ≡ length old
