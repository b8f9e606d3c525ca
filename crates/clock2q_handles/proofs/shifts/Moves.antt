-- What each slot contains after a write, and what the tests of a slot's mark mean.
use Rattle.std.proofs.Common.{◌≡◌, ◌≢◌, ℕ, ◌+◌, ◌%◌, ◌<◌, ◌≤◌, ◌↔◌, arith, Bool, true, false, IsTrue, List, length, set, get_or-set_same, get_or-set_other, length-set, Option, None, IfSome}
use Rattle.clock2q_handles.specs.Layout.{Placed, slot_at, reach, IsTidy}
use Rattle.clock2q_handles.specs.Shifts.{moved_on}
use Rattle.clock2q_handles.specs.Slots.{Mark, cell, mark_of, mark_on, mark_back, mark_reach}
use Rattle.clock2q_handles.proofs.layout.Periods.{lap, lap-lt, lap-same, rems-differ}
use Rattle.clock2q_handles.proofs.layout.Reading.{slot-again}
use Rattle.clock2q_handles.proofs.layout.TidyLayout.{tidy-vacant}

module _ {E : Type 0} (slots : List (Option (Placed E))) (x : Option (Placed E)) where
  -- the slot that was written
  pub slot_at-set_same : (n : ℕ) → 0 < length slots → slot_at (set slots (n % length slots) x) n ≡ x
  slot_at-set_same n some = grind (arith, length-set, get_or-set_same)

  -- a slot that was not
  pub slot_at-set_other : (n k : ℕ) → k % length slots ≢ n % length slots → slot_at (set slots (n % length slots) x) k ≡ slot_at slots k
  slot_at-set_other n k other = grind (arith, length-set, get_or-set_other)

-- slots that are different distances past a home, less than a lap, are different slots
pub apart_on_lap : (m h i j : ℕ) → i < m → j < m → i ≢ j → (h + i) % m ≢ (h + j) % m
apart_on_lap m h i j li lj ne e = grind (arith, rems-differ)

-- a test that failed
pub refused : {P : Type 0} (b : Bool) → IsTrue b ↔ P → b ≡ false → P → ⊥
refused b test off p = let on : b ≡ true = test.1 p in cc

module _ {H : Type 0} where
  -- a mark leaves as much room as its entry does
  pub reach_of_meaning : (s : Mark) (o : Option (Placed (ℕ × H))) → s ≡ mark_of o → mark_reach s ≡ reach o
  reach_of_meaning s o is = grind arith

  -- a slot that isn't empty
  pub occupied_of_meaning : (b : Bool) (s : Mark) (o : Option (Placed (ℕ × H))) → IsTrue b ↔ (s ≡ None) → b ≡ false → s ≡ mark_of o → 0 < reach o
  occupied_of_meaning b s o test off is = grind (arith, refused)

  -- a slot that is
  pub vacant_of_meaning : (s : Mark) (o : Option (Placed (ℕ × H))) → s ≡ None → s ≡ mark_of o → o ≡ None
  vacant_of_meaning s o e is = grind arith

  -- a slot whose entry can't move back
  pub near_of_meaning : (b : Bool) (s : Mark) (o : Option (Placed (ℕ × H))) → IsTrue b ↔ (1 < mark_reach s) → b ≡ false → s ≡ mark_of o → reach o ≤ 1
  near_of_meaning b s o test off is = grind (arith, refused, reach_of_meaning)

  -- an entry that moves on by one slot
  pub cell-mark_on : (s s' : Mark) (o : Option (Placed (ℕ × H))) (v : H) → s ≡ mark_of o → s' ≡ mark_on s → IfSome o (λ p. v ≡ p.entry.1) → cell s' v ≡ moved_on o
  cell-mark_on s s' o v is more handle = grind arith

  -- an entry that moves back by one slot
  pub cell-mark_back : (s s' : Mark) (o : Option (Placed (ℕ × H))) (v : H) → 1 < reach o → s ≡ mark_of o → s' ≡ mark_back s → IfSome o (λ p. v ≡ p.entry.1) → o ≡ moved_on (cell s' v)
  cell-mark_back s s' o v far is less handle = grind arith

-- a walk that has met no empty slot has gone less than once round
pub less_than_lap : {E : Type 0} (slots : List (Option (Placed E))) (h n : ℕ) → IsTidy slots → 0 < length slots → ((j : ℕ) → j < n → 0 < reach (slot_at slots (h + j))) → n < length slots
less_than_lap slots h n tidy some occupied =
    let v = tidy-vacant slots tidy some in
    let l : ℕ = lap (length slots) h v.0 in
    grind (arith, occupied l, lap-lt (length slots) h v.0 some, lap-same (slot_at slots) (length slots) (slot-again slots) some h v.0, v.1)
