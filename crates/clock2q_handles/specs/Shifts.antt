-- Part of a run moved on by one slot, to make room for one more entry.
use Rattle.std.specs.Prelude.{◌≡◌, ℕ, suc, ◌+◌, ◌%◌, ◌<◌, ◌≤◌, ◌⊎◌, List, length, Option, Some, None}
use Rattle.clock2q_handles.specs.Layout.{Placed, placed, slot_at, reach, longest_reach}
use Rattle.clock2q_handles.specs.Slots.{Mark, mark_reach}

-- the same entry one slot further past its home
abbrev pub moved_on : {E : Type 0} → Option (Placed E) → Option (Placed E)
moved_on None = None
moved_on (Some s) = Some (placed (suc s.displacement) s.entry)

-- B is A, of m slots, with e put in n slots past the home h, and the slots from there up to the empty slot v past h moved on by one
pub record Opens {E : Type 0} (A B : ℕ → Option (Placed E)) (m h n v : ℕ) (e : E) : Type 0 where
  pub from : n ≤ v
  pub upto : v < m
  pub vacant : A (h + v) ≡ None
  pub put : B (h + n) ≡ Some (placed n e)
  pub moved : (j : ℕ) → n ≤ j → j < v → B (h + suc j) ≡ moved_on (A (h + j))
  pub before : (j : ℕ) → j < n → B (h + j) ≡ A (h + j)
  pub after : (j : ℕ) → v < j → j < m → B (h + j) ≡ A (h + j)

-- B is A with e removed from n slots past the home h, and what followed it up to v past h moved back by one: slot v past h is left empty, and no entry after it could move back
pub record Closes {E : Type 0} (A B : ℕ → Option (Placed E)) (m h n v : ℕ) (e : E) : Type 0 where
  pub opens : Opens B A m h n v e
  pub ends : reach (A (h + suc v)) ≤ 1
  pub occupied : (j : ℕ) → j ≤ v → 0 < reach (A (h + j))

-- an entry for the walk that ended n slots past h may be put in there: neither it nor an entry up to the first empty slot, v past h, ends up more than `most` past its home
pub record HasRoom {E : Type 0} (A : ℕ → Option (Placed E)) (most h n v : ℕ) : Type 0 where
  pub own : n ≤ most
  pub others : (j : ℕ) → n ≤ j → j < v → reach (A (h + j)) ≤ most

-- slot v past h is the first empty one from h on
pub record IsVacancy {E : Type 0} (A : ℕ → Option (Placed E)) (h v : ℕ) : Type 0 where
  pub vacant : A (h + v) ≡ None
  pub occupied : (j : ℕ) → j < v → 0 < reach (A (h + j))

-- slot s is n slots past the home h, and each slot from h up to it holds an entry at least as far past its own home as that slot is past h
pub record HasCome {E : Type 0} (slots : List (Option (Placed E))) (h n s : ℕ) : Type 0 where
  pub slot : s ≡ (h + n) % length slots
  pub within : n < length slots
  pub passed : (j : ℕ) → j < n → j < reach (slot_at slots (h + j))

-- from slot s on there is room for an entry with that mark: neither it nor an entry of the run from there on ends up further past its home than a slot's metadata can hold
pub record HasRoomAt {E : Type 0} (slots : List (Option (Placed E))) (mark : Mark) (s : ℕ) : Type 0 where
  pub own : mark_reach mark ≤ longest_reach
  pub others : (k : ℕ) → ((j : ℕ) → j ≤ k → 0 < reach (slot_at slots (s + j))) → reach (slot_at slots (s + k)) < longest_reach

-- there is none: the entry would be too far past its home, or so would the entry k slots on in the same run
abbrev pub LacksRoomAt : {E : Type 0} → List (Option (Placed E)) → Mark → ℕ → Type 0
LacksRoomAt slots mark s = (longest_reach < mark_reach mark) ⊎ ((k : ℕ) × ((j : ℕ) → j ≤ k → 0 < reach (slot_at slots (s + j))) × (longest_reach ≤ reach (slot_at slots (s + k))))

-- an entry with that mark and the handle v was put into slot s, and the rest of the run moved on, with one write per slot
pub record PutsAt {H : Type 0} (old new : List (Option (Placed (ℕ × H)))) (mark : Mark) (s : ℕ) (v : H) (before after : ℕ) : Type 0 where
  pub opens : (h n f : ℕ) → HasCome old h n s → mark ≡ Some (n, f)
      → (w : ℕ) × IsVacancy (slot_at old) h w × Opens (slot_at old) (slot_at new) (length old) h n w (f, v) × (after + n ≡ before + w + 1)
  pub len : length new ≡ length old
