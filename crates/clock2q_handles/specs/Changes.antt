-- What a call that changes a table results in, and how many slots it reads and writes.
use Rattle.std.specs.Prelude.{◌≡◌, ℕ, ◌+◌, ◌*◌, ◌^◌, ◌<◌, ◌≤◌, Bool, List, Option, Result, MatchResult, IsOk, OnOk, OnErr}
use Rattle.clock2q_handles.specs.Homes.{with_handle, without_handle, count, total, IsNew}
use Rattle.clock2q_handles.specs.Layout.{layout, run, walk, spill_of, IsTooLong, IsBestPlaced}
use Rattle.clock2q_handles.specs.Positions.{GapValue, walk_to_gap}
use Rattle.clock2q_handles.specs.TableStep.{TableValue}
use Rattle.clock2q_handles.specs.declared.error.TableError.{TableError}
use Rattle.clock2q_handles.specs.declared.error.TableError.TheVariants.{RunTooLong}

-- a count rises by at most n
abbrev pub RisesAtMost : (n old new : ℕ) → Type 0
RisesAtMost n old new = (old ≤ new) × (new ≤ old + n)

module _ {H : Type 0} where
  -- v is put in under x, and no run is too long; or a run would be, and nothing is put in
  abbrev pub PutIn : List (List (ℕ × H)) → ℕ → H → Result (Unit {0}) TableError → List (List (ℕ × H)) → Type 0
  PutIn old x v result new = MatchResult result (λ _. (new ≡ with_handle old x v) × (IsTooLong (with_handle old x v) → ⊥)) (λ e. (e ≡ RunTooLong) × (new ≡ old) × IsTooLong (with_handle old x v))

  -- at most n slots are written
  abbrev pub WritesAtMost : ℕ → TableValue H → TableValue H → Type 0
  WritesAtMost n old new = (old.writes ≤ new.writes) × (new.writes ≤ old.writes + n)

  -- n slots are read, and as many more as are written
  abbrev pub ReadsWalk : ℕ → TableValue H → TableValue H → Type 0
  ReadsWalk n old new = new.reads + old.writes ≡ old.reads + n + new.writes

  -- at most n slots are read beside as many as are written
  abbrev pub ReadsAtMost : ℕ → TableValue H → TableValue H → Type 0
  ReadsAtMost n old new = (old.reads ≤ new.reads) × (new.reads + old.writes ≤ old.reads + n + new.writes)

  -- at most n slots are read, and nothing is written
  abbrev pub OnlyReads : ℕ → TableValue H → TableValue H → Type 0
  OnlyReads n old new = (new ≡ record old { reads = new.reads }) × RisesAtMost n old.reads new.reads

  -- the slots read and written by an insertion under x, whose gap may be known, and a removal under y: at most the walk of each, and twice its run with the slot of one more entry
  abbrev pub ChangesAtMost : Option GapValue → ℕ → ℕ → TableValue H → TableValue H → Type 0
  ChangesAtMost gap x y old new = RisesAtMost (walk_to_gap gap old.homes x + 2 * (run old.slots x + 1) + (walk old.homes y + 2 * (run old.slots y + 1))) (old.reads + old.writes) (new.reads + new.writes)

  -- removing v again restores the slots, if there was no such entry before
  abbrev pub Restores : (H → H → Bool) → ℕ → H → TableValue H → TableValue H → Type 0
  Restores eq x v old new = IsNew eq old.homes x v → layout (without_handle eq new.homes x v) ≡ old.slots

  -- the slots are the layout of the lists, and no placement of the entries does better
  pub record IsLaidOut (t : TableValue H) : Type 0 where
    pub laid : t.slots ≡ layout t.homes
    pub best : IsBestPlaced t.homes

  -- v is put in under x, and no run is too long; n slots are read, and as many more as are written
  pub record PutsUnder (eq : H → H → Bool) (x : ℕ) (v : H) (n : ℕ) (old new : TableValue H) : Type 0 where
    pub put : new.homes ≡ with_handle old.homes x v
    pub short : IsTooLong (with_handle old.homes x v) → ⊥
    pub writes : WritesAtMost (run old.slots x + 1) old new
    pub reads : ReadsWalk n old new
    pub restores : Restores eq x v old new
    pub laid : IsLaidOut new

  -- v is put in under x, whose gap may be known, and w is taken out under y
  pub record Exchanges (eq : H → H → Bool) (gap : Option GapValue) (x : ℕ) (v : H) (y : ℕ) (w : H) (old new : TableValue H) : Type 0 where
    pub replaced : new.homes ≡ with_handle (without_handle eq old.homes y w) x v
    pub accesses : ChangesAtMost gap x y old new
    pub longer : (z : ℕ) → walk new.homes z ≤ walk old.homes z + 1
    pub laid : IsLaidOut new

  -- v is put in under x below capacity, or refused because a run would be too long, which takes 2^24 entries and changes nothing
  pub record Inserts (eq : H → H → Bool) (x : ℕ) (v : H) (result : Result (Unit {0}) TableError) (old new : TableValue H) : Type 0 where
    pub put : PutIn old.homes x v result new.homes
    pub refused : OnErr result (new ≡ record old { reads = new.reads })
    pub few : total old.homes + 1 < 2 ^ 24 → IsOk result
    pub writes : WritesAtMost (run old.slots x + 1) old new
    pub reads : total old.homes + 1 < 2 ^ 24 → ReadsWalk 0 old new
    pub counted : old.reads ≤ new.reads
    pub restores : OnOk result (Restores eq x v old new)
    pub laid : IsLaidOut new

  -- no home's entries reach further past it than before
  abbrev pub IsNearer : List (List (ℕ × H)) → List (List (ℕ × H)) → Type 0
  IsNearer old new = (x : ℕ) → spill_of new x + count new x ≤ spill_of old x + count old x
