-- An index, and a directory, that were made larger: what each key has there stays, and the tables are those of a new one.
use Rattle.std.specs.Prelude.{◌≡◌, ℕ, ◌+◌, ◌*◌, ◌^◌, ◌<◌, ◌≤◌, if◌then◌else◌, List, length, nat_eq}
use Rattle.std.specs.List.{AllByRecursion, IsDistinct}
use Rattle.clock2q_handles.specs.Homes.{total, capacity, with_handle}
use Rattle.clock2q_directory.specs.Accesses.{most_changed}
use Rattle.clock2q_directory.specs.declared.keys.Entry.{Entry}
use Rattle.clock2q_directory.specs.Indexes.{IsIndex}
use Rattle.clock2q_directory.specs.Index as known
use Rattle.clock2q_directory.specs.Index.{IndexState, first_remembered, index_for, is_shared}
use Rattle.clock2q_directory.specs.History.{Remembered}
use Rattle.clock2q_directory.specs.Directory.{Known}

-- a key with this hash is remembered at a place
abbrev pub place_entered : (hash place : ℕ) → IndexState → IndexState
place_entered hash place v =
    if is_shared v then record v { shared = with_handle v.shared hash (first_remembered + place); accesses = v.accesses + most_changed v.shared hash }
    else record v { own = with_handle v.own hash place; accesses = v.accesses + most_changed v.own hash }

-- the number of slots in the table of the places
abbrev pub slots_beside : IndexState → ℕ
slots_beside v = if is_shared v then total (known.slots v) else 0

-- one more place fits in the table of the places, and makes no run too long
pub record HasRoomForPlace (v : IndexState) : Type 0 where
  pub room : total (known.places v) + slots_beside v < capacity (length (known.places v))
  pub few : total (known.places v) + slots_beside v + 1 < 2 ^ 24

-- slots and places share a table in both or in neither, and the tables have as many slots
pub record HasSizesOf (v w : IndexState) : Type 0 where
  pub shared : is_shared w ≡ is_shared v
  pub slots : length (known.slots w) ≡ length (known.slots v)
  pub places : length (known.places w) ≡ length (known.places v)

-- whatever distinct numbers of these keys one index has, the other has the same
abbrev pub Keeps : {K V : Type 0} → (keys : List (Entry K V)) → (from to : List (List (ℕ × ℕ))) → Type 0
Keeps keys from to = (taken : List ℕ) → IsDistinct nat_eq taken → AllByRecursion (λ n. n < length keys) taken → IsIndex from keys taken → IsIndex to keys taken

-- an index got the places of another
pub record AddsPlaces {K V : Type 0} (keys : List (Entry K V)) (from old new : IndexState) : Type 0 where
  pub kept : Keeps keys (known.places from) (known.places new)
  pub few : total (known.places new) ≤ length keys
  pub others : known.slots new ≡ known.slots old
  pub sizes : HasSizesOf old new
  pub accesses : old.accesses ≤ new.accesses

-- an index got the slots of another
pub record AddsSlots {K V : Type 0} (keys : List (Entry K V)) (from old new : IndexState) : Type 0 where
  pub kept : Keeps keys (known.slots from) (known.slots new)
  pub others : known.places new ≡ known.places old
  pub sizes : HasSizesOf old new
  pub accesses : old.accesses ≤ new.accesses

-- an index has the slots and the places of another, and the tables of a new one for so many residents and remembered keys
pub record Outgrows {K V L W : Type 0} (slots places : ℕ) (residents : List (Entry K V)) (remembered : List (Entry L W)) (old new : IndexState) : Type 0 where
  pub slots_kept : Keeps residents (known.slots old) (known.slots new)
  pub places_kept : Keeps remembered (known.places old) (known.places new)
  pub sizes : HasSizesOf (index_for slots places) new
  pub accesses : old.accesses ≤ new.accesses

-- a directory has room for so many residents and remembered keys: each key is where it was, the index has the tables of a
-- new one, and the link of each place that was used was read and written
pub record Grows {K V : Type 0} (slots limit : ℕ) (old : Known K V) (new : Remembered K) : Type 0 where
  pub becomes : new ≡ record old.history {
    limit = limit;
    places = record old.history.places { index = new.places.index };
    accesses = new.accesses;
  }
  pub residents : Keeps old.residents.entries (known.slots old.history.places.index) (known.slots new.places.index)
  pub sizes : HasSizesOf (index_for slots limit) new.places.index
  pub index_accesses : old.history.places.index.accesses ≤ new.places.index.accesses
  pub places : length old.history.places.taken + length old.history.places.free ≤ old.history.limit
  pub accesses : new.accesses ≡ old.history.accesses + 2 * (length old.history.places.taken + length old.history.places.free)
