-- The index of a cache: where each known key is, under the key's hash.
use Rattle.std.specs.Prelude.{◌≡◌, ℕ, ◌+◌, ◌-◌, ◌*◌, ◌^◌, ◌<◌, ◌≤◌, max, nat_eq, nat_lt, nat_le, Bool, true, false, not, ◌==◌, ◌&&◌, if◌then◌else◌, List, [], map, length, Option, Some, None, IfSome}
use Rattle.std.specs.List.{filter, list_any}
use Rattle.std.specs.Coded.{Coded, code_by, coded×, coded_ℕ, coded_list}
use Rattle.clock2q_handles.specs.Homes.{candidates, total, capacity, no_entries, with_handle, without_handle}
use Rattle.clock2q_handles.specs.Layout.{layout, walk}
use Rattle.clock2q_handles.specs.Positions.{GapValue, gap_of, handle_replaced}
use Rattle.clock2q_handles.specs.TableStep.{TableValue, made_for}
use Rattle.clock2q_directory.specs.declared.handle.Handle.{Handle}
use Rattle.clock2q_directory.specs.Accesses.{most_changed, most_inserted}
use mathlib.Core.Path.{refl}

-- a resident's handle is its slot, and a remembered key's handle is this plus its place
abbrev pub first_remembered : ℕ
first_remembered = 2147483648

-- the slot or the place
abbrev pub number_in : Handle → ℕ
number_in (Handle.Resident slot) = slot
number_in (Handle.Remembered place) = place

-- the number that a table stores
abbrev pub packed : Handle → ℕ
packed (Handle.Resident slot) = slot
packed (Handle.Remembered place) = first_remembered + place

-- what a stored number says
abbrev pub unpacked : ℕ → Handle
unpacked h = if nat_lt h first_remembered then Handle.Resident h else Handle.Remembered (h - first_remembered)

-- the slots among handles, in order
abbrev pub slots_among : List ℕ → List ℕ
slots_among handles = filter (λ h. nat_lt h first_remembered) handles

-- the places among handles, in order
abbrev pub places_among : List ℕ → List ℕ
places_among handles = map (λ h. h - first_remembered) (filter (λ h. not (nat_lt h first_remembered)) handles)

-- the entries of a list that have slots
abbrev pub slot_entries : List (ℕ × ℕ) → List (ℕ × ℕ)
slot_entries es = filter (λ e. nat_lt e.1 first_remembered) es

-- the entries of a list that have places, each with its place
abbrev pub place_entries : List (ℕ × ℕ) → List (ℕ × ℕ)
place_entries es = map (λ e. (e.0, e.1 - first_remembered)) (filter (λ e. not (nat_lt e.1 first_remembered)) es)

-- a table's lists by home, with the slots alone
abbrev pub slots_in : List (List (ℕ × ℕ)) → List (List (ℕ × ℕ))
slots_in homes = map slot_entries homes

-- a table's lists by home, with the places alone
abbrev pub places_in : List (List (ℕ × ℕ)) → List (List (ℕ × ℕ))
places_in homes = map place_entries homes

-- the lists by home of the table that has the slots, and of the places' own, which is used if one table would have too
-- many entries, and the number of slots of both that changes read and wrote and lookups read
pub record IndexState : Type 0 where
  pub shared : List (List (ℕ × ℕ))
  pub own : List (List (ℕ × ℕ))
  pub accesses : ℕ

-- with these lists, and no slot was read or written
abbrev pub index_state : List (List (ℕ × ℕ)) → List (List (ℕ × ℕ)) → IndexState
index_state shared own = record { shared = shared; own = own; accesses = 0 }

-- an index of two tables, and all that it was charged
abbrev pub index_of : TableValue ℕ → TableValue ℕ → ℕ → IndexState
index_of shared own charged = record { shared = shared.homes; own = own.homes; accesses = charged }

abbrev pub homes_code : Coded (List (List (ℕ × ℕ)))
homes_code = coded_list (coded_list (coded× coded_ℕ coded_ℕ))

abbrev pub index_code : Coded IndexState
index_code = code_by (List (List (ℕ × ℕ)) × (List (List (ℕ × ℕ)) × ℕ)) (coded× homes_code (coded× homes_code coded_ℕ)) (λ v. (v.shared, (v.own, v.accesses)))
    (λ p. record { shared = p.0; own = p.1.0; accesses = p.1.1 }) (λ _. refl)

-- whether slots and places share a table: the places' own then has no slots
abbrev pub is_shared : IndexState → Bool
is_shared v = length v.own == 0

-- the residents' slots by home
abbrev pub slots : IndexState → List (List (ℕ × ℕ))
slots v = slots_in v.shared

-- the remembered keys' places by home
abbrev pub places : IndexState → List (List (ℕ × ℕ))
places v = if is_shared v then places_in v.shared else v.own

-- the number of places in the table of the slots
abbrev pub beside : IndexState → ℕ
beside v = if is_shared v then total (places v) else 0

-- a key with this hash becomes resident at a slot once others have left, at the cost that it has in the index before
-- that: a gap that a lookup has found spares the walk, if slots and places share a table
abbrev pub entered_from : (base : IndexState) → (is_found : Bool) → (hash slot : ℕ) → IndexState → IndexState
entered_from base is_found hash slot v =
    record v { shared = with_handle v.shared hash slot; accesses = v.accesses + most_inserted (is_found && is_shared base) base.shared hash }

-- no other has left
abbrev pub entered : (is_found : Bool) → (hash slot : ℕ) → IndexState → IndexState
entered is_found hash slot v = entered_from v is_found hash slot v

-- the resident at a slot leaves
abbrev pub left : (hash slot : ℕ) → IndexState → IndexState
left hash slot v = record v { shared = without_handle nat_eq v.shared hash slot; accesses = v.accesses + most_changed v.shared hash }

-- the resident at a slot leaves, and is remembered at a place
abbrev pub remembered_at : (hash slot place : ℕ) → IndexState → IndexState
remembered_at hash slot place v =
    if is_shared v then record v { shared = handle_replaced nat_eq v.shared hash slot (first_remembered + place); accesses = v.accesses + most_changed v.shared hash }
    else record {
      shared = without_handle nat_eq v.shared hash slot;
      own = with_handle v.own hash place;
      accesses = v.accesses + most_changed v.shared hash + most_changed v.own hash;
    }

-- the key at a place is forgotten
abbrev pub forgotten_at : (hash place : ℕ) → IndexState → IndexState
forgotten_at hash place v =
    if is_shared v then record v { shared = without_handle nat_eq v.shared hash (first_remembered + place); accesses = v.accesses + most_changed v.shared hash }
    else record v { own = without_handle nat_eq v.own hash place; accesses = v.accesses + most_changed v.own hash }

-- the oldest key, whose hash this is, is forgotten, if one is
abbrev pub forgotten_if : Option ℕ → ℕ → IndexState → IndexState
forgotten_if None place v = v
forgotten_if (Some oldest) place v = forgotten_at oldest place v

-- no key is known
abbrev pub emptied : IndexState → IndexState
emptied v = record {
  shared = no_entries (length v.shared);
  own = no_entries (length v.own);
  accesses = v.accesses + length v.shared + length v.own;
}

-- the most slots of both tables that one change under a hash reads and writes
abbrev pub most_reached : IndexState → ℕ → ℕ
most_reached v x = most_changed v.shared x + most_changed v.own x

-- the most slots of both tables that a lookup of a hash reads: one walk in each
abbrev pub most_read : IndexState → ℕ → ℕ
most_read v x = walk v.shared x + walk v.own x

-- a hash is looked up
abbrev pub looked_up : (hash : ℕ) → IndexState → IndexState
looked_up hash v = record v { accesses = v.accesses + most_read v hash }

-- neither table has more entries than three quarters of its slots
pub record IsWithinCapacity (v : IndexState) : Type 0 where
  pub shared : total v.shared ≤ capacity (length v.shared)
  pub own : total v.own ≤ capacity (length v.own)

-- the most entries for which a table gets three times the room
abbrev pub small_table : ℕ
small_table = 16384

-- the most entries for which a table gets twice the room
abbrev pub middle_table : ℕ
middle_table = 262144

-- the number of entries that a table of at most `most` is made for: three times as many if it is small, twice as many
-- if it is of medium size, and no more if it is large
abbrev pub index_room : ℕ → ℕ
index_room most = if nat_le most small_table then 3 * most else (if nat_le most middle_table then 2 * most else most + 1)

-- the most entries of slots and places that share a table: with one more, no run is too long
abbrev pub most_entries : ℕ
most_entries = 16777214

-- an empty index for at most `slots` residents and `places` remembered keys: one table has the entries of both, unless
-- they are too many
abbrev pub index_for : (slots places : ℕ) → IndexState
index_for slots places =
    if nat_le (slots + places) most_entries then index_state (made_for (index_room (slots + places))) []
    else index_state (made_for (index_room slots)) (made_for (index_room (max places 1)))

-- the table of the slots has slots; if the places have a table of their own, it has room for some places, and no place
-- is among the slots
pub record IsSorted (v : IndexState) : Type 0 where
  pub some : 0 < length v.shared
  pub apart : is_shared v ≡ false → total (places_in v.shared) ≡ 0
  pub takes : is_shared v ≡ false → 0 < capacity (length v.own)

-- two tables have such lists, and each has its entries laid out in its slots; all slots that were read and written are charged
pub record AreLaidOut (shared own : TableValue ℕ) (charged : ℕ) : Type 0 where
  pub sorted : IsSorted (index_state shared.homes own.homes)
  pub shared_laid : shared.slots ≡ layout shared.homes
  pub own_laid : own.slots ≡ layout own.homes
  pub counted : shared.reads + shared.writes + (own.reads + own.writes) ≤ charged

-- one more slot fits, and makes no run too long
pub record HasSlotRoom (v : IndexState) : Type 0 where
  pub room : total (slots v) + beside v < capacity (length (slots v))
  pub few : total (slots v) + beside v + 1 < 2 ^ 24

-- one more place fits in the places' own table, and makes no run too long
pub record HasPlaceRoom (v : IndexState) : Type 0 where
  pub room : is_shared v ≡ false → total (places v) < capacity (length (places v))
  pub few : is_shared v ≡ false → total (places v) + 1 < 2 ^ 24

-- no run is too long, and a table that slots and places share has room for one entry more: a key that takes another's
-- slot may enter before the other leaves
pub record HasRoomBeside (v : IndexState) : Type 0 where
  pub few : total (slots v) + beside v < 2 ^ 24
  pub spare : is_shared v ≡ true → HasSlotRoom v

-- the index has a resident's slot under the hash of its key
pub record HasSlotUnder (hash slot : ℕ) (v : IndexState) : Type 0 where
  pub below : slot < 2 ^ 31
  pub there : list_any (nat_eq slot) (candidates (slots v) hash) ≡ true

-- if a lookup of the hash found a gap in the table of the slots, it is this one
abbrev pub IsGapFor : Option GapValue → ℕ → IndexState → Type 0
IsGapFor gap hash v = IfSome gap (λ g. g ≡ gap_of v.shared hash)

-- a key may take a slot, whose old key is remembered at a place: one that has no key, or that of the oldest key, whose
-- hash this is
pub record MaySucceed (slot old_hash place : ℕ) (oldest : Option ℕ) (v : IndexState) : Type 0 where
  pub held : HasSlotUnder old_hash slot v
  pub short : place < 2 ^ 31
  pub held_place : IfSome oldest (λ o. list_any (nat_eq place) (candidates (places v) o) ≡ true)
