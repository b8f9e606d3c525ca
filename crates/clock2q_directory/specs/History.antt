-- The history as a list of keys, newest first, and the index that has each key's place under its hash.
use Rattle.std.specs.Prelude.{◌≡◌, ℕ, ◌+◌, ◌-◌, ◌^◌, ◌⊎◌, max, ◌<◌, ◌≤◌, Bool, false, not, nat_lt, if◌then◌else◌, List, [], ◌∷◌, length, take, drop, Option, Some, None, nat_eq}
use Rattle.std.specs.List.{filter, find, zip, last_or, list_any, IsDistinct}
use Rattle.std.specs.Option.{option_map}
use Rattle.std.specs.Coded.{Coded, code_by, coded×, coded_ℕ, coded_list}
use Rattle.clock2q_handles.specs.Homes.{total, capacity}
use Rattle.clock2q_handles.specs.Positions.{GapValue}
use Rattle.clock2q_queues.specs.Rings.{without}
use Rattle.clock2q_directory.specs.Index as known
use Rattle.clock2q_directory.specs.Index.{IndexState, index_code, first_remembered, is_shared, entered_from, left, looked_up, remembered_at, forgotten_at, HasSlotUnder}
use Rattle.clock2q_directory.specs.declared.handle.Found.{Found}
use Rattle.clock2q_queues.specs.Cells.{Rises}
use Rattle.clock2q_directory.specs.declared.keys.Entry.{Entry}
use Rattle.clock2q_directory.specs.Keys.{KeyPlaces, entries_of}
use Rattle.clock2q_directory.specs.Indexes.{IsIndex, has_key}
use Rattle.clock2q_queues.specs.Order.{PlaceOrder, IsWholeOrder, used, place_for}
use mathlib.Core.Path.{refl}

-- the index of the known keys, the place of each remembered key, the newest key's first, and the free places that were used before, of which the first is used next
pub record Places : Type 0 where
  pub index : IndexState
  pub taken : List ℕ
  pub free : List ℕ

abbrev pub places_with : IndexState → List ℕ → List ℕ → Places
places_with index taken free = record { index = index; taken = taken; free = free }

abbrev pub places_code : Coded Places
places_code =
    code_by (IndexState × (List ℕ × List ℕ)) (coded× index_code (coded× (coded_list coded_ℕ) (coded_list coded_ℕ)))
    (λ p. (p.index, (p.taken, p.free))) (λ q. places_with q.0 q.1.0 q.1.1) (λ _. refl)

-- a hash is looked up
abbrev pub places_looked_up : (hash : ℕ) → Places → Places
places_looked_up hash p = record p { index = looked_up hash p.index }

-- the resident at a slot leaves, and is remembered at a free place, or at one that no key had yet
abbrev pub taking_free : (hash slot : ℕ) → Places → Places
taking_free hash slot p = let place = place_for (length p.taken) p.free in places_with (remembered_at hash slot place p.index) (place ∷ p.taken) (drop 1 p.free)

-- it is remembered at the oldest key's place, which the index had under that key's hash; if there is no place, it only
-- leaves
abbrev pub taking_oldest : (hash slot oldest : ℕ) → Option ℕ → Places → Places
taking_oldest hash slot oldest None p = places_with (left hash slot p.index) p.taken p.free
taking_oldest hash slot oldest (Some place) p = places_with (remembered_at hash slot place (forgotten_at oldest place p.index)) (place ∷ take (length p.taken - 1) p.taken) p.free

-- the resident at a slot leaves: at most `limit` places are taken at once
abbrev pub pushed_places : (limit hash slot oldest : ℕ) → Places → Places
pushed_places limit hash slot oldest p = if nat_lt (length p.taken) limit then taking_free hash slot p else taking_oldest hash slot oldest (last_or None p.taken) p

-- a key, whose gap a lookup may have found, enters at a slot once its resident has left
abbrev pub entering_places : (is_found : Bool) → (hash slot : ℕ) → Places → Places → Places
entering_places is_found hash slot before p = record p { index = entered_from before.index is_found hash slot p.index }

-- the key at this place is forgotten
abbrev pub freed_place : ℕ → Option ℕ → Places → Places
freed_place hash None p = p
freed_place hash (Some place) p = places_with (forgotten_at hash place p.index) (without place p.taken) (place ∷ p.free)

module _ {K : Type 0} where
  -- the place of the first key that passes the test
  abbrev pub place_of : (K → Bool) → List K → List ℕ → Option ℕ
  place_of is keys taken = option_map (λ e. e.1) (find (λ e. is e.0) (zip keys taken))

  -- the hash of the last of these, the oldest
  abbrev pub oldest_hash : (K → ℕ) → List K → ℕ
  oldest_hash hash keys = elim (last_or None keys) [ None ↦ 0 | Some k ↦ hash k ]

-- the keys, newest first, each with its hash; their limit; their places; and the numbers of accesses to links and of
-- comparisons
pub record Remembered (K : Type 0) : Type 0 where
  pub entries : List (ℕ × K)
  pub limit : ℕ
  pub places : Places
  pub accesses : ℕ
  pub comparisons : ℕ

abbrev pub remembered : {K : Type 0} → List (ℕ × K) → ℕ → Places → ℕ → ℕ → Remembered K
remembered entries limit places accesses comparisons = record { entries = entries; limit = limit; places = places; accesses = accesses; comparisons = comparisons }

abbrev pub remembered_code : {K : Type 0} → Coded K → Coded (Remembered K)
remembered_code {K} k =
    code_by (List (ℕ × K) × (ℕ × (Places × (ℕ × ℕ)))) (coded× (coded_list (coded× coded_ℕ k)) (coded× coded_ℕ (coded× places_code (coded× coded_ℕ coded_ℕ))))
    (λ h. (h.entries, (h.limit, (h.places, (h.accesses, h.comparisons))))) (λ q. remembered q.0 q.1.0 q.1.1.0 q.1.1.1.0 q.1.1.1.1) (λ _. refl)

-- the places as the index and the order have them
abbrev pub places_from : IndexState → PlaceOrder → Places
places_from index order = places_with index order.places order.free

-- the slot that a lookup finds, and the place, and the gap where a key that is absent would go, if it is known
abbrev pub found_slot : Found → Option ℕ
found_slot (Found.Resident slot) = Some slot
found_slot (Found.Remembered place) = None
found_slot (Found.Absent gap) = None

abbrev pub found_place : Found → Option ℕ
found_place (Found.Resident slot) = None
found_place (Found.Remembered place) = Some place
found_place (Found.Absent gap) = None

abbrev pub found_gap : Found → Option GapValue
found_gap (Found.Resident slot) = None
found_gap (Found.Remembered place) = None
found_gap (Found.Absent gap) = gap

-- the most entries that there may be beside the slots in their table: the places, and one that enters before another
-- leaves
abbrev pub most_beside : {K : Type 0} → Remembered K → ℕ
most_beside h = if is_shared h.places.index then h.limit + 1 else 0

-- one more slot fits beside the most entries that there may be
pub record HasRoomBesideMost {K : Type 0} (h : Remembered K) : Type 0 where
  pub room : total (known.slots h.places.index) + most_beside h < capacity (length (known.slots h.places.index))
  pub few : total (known.slots h.places.index) + most_beside h + 1 < 2 ^ 24

module _ {K : Type 0} (eq : K → K → Bool) where
  -- whether a key is remembered
  abbrev pub is_remembered : K → List (ℕ × K) → Bool
  is_remembered key entries = has_key eq key entries

  -- those without this key
  abbrev pub forgotten : K → List (ℕ × K) → List (ℕ × K)
  forgotten key entries = filter (λ e. not (eq key e.1)) entries

  -- a resident that leaves its slot may be remembered: the index has the slot, and the history doesn't have the key yet
  pub record MayRetire (hash slot : ℕ) (key : K) (h : Remembered K) : Type 0 where
    pub held : HasSlotUnder hash slot h.places.index
    pub absent : is_remembered key h.entries ≡ false

-- the invariant of a history: the keys are distinct, each place that was used has one, the index has the places in
-- order, and there is room for as many keys as the limit allows
pub record IsHistory {K V : Type 0} (eq : K → K → Bool) (index : IndexState) (order : PlaceOrder) (keys : KeyPlaces K V) : Type 0 where
  pub whole : IsWholeOrder order
  pub indexed : IsIndex (known.places index) keys.entries order.places
  pub distinct : IsDistinct (λ d e. eq d.1 e.1) (entries_of keys.entries order.places)
  pub as_many : length keys.entries ≡ used order
  pub room : order.limit ≤ keys.room
  pub some : 0 < length (known.places index) ⊎ (order.limit ≡ 0)
  pub own_room : is_shared index ≡ false → order.limit ≤ capacity (length (known.places index))
  pub short : order.limit < 2 ^ 24

-- what callers may rely on: the keys are distinct and within the limit, each of them is at its place, which the index
-- has under the key's hash, with nothing else, and a table of the places' own has room for as many as the limit allows
pub record IsWholeHistory {K : Type 0} (eq : K → K → Bool) (h : Remembered K) : Type 0 where
  pub distinct : IsDistinct (λ d e. eq d.1 e.1) h.entries
  pub within : length h.entries ≤ h.limit
  pub own_room : is_shared h.places.index ≡ false → h.limit ≤ capacity (length (known.places h.places.index))
  pub indexed : (keys : List (Entry K Unit)) × (h.entries ≡ entries_of keys h.places.taken) × (length h.entries ≡ length h.places.taken) × IsIndex (known.places h.places.index) keys h.places.taken

-- a place was put at the front for a new key: an order that was full lost its last place, and the index lost that
-- place's key
pub record MakesPlace {K V : Type 0} (index index' : IndexState) (order order' : PlaceOrder) (keys : List (Entry K V)) (place : ℕ) : Type 0 where
  pub places : order'.places ≡ place ∷ take (order.limit - 1) order.places
  pub absent : list_any (nat_eq place) (take (order.limit - 1) order.places) ≡ false
  pub indexed : IsIndex (known.places index') keys (take (order.limit - 1) order.places)
  pub slots : known.slots index' ≡ known.slots index
  pub shared : is_shared index' ≡ is_shared index
  pub as_many : length (known.places index') ≡ length (known.places index)
  pub next : place ≤ length keys
  pub below : place < order.limit
  pub used_now : used order' ≡ max (length keys) (place + 1)
  pub limit : order'.limit ≡ order.limit
  pub accesses : Rises 1 7 order.accesses order'.accesses
  pub placed : (hash slot : ℕ) → places_with (remembered_at hash slot place index') order'.places order'.free
      ≡ pushed_places order.limit hash slot (oldest_hash (λ (e : ℕ × K). e.0) (entries_of keys order.places)) (places_from index order)

-- the number of accesses to links: to the records, and one for each key that was written to a place
abbrev pub accesses_of : {K V : Type 0} → PlaceOrder → KeyPlaces K V → ℕ
accesses_of order keys = order.accesses + keys.writes

-- the history that contracts see
abbrev pub remembered_from : {K V : Type 0} → IndexState → PlaceOrder → KeyPlaces K V → Remembered K
remembered_from index order keys = remembered (entries_of keys.entries order.places) order.limit (places_from index order) (accesses_of order keys) keys.comparisons

-- the first handle that has a key, as a resident or as a remembered key, or else the gap where the handles end
module _ (resident remembered_key : ℕ → Bool) (end : Option GapValue) where
  abbrev pub first_known : List ℕ → Found
  first_known [] = Found.Absent end
  first_known (h ∷ handles) =
      if nat_lt h first_remembered then (if resident h then Found.Resident h else first_known handles)
      else (if remembered_key (h - first_remembered) then Found.Remembered (h - first_remembered) else first_known handles)
