-- The known keys: the remembered ones with the index, and the residents' by slot; and how a key that takes a slot
-- changes them.
use Rattle.std.specs.Prelude.{◌≡◌, ℕ, ◌+◌, ◌^◌, ◌<◌, ◌≤◌, Bool, true, List, [], ◌∷◌, take, length, Option, Some, IfNone, nat_eq}
use Rattle.std.specs.Coded.{Coded, code_by, coded×}
use Rattle.std.specs.List.{list_any, IsDistinct}
use Rattle.clock2q_handles.specs.Homes.{total, capacity}
use Rattle.clock2q_queues.specs.Cells.{Rises}
use Rattle.clock2q_directory.specs.Keys.{KeyPlaces, keys_code, key_places, hash_at, key_at}
use Rattle.clock2q_directory.specs.Indexes.{IsIndex}
use Rattle.clock2q_directory.specs.Index.{index_for, slots, entered_from, left}
use Rattle.clock2q_directory.specs.History.{Remembered, HasRoomBesideMost, remembered, remembered_code, places_with, pushed_places, oldest_hash, most_beside}
use mathlib.Core.Path.{refl}

-- the remembered keys with the index of all keys, and the residents' keys and values by slot
pub record Known (K V : Type 0) : Type 0 where
  pub history : Remembered K
  pub residents : KeyPlaces K V

abbrev pub known : {K V : Type 0} → Remembered K → KeyPlaces K V → Known K V
known history residents = record { history = history; residents = residents }

abbrev pub known_code : {K V : Type 0} → Coded K → Coded V → Coded (Known K V)
known_code {K} {V} k v = code_by (Remembered K × KeyPlaces K V) (coded× (remembered_code k) (keys_code k v)) (λ d. (d.history, d.residents)) (λ p. known p.0 p.1) (λ _. refl)

-- no key is known, and nothing was counted
abbrev pub nothing_known : {K V : Type 0} → (residents limit : ℕ) → Known K V
nothing_known residents limit = known (remembered [] limit (places_with (index_for residents limit) [] []) 0 0) (key_places [] residents 0 0)

-- the index has room for the slots that it has, beside the most entries that there may be
pub record IsWithinRoom {K : Type 0} (h : Remembered K) : Type 0 where
  pub room : total (slots h.places.index) + most_beside h ≤ capacity (length (slots h.places.index))
  pub few : total (slots h.places.index) + most_beside h < 2 ^ 24

module _ {K V : Type 0} where
  -- a key may take this slot, which has no resident: the next one, or one that was made before
  pub record IsVacant (value : Option V) (slot : ℕ) (d : Known K V) : Type 0 where
    pub next : slot ≤ length d.residents.entries
    pub had : IfNone value (slot < length d.residents.entries)
    pub room : slot < d.residents.room
    pub few : length d.residents.entries < 2 ^ 32
    pub below : slot < 2 ^ 24
    pub index_room : HasRoomBesideMost d.history

  -- a resident is at this slot: the index has the residents' slots, each once, and this one is among them
  pub record IsResident (slot : ℕ) (d : Known K V) : Type 0 where
    pub taken : List ℕ
    pub indexed : IsIndex (slots d.history.places.index) d.residents.entries taken
    pub apart : IsDistinct nat_eq taken
    pub there : list_any (nat_eq slot) taken ≡ true
    pub made : slot < length d.residents.entries
    pub below : slot < 2 ^ 24

  -- the resident at a slot left the index
  pub record Leaves (slot : ℕ) (old : Known K V) (new : Remembered K) : Type 0 where
    pub hash : ℕ
    pub had : hash_at old.residents.entries slot ≡ Some hash
    pub becomes : new ≡ record old.history { places = record old.history.places { index = left hash slot old.history.places.index } }

  -- the resident at a slot left the index, and its key is the newest remembered one, unless the limit is zero
  pub record Retires (slot : ℕ) (key : K) (old : Known K V) (new : Remembered K) : Type 0 where
    pub hash : ℕ
    pub had_hash : hash_at old.residents.entries slot ≡ Some hash
    pub had_key : key_at old.residents.entries slot ≡ Some key
    pub becomes : new ≡ record old.history {
      entries = take old.history.limit ((hash, key) ∷ old.history.entries);
      places = new.places;
      accesses = new.accesses;
    }
    pub places : new.places ≡ pushed_places old.history.limit hash slot (oldest_hash (λ (e : ℕ × K). e.0) old.history.entries) old.history.places
    pub accesses : Rises 0 8 old.history.accesses new.accesses

  -- a key with this hash, whose gap a lookup may have found, is in the index at a slot, whose resident left it and is the
  -- newest remembered key, unless the limit is zero
  pub record Remembers (is_found : Bool) (hash slot : ℕ) (old : Known K V) (new : Remembered K) : Type 0 where
    pub old_hash : ℕ
    pub old_key : K
    pub had_hash : hash_at old.residents.entries slot ≡ Some old_hash
    pub had_key : key_at old.residents.entries slot ≡ Some old_key
    pub becomes : new ≡ record old.history {
      entries = take old.history.limit ((old_hash, old_key) ∷ old.history.entries);
      places = new.places;
      accesses = new.accesses;
    }
    pub places : new.places ≡ (let p = pushed_places old.history.limit old_hash slot (oldest_hash (λ (e : ℕ × K). e.0) old.history.entries) old.history.places in
        record p { index = entered_from old.history.places.index is_found hash slot p.index })
    pub accesses : Rises 0 8 old.history.accesses new.accesses
