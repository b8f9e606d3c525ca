-- A directory with one slot, with a resident or without. A key's hash is its remainder.
use Rattle.std.specs.Prelude.{◌≡◌, ℕ, ◌+◌, ◌%◌, ◌^◌, ◌<◌, List, [], ◌∷◌, length, Some}
use Rattle.std.specs.List.{AllByRecursion}
use Rattle.clock2q_handles.specs.Homes.{capacity}
use Rattle.clock2q_directory.specs.Index.{slots}
use Rattle.clock2q_directory.specs.Indexes.{IsIndex}
use Rattle.clock2q_directory.specs.History.{Remembered, most_beside}
use Rattle.clock2q_directory.specs.Keys.{KeyPlaces, hash_at, key_at}

-- the key that takes a slot for a moment, and that is never remembered
abbrev pub nobody : ℕ
nobody = 18446744073709551615

-- the index has these slots, and room for one beside the most entries that there may be
pub record HasSlots (taken : List ℕ) (hashes : ℕ) (h : Remembered ℕ) (residents : KeyPlaces ℕ (Unit {0})) : Type 0 where
  pub some : 0 < hashes
  pub hashed : AllByRecursion (λ e. e.0 ≡ e.1 % hashes) h.entries
  pub indexed : IsIndex (slots h.places.index) residents.entries taken
  pub room : most_beside h < capacity (length (slots h.places.index))
  pub few : most_beside h + 1 < 2 ^ 24
  pub writable : 0 < residents.room
  pub short : length residents.entries < 2 ^ 32

-- no key is resident
abbrev pub IsAlone : ℕ → Remembered ℕ → KeyPlaces ℕ (Unit {0}) → Type 0
IsAlone hashes h residents = HasSlots [] hashes h residents

-- a key is resident at slot 0
pub record HasResident (key hashes : ℕ) (h : Remembered ℕ) (residents : KeyPlaces ℕ (Unit {0})) : Type 0 where
  pub taken : HasSlots (0 ∷ []) hashes h residents
  pub at : hash_at residents.entries 0 ≡ Some (key % hashes)
  pub is : key_at residents.entries 0 ≡ Some key
