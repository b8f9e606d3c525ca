-- What a call does to the index of a cache, and to the places of its history's keys.
use Rattle.std.specs.Prelude.{◌≡◌, ℕ, Bool, false, not, if◌then◌else◌, Option, Some, None, is_some}
use Rattle.std.specs.List.{list_any, last_or}
use Rattle.std.specs.declared.hash.Hasher as hasher
use Rattle.std.specs.declared.hash.BuildHasher as builder
use Rattle.std.specs.HashMap.Lent.{HashMembers}
use Rattle.clock2q_machine.specs.Ages.{is_promoted}
use Rattle.clock2q_machine.specs.Entries.{SmallEntry}
use Rattle.clock2q_cache.specs.Hashes.{hash_of}
use Rattle.clock2q_directory.specs.Index as known
use Rattle.clock2q_directory.specs.History.{Places, place_of, places_looked_up, freed_place, pushed_places, oldest_hash}
use Rattle.clock2q_machine.specs.Machine.{Machine, resident_at, slot_of, vacancy, goes_to_main, forgotten, placement}
use Rattle.clock2q_cache.specs.CacheState.{CacheState}

-- the resident that was at a slot, if any, leaves
abbrev pub left_by : {K : Type 0} → (K → ℕ) → Option (K × ℕ) → ℕ → Places → Places
left_by hash None slot p = p
left_by hash (Some r) slot p = record p { index = known.left (hash r.0) slot p.index }

module _ {K V : Type 0} where
  -- the key that passes the test, which has this hash, is erased from the history
  abbrev pub discarded : {S : Type 0} → (K → Bool) → ℕ → CacheState K V S → Places
  discarded is hash c = freed_place hash (place_of is c.machine.history c.known.taken) c.known

  module _ (hash : K → ℕ) where
    -- a key leaves its slot for the history
    abbrev pub remembering : K → ℕ → Machine K V → Places → Places
    remembering key slot m p = pushed_places m.shares.history (hash key) slot (oldest_hash hash m.history) p

    -- the slot is vacated: by a key that goes into the history, or by the resident that was there
    abbrev pub vacated_for : Option K → ℕ → Machine K V → Places → Places
    vacated_for None slot m p = left_by hash (resident_at m slot) slot p
    vacated_for (Some key) slot m p = remembering key slot m p

    -- a key, whose gap a lookup may have found, is at a slot that another one vacated, or that was free, at the cost that
    -- it had before that
    abbrev pub entered : K → ℕ → (is_found : Bool) → Option K → Machine K V → Places → Places
    entered key slot is_found out m p = let q = vacated_for out slot m p in record q { index = known.entered_from p.index is_found (hash key) slot q.index }

module _ {K : Type 0} where
  -- the key of Small's tail, if the tail is evicted
  abbrev pub key_out : Option (SmallEntry K) → Option K
  key_out None = None
  key_out (Some tail) = if is_promoted tail.age then None else Some tail.key

module _ {K V : Type 0} where
  -- the key that is evicted when one enters Small, or enters Main or Small
  abbrev pub out_of_small : Machine K V → Option K
  out_of_small m = if is_some (vacancy m) then None else key_out (last_or None m.small)

  abbrev pub out_of : Bool → Machine K V → Option K
  out_of main m = if main then None else out_of_small m

  -- a key, whose gap a lookup may have found, entered at a slot, and at most one other left for the history
  abbrev pub Reindexes : {S : Type 0} → (K → ℕ) → K → ℕ → (is_found : Bool) → Option K → CacheState K V S → CacheState K V S → Type 0
  Reindexes hash key slot is_found out old new = new.known ≡ entered hash key slot is_found out old.machine old.known

module _ {K V S H : Type 0} (key : HashMembers K) (build : builder.Ghosts S H) (hash : hasher.Ghosts H) where
  -- the hash of a key in a cache
  abbrev pub hash_in : CacheState K V S → K → ℕ
  hash_in c k = hash_of build hash c.hasher (key.hash_input k)

  -- a cache once a key was looked up
  abbrev pub looked_for : K → CacheState K V S → CacheState K V S
  looked_for k c = record c { known = places_looked_up (hash_in c k) c.known }

  -- the index once a key that wasn't resident, and whose gap a lookup may have found, has this slot
  abbrev pub known_at : K → ℕ → (is_found : Bool) → CacheState K V S → Places
  known_at k slot is_found c =
      let m = forgotten (key.eq k) c.machine in
      let main = goes_to_main (list_any (key.eq k) c.machine.history) c.machine in
      entered (hash_in c) k slot is_found (out_of main m) m (discarded (key.eq k) (hash_in c k) c)

  -- the index once a key was looked up and has its slot: otherwise unchanged if the key was resident
  abbrev pub known_once : (is_found : Bool) → K → CacheState K V S → Places
  known_once is_found k c = let l = looked_for k c in if is_some (slot_of (key.eq k) c.machine) then l.known else known_at k (placement (key.eq k) k c.machine).slot is_found l

  -- the lookup found the key's gap, unless the history has the key
  abbrev pub known_with : K → CacheState K V S → Places
  known_with k c = known_once (not (is_some (place_of (key.eq k) c.machine.history c.known.taken))) k c

  -- the same if a key that wasn't resident was looked up once more, in the history
  abbrev pub known_taken : K → CacheState K V S → Places
  known_taken k c = let l = looked_for k c in if is_some (slot_of (key.eq k) c.machine) then l.known else known_at k (placement (key.eq k) k c.machine).slot false (looked_for k l)
