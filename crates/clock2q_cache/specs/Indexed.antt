-- What is in the index of a cache: the slot or place of each key under the key's hash, and nothing else.
use Rattle.std.specs.Prelude.{◌≡◌, ℕ, ◌+◌, ◌≤◌, ◌==◌, ◌&&◌, false, if◌then◌else◌, List, length, nat_eq}
use Rattle.std.specs.List.{list_any, zip, IsDistinct}
use Rattle.std.specs.declared.hash.Hasher as hasher
use Rattle.std.specs.declared.hash.BuildHasher as builder
use Rattle.std.specs.HashMap.Lent.{HashMembers}
use Rattle.clock2q_handles.specs.Homes.{candidates, capacity, total}
use Rattle.clock2q_directory.specs.Indexes.{is_alike}
use Rattle.clock2q_directory.specs.Index.{is_shared}
use Rattle.clock2q_machine.specs.Machine.{residents}
use Rattle.clock2q_cache.specs.CacheState.{CacheState, residents_in, remembered_in}
use Rattle.clock2q_cache.specs.Hashes.{hash_of}

-- a lookup of a hash finds the places of the keys with a hash like it, each once, and there are as many entries as keys
pub record HasPlaces {K : Type 0} (hash : K → ℕ) (index : List (List (ℕ × ℕ))) (keys : List (K × ℕ)) : Type 0 where
  pub found : (x place : ℕ) → list_any (nat_eq place) (candidates index x) ≡ list_any (λ e. (place == e.1) && is_alike index x (hash e.0)) keys
  pub once : (x : ℕ) → IsDistinct nat_eq (candidates index x)
  pub counted : total index ≡ length keys

module _ {K V S H : Type 0} (key : HashMembers K) (build : builder.Ghosts S H) (hash : hasher.Ghosts H) where
  -- the index has the residents' slots, and the place of each key of the history
  pub record IsIndexed (c : CacheState K V S) : Type 0 where
    pub residents : HasPlaces (λ k. hash_of build hash c.hasher (key.hash_input k)) (residents_in c.known) (residents c.machine)
    pub as_many : length c.known.taken ≡ length c.machine.history
    pub remembered : HasPlaces (λ k. hash_of build hash c.hasher (key.hash_input k)) (remembered_in c.known) (zip c.machine.history c.known.taken)

-- three quarters of the index's slots are enough for every key that it may ever have: the residents and, if they share
-- their table, the remembered keys and one that enters before another leaves; otherwise the remembered keys have a table
-- of their own
pub record IsSpacious {K V S : Type 0} (c : CacheState K V S) : Type 0 where
  pub residents : c.machine.shares.capacity + (if is_shared c.known.index then c.machine.shares.history + 1 else 0) ≤ capacity (length (residents_in c.known))
  pub remembered : is_shared c.known.index ≡ false → c.machine.shares.history ≤ capacity (length (remembered_in c.known))
