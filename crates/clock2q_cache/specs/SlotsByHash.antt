-- The slots of the residents whose keys have one hash.
use Rattle.std.specs.Prelude.{◌≡◌, ℕ, Bool, false, ◌==◌, List, Some, None, nat_eq}
use Rattle.std.specs.List.{filter, list_any, IsDistinct}
use Rattle.std.specs.declared.hash.Hasher as hasher
use Rattle.std.specs.declared.hash.BuildHasher as builder
use Rattle.std.specs.HashMap.Lent.{HashMembers}
use Rattle.clock2q_handles.specs.Homes.{candidates}
use Rattle.clock2q_machine.specs.Machine.{Machine, resident_at}
use Rattle.clock2q_cache.specs.CacheState.{CacheState, residents_in}
use Rattle.clock2q_cache.specs.Hashes.{hash_of}

-- whether there is a resident at a slot whose key has this hash
abbrev pub has_hash_at : {K V : Type 0} → (K → ℕ) → ℕ → Machine K V → ℕ → Bool
has_hash_at hash h m slot = elim (resident_at m slot) [ None ↦ false | Some r ↦ hash r.0 == h ]

module _ {K V S H : Type 0} (key : HashMembers K) (build : builder.Ghosts S H) (hash : hasher.Ghosts H) where
  -- the hash of a key
  abbrev pub hash_in : CacheState K V S → K → ℕ
  hash_in c k = hash_of build hash c.hasher (key.hash_input k)

  -- the slots of the residents whose keys have it, in the index's order
  abbrev pub slots_with_hash : ℕ → CacheState K V S → List ℕ
  slots_with_hash h c = filter (has_hash_at (hash_in c) h c.machine) (candidates (residents_in c.known) h)

  -- these are the slots of all residents whose keys have it, each once, and no others
  pub record ListsOnce (h : ℕ) (c : CacheState K V S) : Type 0 where
    pub each : (slot : ℕ) → list_any (nat_eq slot) (slots_with_hash h c) ≡ has_hash_at (hash_in c) h c.machine slot
    pub once : IsDistinct nat_eq (slots_with_hash h c)
