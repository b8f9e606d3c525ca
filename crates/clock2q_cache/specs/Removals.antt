-- What a removal does to the index of a cache.
use Rattle.std.specs.Prelude.{if◌then◌else◌, is_some, length, None, Some}
use Rattle.std.specs.List.{fold, range_with_len}
use Rattle.std.specs.declared.hash.Hasher as hasher
use Rattle.std.specs.declared.hash.BuildHasher as builder
use Rattle.std.specs.HashMap.Lent.{HashMembers}
use Rattle.clock2q_directory.specs.History.{Places}
use Rattle.clock2q_machine.specs.Machine.{Machine, resident_at, slot_of}
use Rattle.clock2q_cache.specs.CacheState.{CacheState}
use Rattle.clock2q_cache.specs.Places.{discarded, hash_in, left_by, looked_for}

module _ {K V S H : Type 0} (key : HashMembers K) (build : builder.Ghosts S H) (hash : hasher.Ghosts H) where
  -- the index once a key was looked up and removed: from its slot, or from the history
  abbrev pub known_without : K → CacheState K V S → Places
  known_without k c =
      let l = looked_for key build hash k c in
      elim (slot_of (key.eq k) c.machine) [
        | None ↦ discarded (key.eq k) (hash_in key build hash c k) l
        | Some slot ↦ left_by (hash_in key build hash c) (resident_at c.machine slot) slot l.known
      ]

  -- the index once the residents that this machine doesn't have left, by ascending slot
  abbrev pub known_among : Machine K V → CacheState K V S → Places
  known_among m c =
      fold (λ p slot. if is_some (resident_at m slot) then p else left_by (hash_in key build hash c) (resident_at c.machine slot) slot p)
      c.known (range_with_len 0 (length c.machine.values))
