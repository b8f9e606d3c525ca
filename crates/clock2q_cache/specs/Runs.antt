-- What a list of calls costs a cache and leaves in its index, one call after the other.
use Rattle.std.specs.Prelude.{◌≡◌, List, [], ◌∷◌, Some, None}
use Rattle.std.specs.declared.hash.Hasher as hasher
use Rattle.std.specs.declared.hash.BuildHasher as builder
use Rattle.std.specs.HashMap.Lent.{HashMembers}
use Rattle.clock2q_directory.specs.History.{Places, places_with}
use Rattle.clock2q_directory.specs.Index.{emptied}
use Rattle.clock2q_machine.specs.Calls.{Call, Put, Get, Peek, Contains, GetAt, Set, With, Try, SlotFor, Remove, Retain, Clear, Evict, Prefill, Len, IsEmpty, Capacity}
use Rattle.clock2q_machine.specs.Leaving.{leaver}
use Rattle.clock2q_machine.specs.Steps.{after, retained}
use Rattle.clock2q_cache.specs.CacheState.{CacheState}
use Rattle.clock2q_cache.specs.Costs.{Becomes}
use Rattle.clock2q_cache.specs.Indexed.{IsIndexed, IsSpacious}
use Rattle.clock2q_cache.specs.MakingRoom.{known_evicted}
use Rattle.clock2q_cache.specs.Places.{hash_in, known_taken, known_with, looked_for}
use Rattle.clock2q_cache.specs.Removals.{known_among, known_without}

module _ {K V S H : Type 0} (key : HashMembers K) (build : builder.Ghosts S H) (hash : hasher.Ghosts H) where
  -- the index that a call leaves
  abbrev pub known_after : Call K V → CacheState K V S → Places
  known_after (Put k value) c = known_with key build hash k c
  known_after (Get k) c = (looked_for key build hash k c).known
  known_after (Peek k) c = c.known
  known_after (Contains k) c = c.known
  known_after (GetAt slot k) c = c.known
  known_after (Set k value) c = (looked_for key build hash k c).known
  known_after (With k value) c = known_with key build hash k c
  known_after (Try k None) c = (looked_for key build hash k c).known
  known_after (Try k (Some value)) c = known_with key build hash k c
  known_after (SlotFor k value) c = known_taken key build hash k c
  known_after (Remove k) c = known_without key build hash k c
  known_after (Retain bits) c = known_among key build hash (retained bits c.machine) c
  known_after Clear c = places_with (emptied c.known.index) [] []
  known_after Evict c = known_evicted (hash_in key build hash c) (leaver key.eq Evict c.machine) c.machine c.known
  known_after (Prefill values) c = c.known
  known_after Len c = c.known
  known_after IsEmpty c = c.known
  known_after Capacity c = c.known

  -- the cache ran the calls in order, each at its cost and with the index that it leaves, and before each call the index
  -- had the known keys and nothing else, in few enough of its slots
  abbrev pub RunsAtCost : List (Call K V) → CacheState K V S → CacheState K V S → Type 0
  RunsAtCost [] old new = new ≡ old
  RunsAtCost (call ∷ calls) old new = IsIndexed key build hash old × IsSpacious old
      × ((next : CacheState K V S) × Becomes key build hash call (after key.eq call old.machine) old next × (next.known ≡ known_after call old) × RunsAtCost calls next new)
