-- What a call costs a cache: inspections by the hand, accesses to links, comparisons of keys, slots of the index.
use Rattle.std.specs.Prelude.{◌≡◌, ℕ, ◌+◌, ◌-◌, ◌*◌, ◌≤◌, Bool, if◌then◌else◌, Option, Some, None, is_some, length, sum_by}
use Rattle.std.specs.List.{list_any, last_or}
use Rattle.std.specs.Option.{option_map}
use Rattle.std.specs.declared.hash.Hasher as hasher
use Rattle.std.specs.declared.hash.BuildHasher as builder
use Rattle.std.specs.HashMap.Lent.{HashMembers}
use Rattle.clock2q_handles.specs.Homes.{candidates}
use Rattle.clock2q_queues.specs.Cells.{Rises}
use Rattle.clock2q_directory.specs.Index.{most_reached, most_read}
use Rattle.clock2q_machine.specs.Calls.{Call, Put, Get, Peek, Contains, GetAt, Set, With, Try, SlotFor, Remove, Retain, Clear, Evict, Prefill, Len, IsEmpty, Capacity}
use Rattle.clock2q_machine.specs.Machine.{Machine, slot_of, by_slot, leaves_now}
use Rattle.clock2q_machine.specs.Bounds.{set_bits, inspections_for, inspections_of, main_victims, settings}
use Rattle.clock2q_machine.specs.Leaving.{leaves_for}
use Rattle.clock2q_cache.specs.CacheState.{CacheState, Counts, residents_in, remembered_in}
use Rattle.clock2q_cache.specs.Hashes.{hash_of}

-- the hand made this many inspections, and at most this many links were accessed and keys compared
pub record Spends (inspected links keys : ℕ) (old new : Counts) : Type 0 where
  pub inspections : new.inspections ≡ old.inspections + inspected
  pub accesses : Rises 0 links old.accesses new.accesses
  pub comparisons : Rises 0 keys old.comparisons new.comparisons

-- at most this many slots of the index were read and written, as they are charged
pub record Reaches {K V S : Type 0} (slots : ℕ) (old new : CacheState K V S) : Type 0 where
  pub accesses : new.known.index.accesses ≤ old.known.index.accesses + slots

-- the bound on accesses to links to fetch or insert a key: 0 if it is resident, otherwise 29 plus the hand's
-- inspections
abbrev pub accesses_for : {K V : Type 0} → (K → Bool) → Machine K V → ℕ
accesses_for is m = if is_some (slot_of is m) then 0 else inspections_for is m + 29

-- the bound on a call's accesses to links: the above for a key that it may insert, 19 plus the hand's inspections to
-- evict a resident, or some for each slot if it visits all of them: one for each slot that is made ahead
abbrev pub most_accesses : {K V : Type 0} → (K → K → Bool) → Call K V → Machine K V → ℕ
most_accesses eq (Put key value) m = accesses_for (eq key) m
most_accesses eq (With key value) m = accesses_for (eq key) m
most_accesses eq (Try key (Some value)) m = accesses_for (eq key) m
most_accesses eq (SlotFor key value) m = accesses_for (eq key) m
most_accesses eq (Remove key) m = 8
most_accesses eq (Retain bits) m = 8 * length m.values
most_accesses eq Clear m = m.shares.window
most_accesses eq Evict m = inspections_of eq Evict m + 19
most_accesses eq (Try key None) m = 0
most_accesses eq (Get key) m = 0
most_accesses eq (Peek key) m = 0
most_accesses eq (Contains key) m = 0
most_accesses eq (GetAt slot key) m = 0
most_accesses eq (Set key value) m = 0
most_accesses eq (Prefill values) m = m.shares.capacity - length m.values
most_accesses eq Len m = 0
most_accesses eq IsEmpty m = 0
most_accesses eq Capacity m = 0

module _ {K V S H : Type 0} (key : HashMembers K) (build : builder.Ghosts S H) (hash : hasher.Ghosts H) where
  -- the number of slots and places in the index under the hash of a key
  abbrev pub alike : K → CacheState K V S → ℕ
  alike k c = let x = hash_of build hash c.hasher (key.hash_input k) in length (candidates (residents_in c.known) x) + length (candidates (remembered_in c.known) x)

  -- the bound on a call's comparisons: one to each key under the hash of its own, or one to the key at its slot
  abbrev pub most_comparisons : Call K V → CacheState K V S → ℕ
  most_comparisons (Put k value) c = alike k c
  most_comparisons (Get k) c = alike k c
  most_comparisons (GetAt slot k) c = 1
  most_comparisons (Set k value) c = alike k c
  most_comparisons (With k value) c = alike k c
  most_comparisons (Try k value) c = alike k c
  most_comparisons (SlotFor k value) c = alike k c
  most_comparisons (Remove k) c = alike k c
  most_comparisons (Peek k) c = 0
  most_comparisons (Contains k) c = 0
  most_comparisons (Retain bits) c = 0
  most_comparisons Clear c = 0
  most_comparisons Evict c = 0
  most_comparisons (Prefill values) c = 0
  most_comparisons Len c = 0
  most_comparisons IsEmpty c = 0
  most_comparisons Capacity c = 0

  -- the most slots of the index that one change under the hash of a key reads and writes, or 0 if there is no key
  abbrev pub reached : CacheState K V S → K → ℕ
  reached c k = most_reached c.known.index (hash_of build hash c.hasher (key.hash_input k))

  abbrev pub reached_if : CacheState K V S → Option K → ℕ
  reached_if c None = 0
  reached_if c (Some k) = reached c k

  -- the most slots of the index that one lookup of a key reads
  abbrev pub walked : CacheState K V S → K → ℕ
  walked c k = most_read c.known.index (hash_of build hash c.hasher (key.hash_input k))

  -- the bound on the slots of the index to fetch or insert a key: those of a lookup and, if it isn't resident, those of
  -- two changes under its hash, of one under that of the resident that leaves, and of one under that of the oldest
  -- remembered key
  abbrev pub slots_for : K → CacheState K V S → ℕ
  slots_for k c = walked c k + (if is_some (slot_of (key.eq k) c.machine) then 0 else
      2 * reached c k + reached_if c (option_map (λ r. r.0) (leaves_for (list_any (key.eq k) c.machine.history) c.machine)) + reached_if c (last_or None c.machine.history))

  -- the same for a call that looks for residents first and, if it finds none, for a place in the history
  abbrev pub slots_to_take : K → CacheState K V S → ℕ
  slots_to_take k c = slots_for k c + (if is_some (slot_of (key.eq k) c.machine) then 0 else walked c k)

  -- the bound on the slots of the index that a call that may change the cache reads and writes: the above for a key that
  -- it may insert, those of a lookup for a key that it looks up, and of a change if it removes it, those of a change for
  -- each resident if it may remove them all, and each slot if it clears; an eviction makes one change for the key that
  -- leaves, and one for the oldest remembered key
  abbrev pub most_slots : Call K V → CacheState K V S → ℕ
  most_slots (Put k value) c = slots_for k c
  most_slots (With k value) c = slots_for k c
  most_slots (Try k (Some value)) c = slots_for k c
  most_slots (SlotFor k value) c = slots_to_take k c
  most_slots (Remove k) c = walked c k + reached c k
  most_slots (Retain bits) c = sum_by (λ r. reached c r.0) (by_slot c.machine)
  most_slots Clear c = length c.known.index.shared + length c.known.index.own
  most_slots Evict c = reached_if c (option_map (λ r. r.0) (leaves_now c.machine)) + reached_if c (last_or None c.machine.history)
  most_slots (Try k None) c = walked c k
  most_slots (Get k) c = walked c k
  most_slots (Peek k) c = 0
  most_slots (Contains k) c = 0
  most_slots (GetAt slot k) c = 0
  most_slots (Set k value) c = walked c k
  most_slots (Prefill values) c = 0
  most_slots Len c = 0
  most_slots IsEmpty c = 0
  most_slots Capacity c = 0

  -- the call spent no more than its bounds, and each inspection was paid for: by Main's victim, or by a bit of Main
  -- that was set before or by the call
  pub record Costs (call : Call K V) (old new : CacheState K V S) : Type 0 where
    pub counts : Spends (inspections_of key.eq call old.machine) (most_accesses key.eq call old.machine) (most_comparisons call old) old.counts new.counts
    pub index : Reaches (most_slots call old) old new
    pub clock : new.counts.inspections + set_bits new.machine ≤ old.counts.inspections + main_victims key.eq call old.machine + settings key.eq call old.machine + set_bits old.machine

  -- the machine becomes this one at the cost of the call, and the hasher stays
  abbrev pub Becomes : Call K V → Machine K V → CacheState K V S → CacheState K V S → Type 0
  Becomes call m old new = (new.machine ≡ m) × (new.hasher ≡ old.hasher) × Costs call old new

  -- only counts changed: at most one access to a link for Small's tail, and one for each inspection that an eviction now
  -- would make
  pub record LooksAhead (old new : CacheState K V S) : Type 0 where
    pub same : new ≡ record old { counts = new.counts }
    pub counts : Spends 0 (1 + inspections_of key.eq Evict old.machine) 0 old.counts new.counts
