-- A cache whose counts are raised to their bounds before a value of it is lent.
use Rattle.clock2q_cache.proofs.Names.{◌≡◌, ℕ, ◌+◌, ◌-◌, Bool, true, length, refl, arith, HashMembers, IsEquivalence, inspections_for, CacheState, cache_state, Put, most_links, most_keys, with_slot, TakesSlot, Costs, Spends, accesses_for, alike, IsWhole, Machine, stored, known_taken, put, slotted, stored_same, IsWithinCapacity, SlotFor, clock_bounded}
use Rattle.std.specs.declared.hash.Hasher as hasher
use Rattle.std.specs.declared.hash.BuildHasher as builder
use Rattle.clock2q_cache.proofs.Reaching.{reaches-taken}

module _ {K V S H : Type 0} (key : HashMembers K) (build : builder.Ghosts S H) (hash : hasher.Ghosts H) {k : K} {made : V → Type 0} {slot : ℕ} (old new : CacheState K V S)
    (taken : TakesSlot (key.eq k) k made old.machine slot new.machine) (known : new.known ≡ known_taken key build hash k old) (same : new.hasher ≡ old.hasher)
    (spent : Spends (inspections_for (key.eq k) old.machine) (accesses_for (key.eq k) old.machine) (alike key build hash k old) old.counts new.counts) where
  -- what the caller leaves behind the reference is then the key's value
  pub lent : {links keys : ℕ} → links ≡ most_links key build hash k old → keys ≡ most_keys key build hash k old → (w : V)
      → cache_state (stored slot w new.machine) new.known new.hasher
      (record { inspections = new.counts.inspections; accesses = new.counts.accesses + (links - new.counts.accesses); comparisons = new.counts.comparisons + (keys - new.counts.comparisons) })
      ≡ with_slot key build hash k w old
  lent is_links is_keys w = grind arith

-- counts at their bounds are within the cost of a call for a key's slot
pub charged-costs : {K V S H : Type 0} {key : HashMembers K} {build : builder.Ghosts S H} {hash : hasher.Ghosts H} {k : K} (w : V) (old : CacheState K V S)
    → IsEquivalence key.eq → ((x y : K) → key.eq x y ≡ true → key.hash_input x ≡ key.hash_input y) → IsWhole key.eq old.machine
    → length old.known.taken ≡ length old.machine.history → IsWithinCapacity old.known.index → Costs key build hash (SlotFor k w) old (with_slot key build hash k w old)
charged-costs {key = key} {build} {hash} {k} w old laws respects whole as_many within = record {
  counts = record { inspections = refl; accesses = (omega arith, omega arith); comparisons = (omega arith, omega arith) };
  index = reaches-taken key build hash k laws respects whole as_many within refl;
  clock = omega (arith, clock_bounded key.eq (Put k w) old.machine);
}

-- a value that was taken and is not written to stays as it was taken
pub unwritten : {K V : Type 0} {is : K → Bool} {key : K} {made : V → Type 0} {old new : Machine K V} {slot : ℕ} (t : TakesSlot is key made old slot new)
    → put is key t.value old ≡ slotted is key t.value old
unwritten {new = new} {slot} t = grind (arith, t.writes t.value, stored_same new slot t.value t.there, t.becomes)
