-- The victim's slot is free, and Small's tail moves on.
use Rattle.clock2q_cache.proofs.Names.{◌≡◌, ◌+◌, Some, None, length, eqb, refl, sym, ap, ◌∙◌, arith, vec_capacity, made_below, CacheState, last_or, slots_of, slots, slots-left, without_handle}
use Rattle.clock2q_cache.proofs.CacheInvariant.{made-still, kept-reindexed, reindexed, now-slots, length_in_main}
use Rattle.clock2q_cache.proofs.Insertions.{victim-spends}
use Rattle.clock2q_cache.proofs.Renewed.{is-resident, slot-below, victim-in, tail-in, tail-not_in_front, tail-not_in_rest}
use Rattle.clock2q_cache.proofs.MakingRoom.{leaves-some, victim-first, IsGone, gone-promoting, gone-alone, no-other}
use Rattle.clock2q_cache.proofs.Stored.{hash-of-key}
use Rattle.clock2q_cache.proofs.cache.Cache.evict_victim.Given.{Over}
use Rattle.clock2q_cache.proofs.cache.Cache.evict_victim.Goals.{After-leave, In-Some, After-append, In_default}
use Rattle.clock2q_cache.proofs.cache.Cache.evict_victim.Goals as goal

pub take_victim-slot-requires : goal.take_victim-slot-requires
take_victim-slot-requires g c =
    record { some = omega (arith, leaves-some c.args.self.now.machine c.requires.leaves, length_in_main g.met.K.Eq.laws c.self.invariant, ap (λ (z : CacheState _ _ _). length z.machine.main) c.self.view_is) }

pub key-key-requires : goal.key-key-requires
key-key-requires g c =
    record { made = (slot-below g.met.K.Eq.laws c.self.invariant c.take_victim-slot.result (victim-in g.met.K.Eq.laws c.self.invariant c.take_victim-slot.result c.take_victim-slot.ensures.victim)).0 }

pub leave-requires : goal.leave-requires
leave-requires g c =
    record {
      resident = is-resident c.self.inside.directory g.met.K.Eq.laws c.self.invariant c.take_victim-slot.result
          (victim-in g.met.K.Eq.laws c.self.invariant c.take_victim-slot.result c.take_victim-slot.ensures.victim);
    }

-- the victim's slot leaves the index
left : (g : Over) (c : After-leave g) → slots c.leave.new.self.history.places.index ≡ without_handle eqb (slots c.self.inside.directory.history.places.index) c.leave.ensures.left.hash c.take_victim-slot.result
left g c =
    let slot = c.take_victim-slot.result in
    let below = (slot-below g.met.K.Eq.laws c.self.invariant slot (victim-in g.met.K.Eq.laws c.self.invariant slot c.take_victim-slot.ensures.victim)).2 in
    now-slots c.self.inside.directory.history c.leave.ensures.left.becomes (slots-left c.self.inside.directory.history.places.index c.leave.ensures.left.hash slot (omega (arith, below)))

-- Small's tail, and that no record is made for it
last : (g : Over) (c : In-Some g) → last_or None (slots_of c.self.inside.queues.small) ≡ Some c.in-Some.tail
last g c = sym (rw c.take_victim-slot.ensures.queues at c.in-Some.ensures.tail)

still : (g : Over) (c : In-Some g) → made_below (c.in-Some.tail + 1) c.self.inside.queues.made ≡ c.self.inside.queues.made
still g c = made-still g.met.K.Eq.laws c.self.invariant (slot-below g.met.K.Eq.laws c.self.invariant c.in-Some.tail (tail-in g.met.K.Eq.laws c.self.invariant c.in-Some.tail (last g c))).0

pub append-requires : goal.append-requires
append-requires g c =
    let tail = last g (goal.at.append-requires g c).In-Some in
    let b = slot-below g.met.K.Eq.laws c.self.invariant c.in-Some.tail (tail-in g.met.K.Eq.laws c.self.invariant c.in-Some.tail tail) in
    rw (c.in-Some.ensures.queues, c.take_victim-slot.ensures.queues) (record {
      slot_in = omega (arith, b.1, c.self.invariant.sized.as_many);
      not_in_small = tail-not_in_front g.met.K.Eq.laws c.self.invariant c.in-Some.tail tail;
      not_in_main = tail-not_in_rest g.met.K.Eq.laws c.self.invariant c.in-Some.tail tail c.take_victim-slot.result c.take_victim-slot.ensures.victim;
      made = omega (arith, b.0, c.self.invariant.linked);
    })

-- the fields afterwards, with a tail and without one
moved : (g : Over) (c : After-append g) → slots c.leave.new.self.history.places.index ≡ without_handle eqb (slots c.self.inside.directory.history.places.index) c.leave.ensures.left.hash c.take_victim-slot.result
    → last_or None (slots_of c.self.inside.queues.small) ≡ Some c.in-Some.tail → made_below (c.in-Some.tail + 1) c.self.inside.queues.made ≡ c.self.inside.queues.made
    → IsGone g.met.K.Eq.laws c.self.invariant c.append.new.self (slots c.leave.new.self.history.places.index) c.free_slot.new.free.items (vec_capacity c.free_slot.new.free)
moved g c left tail still =
    gone-promoting g.met.K.Eq.laws c.self.invariant c.take_victim-slot.result c.take_victim-slot.ensures.victim c.leave.ensures.left.had left c.free_slot.ensures.top c.free_slot.ensures.capacity
    (rw (← c.self.view_is) at c.requires.leaves) c.in-Some.tail tail (rw (c.in-Some.ensures.queues, c.take_victim-slot.ensures.queues, still) at c.append.ensures.queues)

alone : (g : Over) (c : In_default g) → slots c.leave.new.self.history.places.index ≡ without_handle eqb (slots c.self.inside.directory.history.places.index) c.leave.ensures.left.hash c.take_victim-slot.result
    → IsGone g.met.K.Eq.laws c.self.invariant c.take_tail.new.self (slots c.leave.new.self.history.places.index) c.free_slot.new.free.items (vec_capacity c.free_slot.new.free)
alone g c left =
    gone-alone g.met.K.Eq.laws c.self.invariant c.take_victim-slot.result c.take_victim-slot.ensures.victim c.leave.ensures.left.had left c.free_slot.ensures.top c.free_slot.ensures.capacity
    (rw (← c.self.view_is) at c.requires.leaves) (sym (no-other c.take_tail.result c.in_default.not-Some ∙ (rw c.take_victim-slot.ensures.queues at c.take_tail.ensures.tail)))
    (rw c.take_victim-slot.ensures.queues at c.take_tail.ensures.queues)

pub invariant_of-self : goal.invariant_of-self
invariant_of-self g c =
    let at = goal.at.invariant_of-self g c in
    rw c.leave.ensures.kept (kept-reindexed (reindexed c.self.inside.directory.history c.leave.ensures.left.becomes refl) (alone g at.In_default (left g at.After-leave)).holds)

pub invariant_of-self-2 : goal.invariant_of-self-2
invariant_of-self-2 g c =
    let at = goal.at.invariant_of-self-2 g c in
    rw c.leave.ensures.kept (kept-reindexed (reindexed c.self.inside.directory.history c.leave.ensures.left.becomes refl)
    (moved g at.After-append (left g at.After-leave) (last g at.In-Some) (still g at.In-Some)).holds)

pub returns-in_default-clause-left : goal.returns-in_default-clause-left
returns-in_default-clause-left g c =
    rw (← c.self.view_is) (victim-first g.met.K.Eq.laws c.self.invariant c.take_victim-slot.result c.take_victim-slot.ensures.victim c.key-key.result.now c.key-key.ensures.key)

pub returns-clause-left : goal.returns-clause-left
returns-clause-left g c =
    rw (← c.self.view_is) (victim-first g.met.K.Eq.laws c.self.invariant c.take_victim-slot.result c.take_victim-slot.ensures.victim c.key-key.result.now c.key-key.ensures.key)

pub returns-in_default-clause-machine : goal.returns-in_default-clause-machine
returns-in_default-clause-machine g c =
    let at = goal.at.returns-in_default-clause-machine g c in
    rw (c.leave.ensures.kept, c.leave.ensures.left.becomes, ← c.self.view_is) (alone g at.In_default (left g at.After-leave)).machine

pub returns-clause-machine : goal.returns-clause-machine
returns-clause-machine g c =
    let at = goal.at.returns-clause-machine g c in
    rw (c.leave.ensures.kept, c.leave.ensures.left.becomes, ← c.self.view_is) (moved g at.After-append (left g at.After-leave) (last g at.In-Some) (still g at.In-Some)).machine

-- the index without the victim
pub returns-in_default-clause-known : goal.returns-in_default-clause-known
returns-in_default-clause-known g c = grind (arith, c.self.view_is, c.leave.ensures.left.becomes, c.leave.ensures.left.had, c.key-key.ensures.key, c.self.invariant.stored.hashed, hash-of-key)

pub returns-clause-known : goal.returns-clause-known
returns-clause-known g c = grind (arith, c.self.view_is, c.leave.ensures.left.becomes, c.leave.ensures.left.had, c.key-key.ensures.key, c.self.invariant.stored.hashed, hash-of-key)

pub returns-in_default-clause-counts : goal.returns-in_default-clause-counts
returns-in_default-clause-counts g c =
    let taken = c.take_victim-slot.ensures.accesses in
    rw (← c.self.view_is) (victim-spends g.met.K.Eq.laws c.self.invariant 18 c.take_victim-slot.ensures.inspections
    (omega (arith, taken, c.take_tail.ensures.accesses.0), omega (arith, taken, c.take_tail.ensures.accesses.1))
    (rw c.take_victim-slot.ensures.queues at c.take_tail.ensures.queues) c.leave.ensures.left.becomes c.leave.ensures.kept)

pub returns-clause-counts : goal.returns-clause-counts
returns-clause-counts g c =
    let taken = c.take_victim-slot.ensures.accesses in
    let still = still g (goal.at.returns-clause-counts g c).In-Some in
    rw (← c.self.view_is) (victim-spends g.met.K.Eq.laws c.self.invariant 18 c.take_victim-slot.ensures.inspections
    (omega (arith, taken, c.in-Some.ensures.accesses.0, c.append.ensures.accesses.0), omega (arith, taken, c.in-Some.ensures.accesses.1, c.append.ensures.accesses.1))
    (rw (c.in-Some.ensures.queues, c.take_victim-slot.ensures.queues, still) at c.append.ensures.queues) c.leave.ensures.left.becomes c.leave.ensures.kept)
