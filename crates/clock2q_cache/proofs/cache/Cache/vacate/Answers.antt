-- The resident's slot leaves the index and its queue, and is free.
use Rattle.clock2q_cache.proofs.Names.{refl, ap, ◌∙◌, arith, QueueState, slots, Remembered, slots-left, CacheState, resident_at, hash_of, left_by, machine_of, vacated}
use Rattle.clock2q_cache.proofs.CacheInvariant.{kept-reindexed, reindexed, now-slots}
use Rattle.clock2q_cache.proofs.Places.{left-resident}
use Rattle.clock2q_cache.proofs.Renewed.{slot-below, is-resident}
use Rattle.clock2q_cache.proofs.Vacated.{slot-used, slot-in, vacated-machine, kept-vacated}
use Rattle.clock2q_cache.proofs.cache.Cache.vacate.Goals as goal

pub leave-requires : goal.leave-requires
leave-requires g c =
    record {
      resident = is-resident c.self.inside.directory g.met.K.Eq.laws c.self.invariant c.args.slot
          (slot-used g.met.K.Eq.laws c.self.invariant c.args.slot (rw (← c.self.view_is) at c.requires));
    }

pub leave-requires-2 : goal.leave-requires-2
leave-requires-2 g c = record { slot_in = slot-in g.met.K.Eq.laws c.self.invariant c.args.slot (rw (← c.self.view_is) at c.requires) }

pub invariant_of-self : goal.invariant_of-self
invariant_of-self g c =
    let there = rw (← c.self.view_is) at c.requires in
    let below = (slot-below g.met.K.Eq.laws c.self.invariant c.args.slot (slot-used g.met.K.Eq.laws c.self.invariant c.args.slot there)).2 in
    rw c.leave.ensures.kept (kept-reindexed (reindexed c.self.inside.directory.history c.leave.ensures.left.becomes refl)
    (kept-vacated g.met.K.Eq.laws c.self.invariant c.args.slot there c.leave-2.new.self (slots c.leave.new.self.history.places.index) c.free_slot.new.free.items _ _
    (ap (λ (z : QueueState). z.small) c.leave-2.ensures.queues) (ap (λ (z : QueueState). z.main) c.leave-2.ensures.queues) c.free_slot.ensures.top
    c.leave.ensures.left.had
    (now-slots c.self.inside.directory.history c.leave.ensures.left.becomes
    (slots-left c.self.inside.directory.history.places.index c.leave.ensures.left.hash c.args.slot (omega (arith, below))))
    (ap (λ (z : QueueState). z.slots) c.leave-2.ensures.queues) (ap (λ (z : QueueState). z.made) c.leave-2.ensures.queues) (ap (λ (z : QueueState). z.window) c.leave-2.ensures.queues) c.free_slot.ensures.capacity))

pub returns-clause-machine : goal.returns-clause-machine
returns-clause-machine g c =
    let there = rw (← c.self.view_is) at c.requires in
    rw c.leave.ensures.kept
    (ap (λ z. machine_of c.self.inside.shares c.leave-2.new.self c.self.inside.directory.residents.entries z
    c.free_slot.new.free.items) (ap (λ (z : Remembered _). z.entries) c.leave.ensures.left.becomes)
    ∙ vacated-machine g.met.K.Eq.laws c.self.invariant c.args.slot there c.leave-2.new.self (slots c.leave.new.self.history.places.index) c.free_slot.new.free.items 0 0
    (ap (λ (z : QueueState). z.small) c.leave-2.ensures.queues) (ap (λ (z : QueueState). z.main) c.leave-2.ensures.queues) c.free_slot.ensures.top
    ∙ ap (λ (z : CacheState _ _ _). vacated c.args.slot z.machine) c.self.view_is)

pub returns-clause-known : goal.returns-clause-known
returns-clause-known g c =
    let laws = g.met.K.Eq.laws in
    let h = c.self.inside.directory.history in
    left-resident laws c.self.invariant h.places c.args.slot (slot-used laws c.self.invariant c.args.slot (rw (← c.self.view_is) at c.requires)) c.leave.ensures.left.had
    (ap (λ (z : Remembered _). z.places) c.leave.ensures.left.becomes)
    ∙ ap (λ (z : CacheState _ _ _). left_by (λ k. hash_of g.S.BuildHasher g.S.Hasher.Hasher z.hasher (g.K.Hash.hash_input k)) (resident_at z.machine c.args.slot) c.args.slot z.known) c.self.view_is

pub returns-clause-counts : goal.returns-clause-counts
returns-clause-counts g c =
    grind (arith, c.leave.ensures.left.becomes, c.self.view_is, c.leave.ensures.kept, c.leave-2.ensures.queues, c.leave-2.ensures.accesses.0, c.leave-2.ensures.accesses.1)
