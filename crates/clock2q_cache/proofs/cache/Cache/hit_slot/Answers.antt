-- A hit on a slot is one on the key that is resident there, and costs no more than one by key.
use Rattle.clock2q_cache.proofs.Names.{sym, arith}
use Rattle.clock2q_cache.proofs.BySlot.{hit-slot-costs}
use Rattle.clock2q_cache.proofs.Finding.{either-queue, hit-machine, kept-hit}
use Rattle.clock2q_cache.proofs.Vacated.{slot-used, own-key, own-slot, own-resident}
use Rattle.clock2q_cache.proofs.cache.Cache.hit_slot.Goals as goal

pub hit-requires : goal.hit-requires
hit-requires g c = record { resident = either-queue c.self.inside.queues c.args.slot (slot-used g.met.K.Eq.laws c.self.invariant c.args.slot (rw (← c.self.view_is) at (sym c.if-not-is_resident.ensures.resident))) }

pub invariant_of-self : goal.invariant_of-self
invariant_of-self g c =
    let there = rw (← c.self.view_is) at (sym c.if-not-is_resident.ensures.resident) in
    let laws = g.met.K.Eq.laws in
    kept-hit laws c.self.invariant (own-key laws c.self.invariant c.args.slot there).0 c.args.slot (own-slot laws c.self.invariant c.args.slot there) c.hit.ensures.queues

pub returns-clause-machine : goal.returns-clause-machine
returns-clause-machine g c =
    let there = rw (← c.self.view_is) at (sym c.if-not-is_resident.ensures.resident) in
    let laws = g.met.K.Eq.laws in
    rw (← c.self.view_is, own-resident laws c.self.invariant c.args.slot there)
    (hit-machine laws c.self.invariant (own-key laws c.self.invariant c.args.slot there).0 c.args.slot (own-slot laws c.self.invariant c.args.slot there) c.hit.ensures.queues)

pub returns-clause-costs : goal.returns-clause-costs
returns-clause-costs g c = let machine = returns-clause-machine g c in grind (arith, hit-slot-costs, machine, c.hit.ensures.queues, c.self.view_is)
