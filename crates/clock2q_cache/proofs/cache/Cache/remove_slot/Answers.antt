-- The resident's key is the one that is found at the slot, so its removal frees the slot.
use Rattle.clock2q_cache.proofs.Names.{arith, resident_at}
use Rattle.clock2q_cache.proofs.BySlot.{removed-slot, removed-slot-costs}
use Rattle.clock2q_cache.proofs.cache.Cache.remove_slot.Goals as goal

pub returns-clause-machine : goal.returns-clause-machine
returns-clause-machine g c = grind (arith, removed-slot, resident_at, c.if-not-is_resident.ensures.own, c.vacate.ensures.machine)

pub returns-clause-costs : goal.returns-clause-costs
returns-clause-costs g c =
    removed-slot-costs (record { eq = g.K.PartialEq.eq; hash_input = g.K.Hash.hash_input }) g.S.BuildHasher g.S.Hasher.Hasher c.args.self.now c.vacate.new.self c.args.slot
    (resident_at c.args.self.now.machine c.args.slot) c.if-not-is_resident.ensures.own c.vacate.ensures.machine c.vacate.ensures.counts c.vacate.ensures.known
