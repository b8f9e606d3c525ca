-- The key that is found is at its slot.
use Rattle.clock2q_cache.proofs.Names.{◌∙◌, sym, arith, rules, slot_of}
use Rattle.clock2q_cache.proofs.Finding.{no-slot}
use Rattle.clock2q_cache.proofs.Vacated.{found-resident}
use Rattle.clock2q_cache.proofs.Reaching.{reaches-discarded, reaches-left}
use Rattle.clock2q_cache.proofs.Spent.{costs-of, erased-spends, spends-both, remove-costs}
use Rattle.clock2q_cache.proofs.cache.Cache.remove.Goals as goal

pub vacate-requires : goal.vacate-requires
vacate-requires g c = grind (arith, found-resident, slot_of, c.in-Resident.ensures.machine, c.in-Resident.ensures.slot)

pub returns-in_default-clause-machine : goal.returns-in_default-clause-machine
returns-in_default-clause-machine g c = search rules

pub returns-clause-machine : goal.returns-clause-machine
returns-clause-machine g c = search rules

pub returns-in_default-clause-known : goal.returns-in_default-clause-known
returns-in_default-clause-known g c =
    let absent = no-slot c.lookup-found.result c.in_default.not-Resident ∙ c.lookup-found.ensures.slot in
    rw (← absent) (rw (c.lookup-found.ensures.kept, c.hash-hash.ensures) at c.forget.ensures.places)

pub returns-clause-known : goal.returns-clause-known
returns-clause-known g c = rw (← c.in-Resident.ensures.slot) (rw c.lookup-found.ensures.kept at c.vacate.ensures.known)

pub returns-in_default-clause-costs : goal.returns-in_default-clause-costs
returns-in_default-clause-costs g c =
    costs-of (returns-in_default-clause-machine g c)
    (reaches-discarded
    (record { eq = g.K.PartialEq.eq; hash_input = g.K.Hash.hash_input }) g.S.BuildHasher g.S.Hasher.Hasher c.args.key.now
    c.lookup-found.ensures.within c.hash-hash.result c.hash-hash.ensures
    (rw c.lookup-found.ensures.kept at c.forget.ensures.places))
    (spends-both c.lookup-found.ensures.counts (erased-spends c.forget.result c.forget.ensures.counts) (omega arith) (omega arith) (omega arith))

pub returns-clause-costs : goal.returns-clause-costs
returns-clause-costs g c =
    remove-costs c.in-Resident.ensures.slot c.lookup-found.ensures.kept c.lookup-found.ensures.counts
    (reaches-left (record { eq = g.K.PartialEq.eq; hash_input = g.K.Hash.hash_input }) g.S.BuildHasher g.S.Hasher.Hasher
    c.args.key.now g.met.K.Eq.laws c.lookup-found.ensures.whole g.met.K.Hash.respects_eq c.in-Resident.slot
    (sym c.in-Resident.ensures.slot) (rw c.lookup-found.ensures.kept at c.vacate.ensures.known))
    c.vacate.ensures.machine c.vacate.ensures.counts
