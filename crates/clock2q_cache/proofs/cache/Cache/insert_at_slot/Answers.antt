-- The index is as for a key whose gap no lookup found.
use Rattle.clock2q_cache.proofs.cache.Cache.insert_at_slot.Goals as goal

pub returns-in-Some-clause-known : goal.returns-in-Some-clause-known
returns-in-Some-clause-known g c =
    let s = c.choose_queue-admission.ensures.sent in
    rw (c.gap.ensures.gap, c.find_place-found.ensures.gap, s.hasher, s.sent.erased, s.sent.goes, s.known, c.find_place-found.ensures.kept, c.requires.absent.hashed) at c.insert_unknown-slot.ensures.entered.indexes

pub returns-in-None-clause-known : goal.returns-in-None-clause-known
returns-in-None-clause-known g c =
    let s = c.choose_queue-admission.ensures.sent in
    rw (c.gap.ensures.gap, c.find_place-found.ensures.gap, s.hasher, s.sent.erased, s.sent.goes, s.known, c.find_place-found.ensures.kept, c.requires.absent.hashed) at c.insert_unknown-slot.ensures.entered.indexes
