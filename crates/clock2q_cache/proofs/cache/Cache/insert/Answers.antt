-- The index is as for a key whose gap the lookup may have found.
use Rattle.clock2q_cache.proofs.cache.Cache.insert.Goals as goal

pub returns-clause-known : goal.returns-clause-known
returns-clause-known g c =
    let s = c.choose_queue-admission.ensures.sent in
    rw (c.gap.ensures.gap, s.hasher, s.sent.erased, s.sent.goes, s.known, c.requires.absent.hashed) at c.insert_unknown.ensures.entered.indexes
