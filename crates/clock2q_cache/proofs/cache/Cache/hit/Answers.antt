-- A key that is not resident is not hit.
use Rattle.clock2q_cache.proofs.Names.{sym}
use Rattle.clock2q_cache.proofs.Spent.{missed-becomes, hit-becomes}
use Rattle.clock2q_cache.proofs.cache.Cache.hit.Goals as goal

pub returns-in_err-slot-clause-becomes : goal.returns-in_err-slot-clause-becomes
returns-in_err-slot-clause-becomes g c = missed-becomes c.hash-hash.ensures (sym c.in_err-slot.ensures.slot) c.find.ensures.kept c.find.ensures.counts

pub returns-clause-becomes : goal.returns-clause-becomes
returns-clause-becomes g c =
    hit-becomes c.hash-hash.ensures c.find.ensures.kept c.find.ensures.counts c.record_hit.ensures.kept c.record_hit.ensures.machine
