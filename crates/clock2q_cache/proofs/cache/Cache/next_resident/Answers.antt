use Rattle.clock2q_cache.proofs.Names.{arith}
use Rattle.clock2q_cache.proofs.Iteration.{entries-past}
use Rattle.clock2q_cache.proofs.cache.Cache.next_resident.Goals as goal

pub loop-slot-preserved : goal.loop-slot-preserved
loop-slot-preserved g c =
    grind (arith, c.loop-slot-test.true, c.made-slot-end.ensures, c.loop-slot.invariant, entries-past, c.is_resident.ensures.resident, c.if-is_resident.false)
