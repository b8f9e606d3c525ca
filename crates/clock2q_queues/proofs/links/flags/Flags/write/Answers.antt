use Rattle.clock2q_queues.proofs.Names.{arith, Flag}
use Rattle.clock2q_queues.proofs.AllRecords.{all-pushed, all-set, length-all}
use Rattle.clock2q_queues.proofs.links.flags.Flags.write.Goals as goal

pub returns-then-slot-len-clause-flags : goal.returns-then-slot-len-clause-flags
returns-then-slot-len-clause-flags g c = grind (arith, all-set Flag.Free, c.self.view_is)

pub returns-else-slot-len-clause-flags : goal.returns-else-slot-len-clause-flags
returns-else-slot-len-clause-flags g c = grind (arith, length-all Flag.Free, all-pushed Flag.Free, c.self.view_is, c.requires, c.self.invariant.0, c.push_reserved.ensures.items)
