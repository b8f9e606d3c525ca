use Rattle.clock2q_queues.proofs.Names.{arith, length-map, vacant}
use Rattle.clock2q_queues.proofs.AllRecords.{length-all}
use Rattle.clock2q_queues.proofs.ring.Ring.read.Goals as goal

pub returns-clause-within : goal.returns-clause-within
returns-clause-within g c = grind (arith, length-all vacant, length-map, c.self.view_is, c.self.invariant.0)
