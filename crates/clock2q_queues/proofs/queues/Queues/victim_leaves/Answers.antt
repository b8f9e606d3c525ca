use Rattle.clock2q_queues.proofs.Names.{arith, both_ways}
use Rattle.clock2q_queues.proofs.NextVictim.{length-entries, length-small, leaves-promoted}
use Rattle.clock2q_queues.proofs.queues.Queues.victim_leaves.Goals as goal

pub returns-clause-leaves : goal.returns-clause-leaves
returns-clause-leaves g c = grind (arith, length-entries, length-small, leaves-promoted, both_ways, c.self.invariant.main.queue.counted, c.self.invariant.small.queue.counted, c.if-self-eq0.false, c.if-self-eq0-2.false, c.tail_is_promoted.ensures.value, c.self.view_is)
