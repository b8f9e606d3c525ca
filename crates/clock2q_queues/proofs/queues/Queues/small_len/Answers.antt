use Rattle.clock2q_queues.proofs.Sharing.{IsWholeQueues-from}
use Rattle.clock2q_queues.proofs.queues.Queues.small_len.Goals as goal

pub returns-clause-whole : goal.returns-clause-whole
returns-clause-whole g c = rw (← c.self.view_is) (IsWholeQueues-from c.self.inside.links c.self.inside.small c.self.inside.main c.self.invariant)
