use Rattle.std.proofs.Common.{arith}
use Rattle.clock2q_queues.proofs.Sharing.{AreQueues-blank, IsBlank-from}
use Rattle.clock2q_queues.proofs.queues.Queues.clear.Goals as goal

pub invariant_of-self : goal.invariant_of-self
invariant_of-self g c = grind (arith, IsBlank-from, AreQueues-blank, c.self.invariant, c.reset.ensures.records, c.reset.ensures.positions, c.clear.ensures.whole, c.clear-2.ensures.whole)
