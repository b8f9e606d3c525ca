use Rattle.std.proofs.Common.{arith}
use Rattle.clock2q_queues.proofs.Sharing.{AreQueues-blank, IsBlank-from}
use Rattle.clock2q_queues.proofs.queues.Queues.new.Goals as goal

pub invariant_of-result : goal.invariant_of-result
invariant_of-result g c = grind (arith, IsBlank-from, AreQueues-blank, c.in_ok-new.ensures, c.new-2.ensures.whole, c.new-3.ensures.whole)
