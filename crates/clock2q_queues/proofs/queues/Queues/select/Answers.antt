use Rattle.std.proofs.Common.{arith}
use Rattle.clock2q_queues.proofs.Sharing.{after_choice}
use Rattle.clock2q_queues.proofs.queues.Queues.select.Goals as goal

pub invariant_of-self : goal.invariant_of-self
invariant_of-self g c = grind (arith, after_choice, c.self.invariant)

pub returns-clause-queues : goal.returns-clause-queues
returns-clause-queues g c = grind (arith, after_choice, c.self.view_is, c.self.invariant)
