use Rattle.clock2q_queues.proofs.Names.{None, arith, length-replicate}
use Rattle.clock2q_queues.proofs.Orders.{empty_order, whole_order}
use Rattle.clock2q_queues.proofs.order.Order.clear.Goals as goal

pub invariant_of-self : goal.invariant_of-self
invariant_of-self g c = empty_order c.clear.new.self (grind (arith, c.clear.ensures)) (grind (arith, c.clear.ensures, c.self.invariant, length-replicate))

pub returns-clause-whole : goal.returns-clause-whole
returns-clause-whole g c = whole_order c.clear.new.self None 0 (record { head = 0; len = 0 }) (invariant_of-self g c)
