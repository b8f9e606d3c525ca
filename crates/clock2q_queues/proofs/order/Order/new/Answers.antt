use Rattle.clock2q_queues.proofs.Names.{None, arith, length-replicate}
use Rattle.clock2q_queues.proofs.Orders.{empty_order, whole_order}
use Rattle.clock2q_queues.proofs.order.Order.new.Goals as goal

pub invariant_of-result : goal.invariant_of-result
invariant_of-result g c = empty_order c.in_ok-new.field-0 (grind (arith, c.in_ok-new.ensures)) (grind (arith, c.in_ok-new.ensures, c.ranges.limit.fits, length-replicate))

pub returns-clause-whole : goal.returns-clause-whole
returns-clause-whole g c = whole_order c.in_ok-new.field-0 None 0 (record { head = 0; len = 0 }) (invariant_of-result g c)
