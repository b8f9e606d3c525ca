use Rattle.clock2q_queues.proofs.Names.{ap, arith, end_of, PlaceOrder}
use Rattle.clock2q_queues.proofs.Growth.{order-grown}
use Rattle.clock2q_queues.proofs.Orders.{IsOrder-from, order_shown-is, whole_order}
use Rattle.clock2q_queues.proofs.order.Order.grown.Goals as goal

pub invariant_of-result : goal.invariant_of-result
invariant_of-result g c =
    let i = c.self.inside in
    IsOrder-from (order-grown i.ring c.in_ok-grown.field-0 (end_of i.len i.newest) i.len i.chain c.args.limit c.in_ok-grown.ensures
    (rw (ap (λ (z : PlaceOrder). z.limit) c.self.view_is) c.requires.limit) c.ranges.limit.fits c.self.invariant)

pub returns-clause-grown : goal.returns-clause-grown
returns-clause-grown g c = grind (arith, order-grown, order_shown-is, c.self.view_is, c.self.invariant, c.in_ok-grown.ensures, c.requires.limit, c.ranges.limit.fits)

pub returns-clause-whole : goal.returns-clause-whole
returns-clause-whole g c = whole_order _ _ _ _ (invariant_of-result g c)
