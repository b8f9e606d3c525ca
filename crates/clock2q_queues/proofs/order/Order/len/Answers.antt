use Rattle.clock2q_queues.specs.Links.{end_of}
use Rattle.clock2q_queues.proofs.Orders.{whole_order}
use Rattle.clock2q_queues.proofs.order.Order.len.Goals as goal

pub returns-clause-whole : goal.returns-clause-whole
returns-clause-whole g c =
    let i = c.self.inside in
    rw (← c.self.view_is) (whole_order i.ring (end_of i.len i.newest) i.len i.chain c.self.invariant)
