use Rattle.clock2q_queues.proofs.Names.{arith, ◌-◌, ap, made_below, QueueState}
use Rattle.clock2q_queues.proofs.Sharing.{after_making}
use Rattle.clock2q_queues.proofs.queues.Queues.make_below.Goals as goal

pub invariant_of-self : goal.invariant_of-self
invariant_of-self g c =
    let l = c.self.inside.links in
    (after_making l c.self.inside.small c.self.inside.main c.self.invariant c.make_below.new.self (c.args.bound - l.made) (made_below c.args.bound l.made) c.make_below.ensures.made).queues

pub make_below-requires : goal.make_below-requires
make_below-requires g c = rw (ap (λ (q : QueueState). q.slots) c.self.view_is) c.requires.bound_in

pub returns : goal.returns
returns g c = grind (arith, after_making, c.self.view_is, c.self.invariant, c.make_below.ensures.made)
