use Rattle.clock2q_queues.proofs.Locations.{is_at}
use Rattle.clock2q_queues.proofs.Sharing.{after_reading}
use Rattle.clock2q_queues.proofs.queues.Queues.location.Goals as goal

pub invariant_of-self : goal.invariant_of-self
invariant_of-self g c = (after_reading c.self.inside.links c.self.inside.small c.self.inside.main c.self.invariant c.location.new.self c.location.ensures.counted).queues

pub returns-clause-value : goal.returns-clause-value
returns-clause-value g c =
    let i = c.self.inside in
    rw (← c.self.view_is) (is_at i.links i.small i.main c.self.invariant c.args.slot c.location.result c.location.ensures.value)
