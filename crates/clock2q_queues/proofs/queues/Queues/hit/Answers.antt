use Rattle.clock2q_queues.proofs.Hits.{after_hit, resident_linked}
use Rattle.clock2q_queues.proofs.queues.Queues.hit.Goals as goal

pub set_bit-requires : goal.set_bit-requires
set_bit-requires g c = resident_linked c.self.inside.links c.self.inside.small c.self.inside.main c.self.invariant c.args.slot c.args.self.now c.self.view_is c.requires.resident

pub invariant_of-self : goal.invariant_of-self
invariant_of-self g c = (after_hit c.self.inside.links c.self.inside.small c.self.inside.main c.self.invariant c.args.slot c.set_bit.new.self c.set_bit.ensures).queues

pub returns : goal.returns
returns g c = record { queues = rw (← c.self.view_is) (after_hit c.self.inside.links c.self.inside.small c.self.inside.main c.self.invariant c.args.slot c.set_bit.new.self c.set_bit.ensures).is }
