use Rattle.std.proofs.Common.{refl}
use Rattle.clock2q_queues.proofs.Sharing.{after_counting}
use Rattle.clock2q_queues.proofs.queues.Queues.charge.Goals as goal

pub invariant_of-self : goal.invariant_of-self
invariant_of-self g c = (after_counting _ _ _ (rw (← c.self-inside.view_is) at c.self.invariant) _ g.more (rw c.charge.ensures refl)).queues
