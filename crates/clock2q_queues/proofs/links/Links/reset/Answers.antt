use Rattle.std.proofs.Common.{length}
use Rattle.clock2q_queues.proofs.Flagged.{are_fresh}
use Rattle.clock2q_queues.proofs.links.Links.reset.Goals as goal

pub invariant_of-self : goal.invariant_of-self
invariant_of-self g c =
    are_fresh (length c.self.inside.ring.cells.items) _ c.clear.new.self c.clear-2.new.self c.clear.ensures (rw c.self.invariant.as_many at c.clear-2.ensures)
