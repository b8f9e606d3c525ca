use Rattle.std.proofs.Common.{arith}
use Rattle.clock2q_queues.proofs.Locations.{linked_anywhere}
use Rattle.clock2q_queues.proofs.queues.Queues.is_resident.Goals as goal

pub returns : goal.returns
returns g c = grind (arith, linked_anywhere, c.is_linked.ensures, c.self.invariant, c.self.view_is)
