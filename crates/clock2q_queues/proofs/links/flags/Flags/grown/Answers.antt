use Rattle.clock2q_queues.proofs.Names.{arith, Flag}
use Rattle.clock2q_queues.proofs.AllRecords.{length-all}
use Rattle.clock2q_queues.proofs.Copies.{flags-grown}
use Rattle.clock2q_queues.proofs.links.flags.Flags.grown.Goals as goal

pub returns : goal.returns
returns g c = grind (arith, flags-grown, length-all Flag.Free, c.self.view_is, c.requires, c.self.invariant, c.extend_from_slice.ensures.items, c.in_ok-extend_from_slice.is, c.in_ok-flags.ensures.items)
