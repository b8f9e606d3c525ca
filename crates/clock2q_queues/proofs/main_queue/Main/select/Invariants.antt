use Rattle.clock2q_queues.specs.Main.{main_entries, inspections}
use Rattle.clock2q_queues.proofs.Hand.{Swept, with_hand}
use Rattle.clock2q_queues.proofs.main_queue.Main.select.Given as goal

abbrev pub invariant-loop-links : goal.invariant-loop-links
invariant-loop-links g l = Swept l.fn.links l.fn.self l.links l.hand

abbrev pub decreases-loop-links : goal.decreases-loop-links
decreases-loop-links g l = inspections (main_entries l.links (with_hand l.hand l.fn.self))
