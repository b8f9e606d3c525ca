use Rattle.clock2q_queues.proofs.Names.{refl, map-set}
use Rattle.clock2q_queues.proofs.Positions.{slot_of-slot}
use Rattle.clock2q_queues.proofs.links.window.Window.replace.Goals as goal

pub returns-clause-taken : goal.returns-clause-taken
returns-clause-taken g c = rw (← c.self.view_is, c.tick-2.ensures.ticked, c.tick.ensures.ticked, map-set, slot_of-slot c.args.slot c.requires.countable) refl
