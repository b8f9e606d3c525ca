use Rattle.clock2q_queues.proofs.Names.{refl, map-set}
use Rattle.clock2q_queues.proofs.links.window.Window.free.Goals as goal

pub returns : goal.returns
returns g c = rw (← c.self.view_is, c.tick.ensures.ticked, map-set) refl
