-- The queues choose as the machine does.
use Rattle.clock2q_cache.proofs.Names.{◌∙◌}
use Rattle.clock2q_cache.proofs.MakingRoom.{leaves_same}
use Rattle.clock2q_cache.proofs.cache.Cache.victim_leaves.Goals as goal

pub returns-clause-leaves : goal.returns-clause-leaves
returns-clause-leaves g c = rw (← c.self.view_is) (c.victim_leaves.ensures.leaves ∙ leaves_same g.met.K.Eq.laws c.self.invariant)
