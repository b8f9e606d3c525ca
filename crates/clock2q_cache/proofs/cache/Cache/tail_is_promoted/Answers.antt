-- The tail's age is that of the machine's tail.
use Rattle.clock2q_cache.proofs.Renewed.{tail-promotes}
use Rattle.clock2q_cache.proofs.cache.Cache.tail_is_promoted.Goals as goal

pub returns-clause-value : goal.returns-clause-value
returns-clause-value g c =
    rw (← c.self.view_is) (tail-promotes g.met.K.Eq.laws c.self.invariant (rw (← c.self.view_is) at c.requires) c.tail_is_promoted.result c.tail_is_promoted.ensures.value)
