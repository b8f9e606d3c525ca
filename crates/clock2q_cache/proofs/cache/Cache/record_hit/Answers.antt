-- A hit on a slot is one on the key that is resident there.
use Rattle.clock2q_cache.proofs.Names.{ap, ◌∙◌, CacheState, hit}
use Rattle.clock2q_cache.proofs.Finding.{found-queued, hit-machine, kept-hit}
use Rattle.clock2q_cache.proofs.cache.Cache.record_hit.Goals as goal

pub hit-requires : goal.hit-requires
hit-requires g c =
    record { resident = found-queued g.met.K.Eq.laws c.self.invariant c.args.key.now c.args.resident (rw (← c.self.view_is) at c.requires) }

pub invariant_of-self : goal.invariant_of-self
invariant_of-self g c = kept-hit g.met.K.Eq.laws c.self.invariant c.args.key.now c.args.resident (rw (← c.self.view_is) at c.requires) c.hit.ensures.queues

pub returns-clause-machine : goal.returns-clause-machine
returns-clause-machine g c =
    hit-machine g.met.K.Eq.laws c.self.invariant c.args.key.now c.args.resident (rw (← c.self.view_is) at c.requires) c.hit.ensures.queues
    ∙ ap (λ (z : CacheState _ _ _). hit (g.K.PartialEq.eq c.args.key.now) z.machine) c.self.view_is
