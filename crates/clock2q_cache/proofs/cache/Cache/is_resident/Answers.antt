-- The slot has a resident if it is in a queue.
use Rattle.clock2q_cache.proofs.Names.{ap, sym, ◌∙◌, arith, is_some, CacheState, resident_at}
use Rattle.clock2q_cache.proofs.Renewed.{slot-below}
use Rattle.clock2q_cache.proofs.Vacated.{resident-some, own-slots}
use Rattle.clock2q_cache.proofs.cache.Cache.is_resident.Goals as goal

pub returns-clause-resident : goal.returns-clause-resident
returns-clause-resident g c =
    c.is_resident.ensures.resident ∙ sym (resident-some g.met.K.Eq.laws c.self.invariant c.args.slot)
    ∙ ap (λ (z : CacheState _ _ _). is_some (resident_at z.machine c.args.slot)) c.self.view_is

pub returns-clause-own : goal.returns-clause-own
returns-clause-own g c = rw (← c.self.view_is) (own-slots g.met.K.Eq.laws c.self.invariant c.args.slot)

pub returns-clause-small : goal.returns-clause-small
returns-clause-small g c is = omega (arith, (slot-below g.met.K.Eq.laws c.self.invariant c.args.slot (sym c.is_resident.ensures.resident ∙ is)).2)
