use Rattle.clock2q_cache.proofs.Names.{ap, sym, ◌∙◌, CacheState, resident_at}
use Rattle.clock2q_cache.proofs.Vacated.{slot-made, resident-key}
use Rattle.clock2q_cache.proofs.cache.Cache.key.Goals as goal

pub key-requires : goal.key-requires
key-requires g c = record { made = slot-made g.met.K.Eq.laws c.self.invariant c.args.slot (rw (← c.self.view_is) at c.requires) }

pub returns : goal.returns
returns g c =
    sym (ap (λ (z : CacheState _ _ _). resident_at z.machine c.args.slot) c.self.view_is)
    ∙ resident-key g.met.K.Eq.laws c.self.invariant c.args.slot (rw (← c.self.view_is) at c.requires) _ c.key.ensures.key
