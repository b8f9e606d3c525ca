-- The lookup through the index finds the slot of the resident.
use Rattle.clock2q_cache.proofs.Names.{ap, ◌∙◌, hash_of, CacheState, slot_of}
use Rattle.clock2q_cache.proofs.Finding.{candidates-there, found, found-made}
use Rattle.clock2q_cache.proofs.cache.Cache.slot_of.Goals as goal

pub slot_of-requires : goal.slot_of-requires
slot_of-requires g c = record { made = candidates-there g.met.K.Eq.laws c.self.invariant _ }

pub returns-clause-slot : goal.returns-clause-slot
returns-clause-slot g c =
    let k = c.self.invariant in
    c.slot_of.ensures.slot
    ∙ found g.met.K.Eq.laws k c.args.key.now (λ x y e. ap (λ z. hash_of g.S.BuildHasher g.S.Hasher.Hasher c.self.inside.hasher z) (g.met.K.Hash.respects_eq x y e)) _ (rw (← c.self.view_is) at c.hash.ensures)
    ∙ ap (λ (z : CacheState _ _ _). slot_of (g.K.PartialEq.eq c.args.key.now) z.machine) c.self.view_is

pub returns-clause-made : goal.returns-clause-made
returns-clause-made g c = rw (← c.self.view_is) (found-made g.met.K.Eq.laws c.self.invariant c.args.key.now c.slot_of.result (rw (← c.self.view_is) at (returns-clause-slot g c)))
