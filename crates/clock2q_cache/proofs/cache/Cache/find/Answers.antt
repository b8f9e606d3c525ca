-- The lookup through the index finds the slot of the resident.
use Rattle.clock2q_cache.proofs.Names.{refl, ap, ◌∙◌, hash_of, CacheState, slot_of}
use Rattle.clock2q_cache.proofs.Changed.{kept-looked}
use Rattle.clock2q_cache.proofs.Finding.{candidates-there, found, found-made}
use Rattle.clock2q_cache.proofs.Spent.{asked-spends}
use Rattle.clock2q_cache.proofs.cache.Cache.find.Goals as goal

pub find_resident-requires : goal.find_resident-requires
find_resident-requires g c = record { made = candidates-there g.met.K.Eq.laws c.self.invariant c.args.hash }

pub invariant_of-self : goal.invariant_of-self
invariant_of-self g c = rw (c.find_resident.ensures.kept, c.find_resident.ensures.counted) (kept-looked g.met.K.Eq.laws c.self.invariant c.args.hash _ _ refl refl refl)

pub returns-clause-slot : goal.returns-clause-slot
returns-clause-slot g c =
    let k = c.self.invariant in
    let same = rw (← c.self.view_is) at c.requires in
    c.find_resident.ensures.slot
    ∙ found g.met.K.Eq.laws k c.args.key.now (λ x y e. ap (λ z. hash_of g.S.BuildHasher g.S.Hasher.Hasher c.self.inside.hasher z) (g.met.K.Hash.respects_eq x y e)) c.args.hash same
    ∙ ap (λ (z : CacheState _ _ _). slot_of (g.K.PartialEq.eq c.args.key.now) z.machine) c.self.view_is

pub returns-clause-made : goal.returns-clause-made
returns-clause-made g c = rw (← c.self.view_is) (found-made g.met.K.Eq.laws c.self.invariant c.args.key.now c.find_resident.result (rw (← c.self.view_is) at (returns-clause-slot g c)))

pub returns-clause-counts : goal.returns-clause-counts
returns-clause-counts g c =
    rw (← c.self.view_is, c.find_resident.ensures.kept) (asked-spends c.self.inside.queues c.self.inside.directory.history c.self.inside.directory.residents _ _ refl c.find_resident.ensures.counted)
