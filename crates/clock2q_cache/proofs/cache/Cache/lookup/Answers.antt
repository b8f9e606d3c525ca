-- The lookup finds the slot of the resident, or the place of the remembered key.
use Rattle.clock2q_cache.proofs.Names.{ap, ◌∙◌, found_slot, hash_of, CacheState, slot_of}
use Rattle.clock2q_cache.proofs.Changed.{discard-hash}
use Rattle.clock2q_cache.proofs.Finding.{candidates-there, found-made, looked}
use Rattle.clock2q_cache.proofs.Indexed.{remembers}
use Rattle.clock2q_cache.proofs.cache.Cache.lookup.Goals as goal

pub lookup-requires : goal.lookup-requires
lookup-requires g c =
    record {
      hash = discard-hash g.met.K.Eq.laws c.self.invariant c.args.key.now c.args.hash
          (λ x y e. ap (λ z. hash_of g.S.BuildHasher g.S.Hasher.Hasher c.self.inside.hasher z) (g.met.K.Hash.respects_eq x y e)) (rw (← c.self.view_is) at c.requires);
      made = candidates-there g.met.K.Eq.laws c.self.invariant c.args.hash;
    }

pub returns-clause-slot : goal.returns-clause-slot
returns-clause-slot g c =
    let e = c.lookup.ensures in
    looked g.met.K.Eq.laws c.self.invariant c.args.key.now (λ x y e. ap (λ z. hash_of g.S.BuildHasher g.S.Hasher.Hasher c.self.inside.hasher z) (g.met.K.Hash.respects_eq x y e))
    c.args.hash (rw (← c.self.view_is) at c.requires) c.lookup.result e.slot e.place e.absent
    ∙ ap (λ (z : CacheState _ _ _). slot_of (g.K.PartialEq.eq c.args.key.now) z.machine) c.self.view_is

pub returns-clause-made : goal.returns-clause-made
returns-clause-made g c = rw (← c.self.view_is) (found-made g.met.K.Eq.laws c.self.invariant c.args.key.now (found_slot c.lookup.result) (rw (← c.self.view_is) at (returns-clause-slot g c)))

pub returns-clause-as_many : goal.returns-clause-as_many
returns-clause-as_many g c = rw (← c.self.view_is) (remembers g.met.K.Eq.laws c.self.invariant c.facts.ensures.whole).as_many
