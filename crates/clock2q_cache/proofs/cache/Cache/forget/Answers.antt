-- The key's history is erased.
use Rattle.clock2q_cache.proofs.Names.{◌+◌, ap, ◌∙◌, list_any, is_shared, slots, Remembered, Places, most_beside, slots-freed, shared-freed, if◌then◌else◌, hash_of, CacheState, forgotten, discarded}
use Rattle.clock2q_cache.proofs.Changed.{known-any, discard-hash, forgotten-machine, kept-forgotten}
use Rattle.clock2q_cache.proofs.cache.Cache.forget.Goals as goal

pub forget-requires : goal.forget-requires
forget-requires g c =
    record {
      hash = discard-hash g.met.K.Eq.laws c.self.invariant c.args.key.now c.args.hash
          (λ x y e. ap (λ z. hash_of g.S.BuildHasher g.S.Hasher.Hasher c.self.inside.hasher z) (g.met.K.Hash.respects_eq x y e)) (rw (← c.self.view_is) at c.requires.hash);
      place = rw (← c.self.view_is) at c.requires.place;
    }

pub invariant_of-self : goal.invariant_of-self
invariant_of-self g c =
    rw c.forget.ensures.kept (kept-forgotten g.met.K.Eq.laws c.self.invariant c.args.key.now c.forget.new.self.history
    (ap (λ (z : Remembered _). z.entries) c.forget.ensures.forgotten) (ap (λ (z : Remembered _). z.limit) c.forget.ensures.forgotten)
    (ap (λ (z : Remembered _). most_beside z) c.forget.ensures.forgotten
    ∙ ap (λ b. if b then c.self.inside.directory.history.limit + 1 else 0)
    (ap (λ (z : Places). is_shared z.index) c.forget.ensures.places
    ∙ shared-freed c.args.hash _ c.self.inside.directory.history.places))
    (ap (λ (z : Places). slots z.index) c.forget.ensures.places ∙ slots-freed c.args.hash _ c.self.inside.directory.history.places))

pub returns-clause-known : goal.returns-clause-known
returns-clause-known g c =
    c.forget.ensures.found ∙ known-any (g.K.PartialEq.eq c.args.key.now) c.self.inside.directory.history.entries
    ∙ ap (λ (z : CacheState _ _ _). list_any (g.K.PartialEq.eq c.args.key.now) z.machine.history) c.self.view_is

pub returns-clause-machine : goal.returns-clause-machine
returns-clause-machine g c =
    rw c.forget.ensures.kept (forgotten-machine g.met.K.Eq.laws c.self.invariant c.args.key.now c.forget.new.self.history (ap (λ (z : Remembered _). z.entries) c.forget.ensures.forgotten)
    ∙ ap (λ (z : CacheState _ _ _). forgotten (g.K.PartialEq.eq c.args.key.now) z.machine) c.self.view_is)

pub returns-clause-places : goal.returns-clause-places
returns-clause-places g c = c.forget.ensures.places ∙ ap (λ (z : CacheState _ _ _). discarded (g.K.PartialEq.eq c.args.key.now) c.args.hash z) c.self.view_is
