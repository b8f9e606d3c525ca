-- What the walk finds are the slots of the residents with the hash, each once.
use Rattle.clock2q_cache.proofs.Names.{slice_get, ap, ◌∙◌, hash_of, CacheState, slots_with_hash}
use Rattle.clock2q_cache.proofs.Finding.{candidates-there}
use Rattle.clock2q_cache.proofs.WithHash.{found-within, with-hash, absent-unless, lists-each, lists-once}
use Rattle.clock2q_cache.proofs.cache.Cache.with_hash.Goals as goal

pub slot_with_hash-requires : goal.slot_with_hash-requires
slot_with_hash-requires g c = record { made = candidates-there g.met.K.Eq.laws c.self.invariant c.args.hash }

pub returns-clause-slot : goal.returns-clause-slot
returns-clause-slot g c =
    c.slot_with_hash.ensures.slot ∙ ap (λ z. slice_get z c.args.nth) (with-hash g.met.K.Eq.laws c.self.invariant c.args.hash)
    ∙ ap (λ (z : CacheState _ _ _). slice_get
    (slots_with_hash
    (record { eq = g.K.PartialEq.eq; hash_input = g.K.Hash.hash_input }) g.S.BuildHasher g.S.Hasher.Hasher c.args.hash z)
    c.args.nth) c.self.view_is

pub returns-clause-listed : goal.returns-clause-listed
returns-clause-listed g c =
    rw (← c.self.view_is) (record {
      each = lists-each g.met.K.Eq.laws c.self.invariant c.args.hash;
      once = lists-once g.met.K.Eq.laws c.self.invariant c.args.hash;
    })

pub returns-clause-absent : goal.returns-clause-absent
returns-clause-absent g c =
    rw (← c.self.view_is)
    (absent-unless g.met.K.Eq.laws c.self.invariant (λ x y e. ap (λ z. hash_of g.S.BuildHasher g.S.Hasher.Hasher c.self.inside.hasher z) (g.met.K.Hash.respects_eq x y e))
    c.args.hash c.args.nth c.slot_with_hash.result c.slot_with_hash.ensures.slot)

pub returns-clause-within : goal.returns-clause-within
returns-clause-within g c = rw (← c.self.view_is) (found-within g.met.K.Eq.laws c.self.invariant c.args.hash c.args.nth c.slot_with_hash.result c.slot_with_hash.ensures.slot)
