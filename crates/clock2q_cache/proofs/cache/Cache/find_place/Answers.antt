use Rattle.clock2q_cache.proofs.Names.{ap, hash_of}
use Rattle.clock2q_cache.proofs.Changed.{discard-hash}
use Rattle.clock2q_cache.proofs.cache.Cache.find_place.Goals as goal

pub find_remembered-requires : goal.find_remembered-requires
find_remembered-requires g c = record {
  hash = discard-hash g.met.K.Eq.laws c.self.invariant c.args.key.now c.args.hash
      (λ x y e. ap (λ z. hash_of g.S.BuildHasher g.S.Hasher.Hasher c.self.inside.hasher z) (g.met.K.Hash.respects_eq x y e)) (rw (← c.self.view_is) at c.requires);
}
