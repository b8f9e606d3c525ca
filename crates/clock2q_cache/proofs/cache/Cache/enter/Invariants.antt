use Rattle.clock2q_cache.proofs.Names.{◌-◌, most_links, most_keys}
use Rattle.clock2q_cache.proofs.cache.Cache.enter.Given as goal

abbrev pub ghost-most : goal.ghost-most
ghost-most g a = (
  most_links (record { eq = g.K.PartialEq.eq; hash_input = g.K.Hash.hash_input }) g.S.BuildHasher g.S.Hasher.Hasher a.key.now a.self.now,
  most_keys (record { eq = g.K.PartialEq.eq; hash_input = g.K.Hash.hash_input }) g.S.BuildHasher g.S.Hasher.Hasher a.key.now a.self.now,
)

abbrev pub ghost-charge : goal.ghost-charge
ghost-charge g a = (a.most.now.value.0 - a.self.now.counts.accesses, a.most.now.value.1 - a.self.now.counts.comparisons)
