use Rattle.clock2q_cache.proofs.Names.{rules}
use Rattle.clock2q_cache.specs.Hashes.{hash_of}
use Rattle.clock2q_cache.proofs.cache.Cache.hash.Goals as goal

pub returns : goal.returns
unfolding hash_of
returns g c = search rules
