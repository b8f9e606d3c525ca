use Rattle.clock2q_cache.proofs.Names.{rules}
use Rattle.clock2q_cache.proofs.cache.Cache.contains.Goals as goal

pub returns : goal.returns
returns g c = search rules
