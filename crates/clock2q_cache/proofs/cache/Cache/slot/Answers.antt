use Rattle.clock2q_cache.proofs.Names.{rules}
use Rattle.clock2q_cache.proofs.cache.Cache.slot.Goals as goal

pub returns-clause-slot : goal.returns-clause-slot
returns-clause-slot g c = search rules
