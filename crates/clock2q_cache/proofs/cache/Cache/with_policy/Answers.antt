use Rattle.clock2q_cache.proofs.Names.{rules}
use Rattle.clock2q_cache.proofs.cache.Cache.with_policy.Goals as goal

pub returns-clause-made : goal.returns-clause-made
returns-clause-made g c = search rules
