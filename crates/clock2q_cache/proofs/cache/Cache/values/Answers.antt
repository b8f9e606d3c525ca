use Rattle.clock2q_cache.proofs.Names.{◌∙◌, length-map, value_in}
use Rattle.clock2q_cache.proofs.cache.Cache.values.Goals as goal

pub returns-clause-len : goal.returns-clause-len
returns-clause-len g c = length-map c.iter.result value_in ∙ c.iter.ensures.len
