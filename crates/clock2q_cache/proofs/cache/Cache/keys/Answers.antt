use Rattle.clock2q_cache.proofs.Names.{map, ap, ◌∙◌, length-map, key_of}
use Rattle.clock2q_cache.proofs.Iteration.{entries-keys}
use Rattle.clock2q_cache.proofs.cache.Cache.keys.Goals as goal

pub returns-clause-keys : goal.returns-clause-keys
returns-clause-keys g c = ap (map key_of) c.iter.ensures.values ∙ entries-keys c.args.self.now.machine

pub returns-clause-len : goal.returns-clause-len
returns-clause-len g c = length-map c.iter.result key_of ∙ c.iter.ensures.len
