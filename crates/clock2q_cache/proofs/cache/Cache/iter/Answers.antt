use Rattle.clock2q_cache.proofs.Names.{sym, ◌∙◌}
use Rattle.clock2q_cache.proofs.Iteration.{entries-by_slot, length-entries}
use Rattle.clock2q_cache.proofs.cache.Cache.iter.Goals as goal

pub invariant_of-result : goal.invariant_of-result
invariant_of-result g c = record { left_is = c.len.ensures.count ∙ sym (length-entries g.K.PartialEq.eq c.args.self.now.machine c.facts.ensures.whole); once = c.new.ensures.zero }

pub returns-clause-by_slot : goal.returns-clause-by_slot
returns-clause-by_slot g c = entries-by_slot c.args.self.now.machine

pub returns-clause-len : goal.returns-clause-len
returns-clause-len g c = length-entries g.K.PartialEq.eq c.args.self.now.machine c.facts.ensures.whole
