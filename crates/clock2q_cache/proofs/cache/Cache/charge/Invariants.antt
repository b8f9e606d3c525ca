use Rattle.clock2q_cache.proofs.cache.Cache.charge.Given as goal

abbrev pub ghost-charge : goal.ghost-charge
ghost-charge g a = g.more.0

abbrev pub ghost-charge-2 : goal.ghost-charge-2
ghost-charge-2 g a = g.more.1
