use Rattle.clock2q_cache.proofs.cache.Cache.most.Given as goal

abbrev pub ghost-new : goal.ghost-new
ghost-new g a = g.picked
