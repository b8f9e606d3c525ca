use Rattle.clock2q_count.proofs.Count.raise.Given as goal

abbrev pub ghost-set : goal.ghost-set
ghost-set g a = g.bound
