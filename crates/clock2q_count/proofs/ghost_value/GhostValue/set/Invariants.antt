use Rattle.clock2q_count.proofs.ghost_value.GhostValue.set.Given as goal

abbrev pub ghost-new : goal.ghost-new
ghost-new g a = g.picked
