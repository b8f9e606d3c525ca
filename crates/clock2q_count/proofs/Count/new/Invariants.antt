use Rattle.clock2q_count.proofs.Count.new.Given as goal

abbrev pub ghost-new : goal.ghost-new
ghost-new a = 0
