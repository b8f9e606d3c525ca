use Rattle.clock2q_directory.proofs.directory.Directory.charge.Given as goal

abbrev pub ghost-charge : goal.ghost-charge
ghost-charge g a = g.more
