use Rattle.clock2q_directory.proofs.Names.{◌+◌}
use Rattle.clock2q_directory.proofs.index.Index.charge_as.Given as goal

abbrev pub ghost-raise : goal.ghost-raise
ghost-raise g a = a.self.now.total + a.seen.now.total
