use Rattle.clock2q_directory.proofs.Names.{◌+◌, length}
use Rattle.clock2q_directory.proofs.index.Index.clear.Given as goal

abbrev pub ghost-charge : goal.ghost-charge
ghost-charge g a = length a._shared.now.homes + length a._own.now.homes
