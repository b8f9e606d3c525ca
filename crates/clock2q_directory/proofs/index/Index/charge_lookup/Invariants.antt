use Rattle.clock2q_directory.proofs.Names.{◌+◌, walk}
use Rattle.clock2q_directory.proofs.index.Index.charge_lookup.Given as goal

abbrev pub ghost-charge : goal.ghost-charge
ghost-charge g a = walk a._shared.now.homes a._seen.now + walk a._own.now.homes a._seen.now
