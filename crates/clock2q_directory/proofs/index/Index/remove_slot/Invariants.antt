use Rattle.clock2q_directory.proofs.Names.{most_changed}
use Rattle.clock2q_directory.proofs.index.Index.remove_slot.Given as goal

abbrev pub ghost-charge : goal.ghost-charge
ghost-charge g a = most_changed a._shared.now.homes a._seen.now
