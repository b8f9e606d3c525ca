use Rattle.clock2q_directory.proofs.Names.{◌&&◌, most_inserted, index_state, is_shared}
use Rattle.clock2q_directory.proofs.index.Index.add_slot.Given as goal

abbrev pub ghost-charge : goal.ghost-charge
ghost-charge g a = most_inserted (a._seen.now.1 && is_shared (index_state a._shared.now.homes a._own.now.homes)) a._shared.now.homes a._seen.now.0
