use Rattle.clock2q_directory.proofs.Names.{◌+◌, ◌&&◌, most_changed, most_inserted, index_state, is_shared}
use Rattle.clock2q_directory.proofs.index.Index.replace.Given as goal

abbrev pub ghost-charge : goal.ghost-charge
ghost-charge g a =
    let (hash, old_hash, is_found) = a._seen.now in
    let index = index_state a._shared.now.homes a._own.now.homes in
    most_changed index.shared old_hash + most_inserted (is_found && is_shared index) index.shared hash
