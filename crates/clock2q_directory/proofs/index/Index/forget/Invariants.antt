use Rattle.clock2q_directory.proofs.Names.{if◌then◌else◌, most_changed, index_state, is_shared}
use Rattle.clock2q_directory.proofs.index.Index.forget.Given as goal

abbrev pub ghost-charge : goal.ghost-charge
ghost-charge g a = most_changed (if is_shared (index_state a._shared.now.homes a._own.now.homes) then a._shared.now.homes else a._own.now.homes) a._seen.now
