use Rattle.clock2q_directory.proofs.Names.{◌-◌, false, index_of, index_state, entered_from, forgotten_if, remembered_at}
use Rattle.clock2q_directory.proofs.index.Index.replace_remembering.Given as goal

abbrev pub ghost-charge : goal.ghost-charge
ghost-charge g a =
    let (hash, old_hash) = a._seen.now in
    let index = index_state a._shared.now.homes a._own.now.homes in
    (entered_from index false hash 0 (remembered_at old_hash 0 0 index)).accesses

abbrev pub ghost-charge-2 : goal.ghost-charge-2
ghost-charge-2 g a =
    let (hash, retired, is_found) = a._seen.now in
    let index = index_of a._shared.now a._own.now a.charged.now.total in
    (entered_from index is_found hash 0 (remembered_at retired.hash 0 retired.place (forgotten_if retired.oldest retired.place index))).accesses - a.charged.now.total
