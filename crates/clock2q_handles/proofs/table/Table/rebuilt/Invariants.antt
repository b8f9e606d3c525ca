use Rattle.clock2q_handles.proofs.table.Table.rebuilt.Given as goal

abbrev pub ghost-raise : goal.ghost-raise
ghost-raise g a = a.seen.now.total
