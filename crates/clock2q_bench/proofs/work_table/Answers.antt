use Rattle.clock2q_bench.proofs.work_table.Goals as goal

pub find_all-sum-requires-clause-held : goal.find_all-sum-requires-clause-held
find_all-sum-requires-clause-held c = c.in_ok-insert_all.ensures.held
