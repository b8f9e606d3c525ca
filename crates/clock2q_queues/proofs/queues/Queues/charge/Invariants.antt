use Rattle.clock2q_queues.proofs.queues.Queues.charge.Given as goal

abbrev pub ghost-charge : goal.ghost-charge
ghost-charge g a = g.more
