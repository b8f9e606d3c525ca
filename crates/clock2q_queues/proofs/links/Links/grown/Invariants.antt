use Rattle.clock2q_queues.proofs.links.Links.grown.Given as goal

abbrev pub ghost-raise : goal.ghost-raise
ghost-raise g a = a.seen.now.total
