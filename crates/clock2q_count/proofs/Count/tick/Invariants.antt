use Rattle.std.specs.Prelude.{◌+◌}
use Rattle.clock2q_count.proofs.Count.tick.Given as goal

abbrev pub ghost-set : goal.ghost-set
ghost-set a = a.self.now.value + 1
