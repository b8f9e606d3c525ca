use Rattle.std.proofs.Common.{[], ◌∷◌, ◌++◌}
use Rattle.simulator_traces.specs.Formats.{access}
use Rattle.simulator_traces.proofs.trace.GrowingTrace.push_sized.Given as goal

abbrev pub ghost-set : goal.ghost-set
ghost-set g a = a.self.now.value ++ access a.seen.now.0.now a.seen.now.1 ∷ []
