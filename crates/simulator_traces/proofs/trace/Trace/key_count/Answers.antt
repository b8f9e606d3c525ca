use Rattle.std.proofs.Common.{ap, subst}
use Rattle.simulator_traces.specs.Trace.{AreUsed}
use Rattle.simulator_traces.proofs.trace.Trace.key_count.Goals as goal

pub returns-clause-used : goal.returns-clause-used
returns-clause-used g c = subst (λ numbers. AreUsed numbers c.self.inside.different) (ap (λ t. t.numbers) c.self.view_is) c.self.invariant.numbered.used
