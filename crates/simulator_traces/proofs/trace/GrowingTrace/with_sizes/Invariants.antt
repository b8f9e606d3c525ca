use Rattle.std.proofs.Common.{[]}
use Rattle.simulator_traces.proofs.trace.GrowingTrace.with_sizes.Given as goal

abbrev pub ghost-new : goal.ghost-new
ghost-new g a = []
