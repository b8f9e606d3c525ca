-- A cache of Clock2Q+ or of CLOCK can hold each capacity so far.
use Rattle.std.proofs.Common.{take}
use Rattle.std.specs.List.{All}
use Rattle.simulator_interface.specs.Sample.{IsForSampledClock}
use Rattle.simulator_interface.proofs.capacities.check_sampled.Given as goal

abbrev pub invariant-loop-capacity : goal.invariant-loop-capacity
invariant-loop-capacity l = All (IsForSampledClock l.fn.sample) (take l.capacity-index l.capacities)
