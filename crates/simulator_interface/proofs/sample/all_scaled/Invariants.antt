-- The capacities so far are scaled.
use Rattle.std.proofs.Common.{◌≡◌, map, take}
use Rattle.simulator_interface.specs.Sample.{scaled}
use Rattle.simulator_interface.proofs.sample.all_scaled.Given as goal

abbrev pub invariant-loop-capacity : goal.invariant-loop-capacity
invariant-loop-capacity g l = l.all.items ≡ map (scaled l.fn.sample) (take l.capacity-index l.capacities)
