-- The capacities so far are shown.
use Rattle.std.proofs.Common.{◌≡◌, map, take}
use Rattle.simulator_interface.specs.Sample.{shown}
use Rattle.simulator_interface.proofs.sample.all_shown.Given as goal

abbrev pub invariant-loop-capacity : goal.invariant-loop-capacity
invariant-loop-capacity g l = l.all.items ≡ map (shown l.fn.sample l.fn.keys) (take l.capacity-index l.capacities)
