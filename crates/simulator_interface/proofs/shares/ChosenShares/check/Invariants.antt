-- The shares fit together in a cache of each capacity so far.
use Rattle.std.proofs.Common.{Some, take}
use Rattle.std.specs.List.{All}
use Rattle.simulator_interface.specs.ChosenShares.{Fits}
use Rattle.simulator_interface.proofs.shares.ChosenShares.check.Given as goal

abbrev pub invariant-loop-capacity : goal.invariant-loop-capacity
invariant-loop-capacity l = All (Fits (Some l.fn.self)) (take l.capacity-index l.capacities)
