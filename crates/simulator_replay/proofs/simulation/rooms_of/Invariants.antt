-- The numbers so far are those of the capacities so far.
use Rattle.std.proofs.Common.{◌≡◌, map, take}
use Rattle.std.specs.NonZero.{non_zero_usize_get}
use Rattle.simulator_interface.specs.Amounts.{keys_of}
use Rattle.simulator_replay.proofs.simulation.rooms_of.Given as goal

abbrev pub invariant-loop-asked : goal.invariant-loop-asked
invariant-loop-asked g l = map non_zero_usize_get l.rooms.items ≡ map (λ amount. keys_of amount l.fn.trace.different) (take l.asked-index l.capacities)
