-- The capacities so far are those before and the numbers so far that are between the ends.
use Rattle.std.proofs.Common.{◌≡◌, ◌++◌, map, take}
use Rattle.std.specs.List.{All}
use Rattle.simulator_interface.specs.Amounts.{IsCapacity, amount, between}
use Rattle.simulator_interface.proofs.capacities.add_between.Given as goal

abbrev pub invariant-loop-number : goal.invariant-loop-number
invariant-loop-number g l = record {
  range : l.capacities.items ≡ l.initial.capacities.items ++ map (amount l.fn.first.unit) (between (take l.number-index l.round_numbers) l.fn.first.number l.fn.last);
  within : All IsCapacity l.capacities.items;
}
