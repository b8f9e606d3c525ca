use Rattle.std.proofs.Common.{rules}
use Rattle.simulator_interface.proofs.capacities.capacity_of.Goals as goal

pub returns-in_default-2-clause-within : goal.returns-in_default-2-clause-within
returns-in_default-2-clause-within g = search rules
