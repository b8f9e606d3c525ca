-- The refusal of a simulation for a cache that can't be made.
use Rattle.std.specs.Prelude.{ℕ}
use Rattle.clock2q_cache.specs.declared.error.CacheError.{CacheError}
use Rattle.clock2q_cache.specs.declared.error.CacheError.TheVariants as cache
use Rattle.simulator_interface.specs.declared.amount.Unit.TheVariants.{Keys}
use Rattle.simulator_interface.specs.declared.error.SimulationError.{SimulationError}
use Rattle.simulator_interface.specs.declared.error.SimulationError.TheVariants.{Shares, Capacity, Memory}
use Rattle.simulator_interface.specs.Amounts.{amount}

abbrev pub of_cache : CacheError → ℕ → SimulationError
of_cache cache.Capacity capacity = Capacity (amount Keys capacity)
of_cache cache.Memory capacity = Memory
of_cache cache.Policy capacity = Shares capacity
