-- The exit status for each refusal.
use Rattle.std.specs.Prelude.{ℕ, ◌≤◌}
use Rattle.simulator_interface.specs.declared.error.ArgumentError.TheVariants.{LargeCapacity}
use Rattle.simulator_interface.specs.declared.error.SimulationError.{SimulationError}
use Rattle.simulator_interface.specs.declared.error.SimulationError.TheVariants.{Argument, NotText, NoCapacity, UnusedShares, Shares, SampledShares, Capacity, Memory, Open, Read, Line, Size, Record, LargeSizes, Write}

abbrev pub status_of : SimulationError → ℕ
status_of (Argument LargeCapacity _) = 3
status_of (Argument _ _) = 2
status_of NotText = 2
status_of NoCapacity = 2
status_of UnusedShares = 2
status_of (Shares _) = 2
status_of (SampledShares _) = 2
status_of (Line _ _) = 2
status_of (Size _ _) = 2
status_of (Record _) = 2
status_of LargeSizes = 2
status_of Memory = 3
status_of (Capacity _) = 3
status_of Open = 4
status_of Read = 4
status_of Write = 4

-- no device failed: the status is not the one of a failed device
abbrev pub IsOfNoDevice : SimulationError → Type 0
IsOfNoDevice refusal = status_of refusal ≤ 3
