-- The accesses of a trace whose keys are in a sample.
use Rattle.std.specs.Prelude.{ℕ, Bool, true, List, Option, Some, None}
use Rattle.std.specs.List.{filter}
use Rattle.simulator_interface.specs.declared.sample.Sample.{Sample}
use Rattle.simulator_interface.specs.Sample.{is_in_sample}
use Rattle.simulator_traces.specs.Formats.{Access}

-- whether a key is in a sample, or there is none
abbrev pub is_sampled : Option Sample → List ℕ → Bool
is_sampled None key = true
is_sampled (Some sample) key = is_in_sample sample key

-- the accesses whose keys are in a sample, or all of them without one
abbrev pub sampled : Option Sample → List Access → List Access
sampled None accesses = accesses
sampled (Some sample) accesses = filter (λ access. is_in_sample sample access.key) accesses
