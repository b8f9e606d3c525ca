-- The hits of a trace in Clock2Q+, as its machine defines them: every key is put.
use Rattle.std.specs.Prelude.{ℕ, Bool, List}
use Rattle.clock2q_machine.specs.Hits.{hits, outcomes}
use Rattle.clock2q_machine.specs.Machine.{empty}
use Rattle.clock2q_machine.specs.MachineHits.{machine_holds, machine_after}
use Rattle.clock2q_machine.specs.Shares.{Shares}

abbrev pub machine_hits : Shares → List ℕ → ℕ
machine_hits shares trace = hits machine_holds machine_after trace (empty shares)

-- and whether each key hits
abbrev pub machine_outcomes : Shares → List ℕ → List Bool
machine_outcomes shares trace = outcomes machine_holds machine_after trace (empty shares)
