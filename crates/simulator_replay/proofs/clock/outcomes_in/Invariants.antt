-- The outcomes so far, followed by those to come, are all outcomes.
use Rattle.std.proofs.Common.{◌≡◌, ◌+◌, ◌-◌, ◌≤◌, ◌++◌, length, drop, vec_len, vec_capacity}
use Rattle.clock2q_machine.specs.Hits.{outcomes}
use Rattle.clock2q_machine.specs.MachineHits.{machine_holds, machine_after}
use Rattle.simulator_replay.proofs.clock.outcomes_in.Given as goal

abbrev pub invariant-loop-key : goal.invariant-loop-key
invariant-loop-key g l = record {
  room : vec_len l.outcomes + (length l.trace - l.key-index) ≤ vec_capacity l.outcomes;
  so_far : l.outcomes.items ++ outcomes machine_holds machine_after (drop l.key-index l.trace) l.cache.machine ≡ outcomes machine_holds machine_after l.trace l.fn.cache.machine;
}
