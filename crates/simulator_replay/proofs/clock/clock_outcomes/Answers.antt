use Rattle.std.proofs.Common.{◌≡◌, ◌∙◌, ap, arith, subst}
use Rattle.std.specs.Prelude.{IfOk}
use Rattle.std.specs.NonZero.{non_zero_usize_get}
use Rattle.clock2q_machine.specs.Hits.{outcomes}
use Rattle.clock2q_machine.proofs.WithoutSmall.{clock_outcomes_without_small}
use Rattle.clock2q_machine.specs.MachineHits.{machine_after, machine_holds}
use Rattle.simulator_replay.proofs.clock.clock_outcomes.Goals as goal

pub returns-clause-outcomes : goal.returns-clause-outcomes
returns-clause-outcomes g c = subst (λ all. IfOk c.outcomes_in.result (λ seen. seen.items ≡ all))
    (ap (λ m. outcomes machine_holds machine_after c.args.trace.now m) c.in_ok-cache.ensures.made
    ∙ clock_outcomes_without_small (non_zero_usize_get c.args.capacity) (omega (arith, c.args.capacity.ok)) c.args.trace.now)
    c.outcomes_in.ensures.outcomes
