use Rattle.std.proofs.Common.{◌∙◌, ◌++◌, ◌∷◌, [], ap, arith, add-one}
use Rattle.std.specs.NonZero.{non_zero_usize_get}
use Rattle.clock2q_machine.specs.Optimum.{optimal_outcomes}
use Rattle.simulator_policies.proofs.AwaitedSteps.{outcomes_on}
use Rattle.simulator_policies.proofs.optimal.optimal_outcomes.Goals as goal

pub loop-at-preserved : goal.loop-at-preserved
loop-at-preserved g c = record {
  awaiting = c.access.ensures.awaiting;
  room = omega (arith, c.loop-at.invariant.room, c.push_reserved.ensures.len, c.push_reserved.ensures.capacity);
  so_far = rw add-one
      (outcomes_on (non_zero_usize_get c.args.capacity) c.args.trace.now c.loop-at.at c.loop-at.outcomes.items
      c.push_reserved.new.self.items
      (optimal_outcomes (non_zero_usize_get c.args.capacity) c.args.trace.now) c.loop-at-test.true c.loop-at.invariant.so_far
      (c.push_reserved.ensures.items ∙ ap (λ hit. c.loop-at.outcomes.items ++ hit ∷ []) c.access.ensures.hit));
}
