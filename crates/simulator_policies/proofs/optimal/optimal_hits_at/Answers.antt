use Rattle.std.proofs.Common.{ap, ◌∙◌, [], ◌∷◌, ◌++◌}
use Rattle.std.specs.NonZero.{non_zero_usize_get}
use Rattle.clock2q_machine.specs.Optimum.{optimal_hits}
use Rattle.simulator_policies.proofs.Curve.{map-further}
use Rattle.simulator_policies.proofs.optimal.optimal_hits_at.Goals as goal

pub loop-capacity-preserved : goal.loop-capacity-preserved
loop-capacity-preserved g c =
    map-further (λ capacity. optimal_hits (non_zero_usize_get capacity) c.args.trace.now) c.args.capacities.now
    c.loop-capacity.hits.items c.push.new.self.items c.loop-capacity.capacity-index c.capacity-item.result
    c.loop-capacity-test.true c.capacity-item.is c.loop-capacity.invariant
    (c.in_ok-push.ensures.items ∙ ap (λ n. c.loop-capacity.hits.items ++ n ∷ []) c.in_ok-hits_by.ensures.hits)
