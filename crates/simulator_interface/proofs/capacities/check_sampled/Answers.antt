use Rattle.std.proofs.Common.{◌+◌, take, subst}
use Rattle.std.specs.List.{All}
use Rattle.std.proofs.lemmas.List.{take_all, take_more}
use Rattle.simulator_interface.specs.Amounts.{IsForClock}
use Rattle.simulator_interface.specs.Sample.{IsForSampledClock}
use Rattle.simulator_interface.proofs.Zipped.{All-more}
use Rattle.simulator_interface.proofs.capacities.check_sampled.Goals as goal

pub loop-capacity-preserved : goal.loop-capacity-preserved
loop-capacity-preserved c =
    let i = c.loop-capacity.capacity-index in
    let all = c.args.capacities.now in
    All-more (IsForSampledClock c.args.sample) (take i all) _ (take (i + 1) all) (take_more all i _ c.loop-capacity-test.true) c.loop-capacity.invariant
    (subst IsForClock c.scaled.ensures.scaled (c.may_be_for_clock.ensures.held.0 c.if-not-may_be_for_clock.false))

pub returns : goal.returns
returns c = record { held = subst (All (IsForSampledClock c.args.sample)) (take_all c.loop-capacity.capacity-index c.args.capacities.now c.loop-capacity-test.false) c.loop-capacity.invariant }
