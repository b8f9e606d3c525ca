use Rattle.std.proofs.Common.{◌+◌, Some, take, subst}
use Rattle.std.specs.List.{All}
use Rattle.std.proofs.lemmas.List.{take_all, take_more}
use Rattle.simulator_interface.specs.ChosenShares.{Fits}
use Rattle.simulator_interface.proofs.Zipped.{All-more}
use Rattle.simulator_interface.proofs.shares.ChosenShares.check.Goals as goal

pub loop-capacity-preserved : goal.loop-capacity-preserved
loop-capacity-preserved c =
    let i = c.loop-capacity.capacity-index in
    let all = c.args.capacities.now in
    All-more (Fits (Some c.args.self)) (take i all) _ (take (i + 1) all) (take_more all i _ c.loop-capacity-test.true) c.loop-capacity.invariant (c.may_fit.ensures.fit.0 c.if-not-may_fit.false)

pub returns : goal.returns
returns c = record { fit = subst (All (Fits (Some c.args.self))) (take_all c.loop-capacity.capacity-index c.args.capacities.now c.loop-capacity-test.false) c.loop-capacity.invariant }
