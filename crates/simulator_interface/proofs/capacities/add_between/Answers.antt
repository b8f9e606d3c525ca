use Rattle.std.proofs.Common.{◌∙◌, ◌∷◌, ◌++◌, [], map, get_or, ap}
use Rattle.simulator_interface.specs.Amounts.{amount, between}
use Rattle.simulator_interface.proofs.Amounts.{between_more}
use Rattle.simulator_interface.proofs.capacities.add_between.Goals as goal

pub loop-number-preserved : goal.loop-number-preserved
loop-number-preserved g c =
    let first = c.args.first in
    let others = c.args.round_numbers.now in
    let i = c.loop-number.number-index in
    record {
      range = c.in_ok-add_if_between.ensures.between
          ∙ ap (λ some. some ++ map (amount first.unit) (between (get_or others i 0 ∷ []) first.number c.args.last)) c.loop-number.invariant.range
          ∙ between_more c.args.capacities.now.items first.unit others i first.number c.args.last c.loop-number-test.true;
      within = c.in_ok-add_if_between.ensures.within;
    }
