use Rattle.std.proofs.Common.{◌∙◌, ap, sym, subst, map, rules}
use Rattle.std.specs.NonZero.{non_zero_usize_get}
use Rattle.std.proofs.lemmas.List.{take_all}
use Rattle.simulator_replay.specs.BestShares.{AreBest}
use Rattle.simulator_interface.proofs.Zipped.{zipped-more, All-more}
use Rattle.simulator_replay.proofs.best_shares.all_best_shares_of.Goals as goal

pub loop-row-preserved : goal.loop-row-preserved
loop-row-preserved g c =
    let best = c.in_ok-best.best in
    let is = c.in_ok-best.ensures.best in
    record {
      capacities = zipped-more (λ best. non_zero_usize_get best.capacity)
          (λ row. non_zero_usize_get row.capacity) c.loop-row.all.items best c.push.new.self.items
          c.args.rows.now c.loop-row.row-index c.row-item.result
          c.loop-row-test.true c.in-Ok.ensures.items c.loop-row.invariant.capacities (is.capacity ∙ ap (λ row. non_zero_usize_get row.capacity) c.row-item.is);
      each = All-more (λ best. AreBest c.args.skipped c.args.trace.now.numbers (non_zero_usize_get best.capacity) c.args.tried.now best) c.loop-row.all.items best c.push.new.self.items
          c.in-Ok.ensures.items c.loop-row.invariant.each (subst (λ room. AreBest c.args.skipped c.args.trace.now.numbers room c.args.tried.now best) (sym is.capacity) is);
    }

pub returns : goal.returns
returns g c = record {
  best = record {
    capacities = c.loop-row.invariant.capacities ∙ ap (map (λ row. non_zero_usize_get row.capacity)) (take_all c.loop-row.row-index c.args.rows.now c.loop-row-test.false);
    each = c.loop-row.invariant.each;
  };
  devices = search rules;
}
