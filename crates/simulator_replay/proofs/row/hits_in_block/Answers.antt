use Rattle.std.proofs.Common.{◌≡◌, ◌+◌, false, cond, arith, get_or}
use Rattle.simulator_policies.proofs.Outcomes.{one_counted}
use Rattle.simulator_replay.proofs.row.hits_in_block.Goals.{then-outcomes-index, else-outcomes-index}
use Rattle.simulator_replay.proofs.row.hits_in_block.Goals as goal

pub loop-index-preserved : goal.loop-index-preserved
loop-index-preserved c =
    let next = one_counted c.args.outcomes.now c.loop-index.index false (omega arith) in
    let more : c.if-outcomes-index.hits ≡ c.loop-index.hits + cond (get_or c.args.outcomes.now c.loop-index.index false) 1 0 = elim c.if-outcomes-index.branch [
      | then-outcomes-index w ↦ rw w.if-outcomes-index.true (omega arith)
      | else-outcomes-index w ↦ rw w.if-outcomes-index.false (omega arith)
    ] in
    record {
      few = elim c.if-outcomes-index.branch [ then-outcomes-index w ↦ omega (arith, c.loop-index.invariant.few) | else-outcomes-index w ↦ omega (arith, c.loop-index.invariant.few) ];
      counted = omega (arith, next, more, c.loop-index.invariant.counted);
    }
