use Rattle.std.proofs.Common.{arith}
use Rattle.simulator_traces.proofs.Bytes.{sum-done, sum-more}
use Rattle.simulator_traces.proofs.sums.asked_bytes.Goals as goal

pub loop-index-preserved : goal.loop-index-preserved
loop-index-preserved c =
    let sizes = c.args.sizes.now in
    let last = c.args.last in
    let i = c.loop-index.index in
    let more = sum-more sizes last i (omega (arith, c.loop-index-test.true, c.min-end.ensures)) (omega (arith, c.loop-index-test.true, c.min-end.ensures)) in
    record {
      few = omega arith;
      all = omega (arith, more, c.loop-index.invariant.all);
    }

pub returns : goal.returns
returns c =
    let sizes = c.args.sizes.now in
    let i = c.loop-index.index in
    let none = sum-done sizes c.args.last i (omega (arith, c.loop-index-test.false, c.min-end.ensures)) in
    record { bytes = omega (arith, c.loop-index.invariant.few, none, c.loop-index.invariant.all) }
