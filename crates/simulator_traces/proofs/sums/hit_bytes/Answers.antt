use Rattle.std.proofs.Common.{◌≡◌, ◌∙◌, ◌+◌, false, cond, ap, sym, get_or, arith}
use Rattle.simulator_traces.specs.Bytes.{between, capped, hit_bytes}
use Rattle.simulator_traces.proofs.Bytes.{hit-done, hit-more}
use Rattle.simulator_traces.proofs.sums.hit_bytes.Goals.{then-outcomes-index, else-outcomes-index}
use Rattle.simulator_traces.proofs.sums.hit_bytes.Goals as goal

pub loop-index-preserved : goal.loop-index-preserved
loop-index-preserved c =
    let outcomes = c.args.outcomes.now in
    let sizes = c.args.sizes.now in
    let last = c.args.last in
    let i = c.loop-index.index in
    let rest = hit_bytes (between (i + 1) last outcomes) (between (i + 1) last sizes) in
    let more = hit-more outcomes sizes last i
    (omega (arith, c.loop-index-test.true, c.min.ensures, c.min-end.ensures))
    (omega (arith, c.loop-index-test.true, c.min.ensures, c.min-end.ensures))
    (omega (arith, c.loop-index-test.true, c.min-end.ensures)) in
    let step : capped (c.if-outcomes-index.bytes + rest) ≡ capped (c.loop-index.bytes + (cond (get_or outcomes i false) (get_or sizes i 0) 0 + rest)) = elim c.if-outcomes-index.branch [
      | then-outcomes-index w ↦ rw w.if-outcomes-index.true (omega (arith, w.bytes-is, w.saturating_add-bytes.ensures))
      | else-outcomes-index w ↦ rw w.if-outcomes-index.false (omega (arith, w.bytes-is))
    ] in
    record {
      few = elim c.if-outcomes-index.branch [
        | then-outcomes-index w ↦ omega (arith, w.bytes-is, w.saturating_add-bytes.ensures)
        | else-outcomes-index w ↦ omega (arith, w.bytes-is, c.loop-index.invariant.few)
      ];
      all = step ∙ ap (λ n. capped (c.loop-index.bytes + n)) (sym more) ∙ c.loop-index.invariant.all;
    }

pub returns : goal.returns
returns c =
    let outcomes = c.args.outcomes.now in
    let sizes = c.args.sizes.now in
    let i = c.loop-index.index in
    let none = hit-done outcomes sizes c.args.last i (omega (arith, c.loop-index-test.false, c.min.ensures, c.min-end.ensures)) in
    record { bytes = omega (arith, c.loop-index.invariant.few, none, c.loop-index.invariant.all) }
