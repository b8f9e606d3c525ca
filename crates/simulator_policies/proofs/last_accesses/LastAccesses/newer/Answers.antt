use Rattle.std.proofs.Common.{◌≡◌, ◌⊎◌, ◌+◌, ◌*◌, ◌-◌, ◌≤◌, suc, ap, ◌∙◌, refl, inl, inr, arith}
use Rattle.std.proofs.lemmas.Bool.{cases_lt}
use Rattle.simulator_policies.specs.CountTree.{sum_in, count_of}
use Rattle.simulator_policies.specs.LastAccesses.{newest}
use Rattle.simulator_policies.proofs.LastAccesses.{behind-few, newer-sum}
use Rattle.simulator_policies.proofs.last_accesses.LastAccesses.newer.Goals as goal

pub sum_from-count-requires-clause-fits : goal.sum_from-count-requires-clause-fits
sum_from-count-requires-clause-fits g c =
    let inside : c.div_ceil-block.result ≤ c.args.self.now.counts.blocks = omega (arith, c.div_ceil-block.ensures, c.requires.counting.counts.covers) in
    elim (cases_lt (16 * c.div_ceil-block.result) c.args.at) [
      | inl before ↦ omega (
        arith,
        c.ranges.at,
        behind-few c.args.trace.now c.args.at c.args.self.now c.requires.counting c.requires.at c.div_ceil-block.result
            (16 * c.div_ceil-block.result) inside (omega (arith, before)) (omega arith) (inr refl),
      )
      | inr past ↦ omega (
        arith,
        c.ranges.at,
        behind-few c.args.trace.now c.args.at c.args.self.now c.requires.counting c.requires.at c.div_ceil-block.result
            c.args.at inside (omega arith) past (inl refl),
      )
    ]

pub loop-index-init : goal.loop-index-init
loop-index-init g c =
    let inside : c.div_ceil-block.result ≤ c.args.self.now.counts.blocks = omega (arith, c.div_ceil-block.ensures, c.requires.counting.counts.covers) in
    let none : c.args.from - c.args.from ≡ 0 = omega arith in
    let ends : (c.lesser-edge.result ≡ c.args.at) ⊎ (c.lesser-edge.result ≡ 16 * c.div_ceil-block.result) = elim (cases_lt (16 * c.div_ceil-block.result) c.args.at) [
      | inl before ↦ inr (omega (arith, before, c.ranges.at, c.saturating_mul.ensures, c.lesser-edge.ensures))
      | inr past ↦ inl (omega (arith, past, c.ranges.at, c.saturating_mul.ensures, c.lesser-edge.ensures))
    ] in
    record {
      so_far = omega (arith, c.sum_from-count.ensures, ap (sum_in (newest c.args.trace.now c.args.self.now.stamps.items) c.args.from) none);
      few = omega (
        arith,
        c.sum_from-count.ensures,
        behind-few c.args.trace.now c.args.at c.args.self.now c.requires.counting c.requires.at c.div_ceil-block.result
            c.lesser-edge.result inside (omega (arith, c.lesser-edge.ensures))
            (omega (arith, c.saturating_mul.ensures, c.lesser-edge.ensures)) ends,
      );
    }

pub loop-index-preserved : goal.loop-index-preserved
loop-index-preserved g c =
    let next : c.loop-index.index + 1 - c.args.from ≡ suc (c.loop-index.index - c.args.from) = omega arith in
    let here : c.args.from + (c.loop-index.index - c.args.from) ≡ c.loop-index.index = omega arith in
    record {
      so_far = omega (
        arith,
        c.loop-index.invariant.so_far,
        c.newest-count.ensures.newest,
        ap (sum_in (newest c.args.trace.now c.args.self.now.stamps.items) c.args.from) next,
        ap (newest c.args.trace.now c.args.self.now.stamps.items) here,
      );
      few = omega (arith, c.loop-index.invariant.few, c.newest-count.ensures.one);
    }

pub returns : goal.returns
returns g c =
    let inside : c.div_ceil-block.result ≤ c.args.self.now.counts.blocks = omega (arith, c.div_ceil-block.ensures, c.requires.counting.counts.covers) in
    let ends : (c.lesser-edge.result ≡ c.args.at) ⊎ (c.lesser-edge.result ≡ 16 * c.div_ceil-block.result) = elim (cases_lt (16 * c.div_ceil-block.result) c.args.at) [
      | inl before ↦ inr (omega (arith, before, c.ranges.at, c.saturating_mul.ensures, c.lesser-edge.ensures))
      | inr past ↦ inl (omega (arith, past, c.ranges.at, c.saturating_mul.ensures, c.lesser-edge.ensures))
    ] in
    let begun : c.args.from ≤ c.lesser-edge.result = omega (arith, c.ranges.at, c.div_ceil-block.ensures, c.saturating_mul.ensures, c.lesser-edge.ensures) in
    let all : c.loop-index.index - c.args.from ≡ c.lesser-edge.result - c.args.from = omega (arith, begun) in
    c.loop-index.invariant.so_far
    ∙ ap (λ n. sum_in (newest c.args.trace.now c.args.self.now.stamps.items) c.args.from n + sum_in
    (count_of c.args.self.now.counts) c.div_ceil-block.result (c.args.self.now.counts.blocks - c.div_ceil-block.result)) all
    ∙ newer-sum c.args.trace.now c.args.at c.args.self.now c.requires.counting c.requires.at c.args.from c.div_ceil-block.result
    c.lesser-edge.result inside begun (omega (arith, c.lesser-edge.ensures))
    (omega (arith, c.saturating_mul.ensures, c.lesser-edge.ensures)) ends
