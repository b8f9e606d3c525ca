use Rattle.std.proofs.Common.{◌≡◌, ◌+◌, ◌-◌, ◌≤◌, suc, ap, ◌∙◌, inl, inr, arith, get_or, length}
use Rattle.std.proofs.lemmas.Bool.{cases_lt}
use Rattle.std.proofs.lemmas.List.{get_or_past}
use Rattle.simulator_policies.proofs.Sums.{sum_none, sum_split}
use Rattle.simulator_policies.proofs.Curve.{sum_to}
use Rattle.simulator_policies.proofs.lru_curve.sum_below.Goals as goal

pub overflow_add-sum : goal.overflow_add-sum
overflow_add-sum c =
    let here : 0 + c.loop-index.index ≡ c.loop-index.index = omega arith in
    omega (arith, c.loop-index.invariant, ap (λ i. get_or c.args.counts.now i 0) here, c.requires.fits (suc c.loop-index.index))

pub returns : goal.returns
returns c = elim (cases_lt c.args.count (length c.args.counts.now)) [
  | inl short ↦
      let all : c.loop-index.index ≡ c.args.count = omega (arith, short, c.lesser-index-end.ensures) in
      c.loop-index.invariant ∙ ap (sum_to c.args.counts.now) all
  | inr long ↦
      let all : c.args.count ≡ c.loop-index.index + (c.args.count - c.loop-index.index) = omega (arith, long, c.lesser-index-end.ensures) in
      let past : length c.args.counts.now ≤ c.loop-index.index = omega (arith, long, c.lesser-index-end.ensures) in
      omega (
        arith,
        c.loop-index.invariant,
        ap (sum_to c.args.counts.now) all,
        sum_split (λ n. get_or c.args.counts.now n 0) 0 c.loop-index.index (c.args.count - c.loop-index.index),
        sum_none (λ n. get_or c.args.counts.now n 0) (0 + c.loop-index.index) (c.args.count - c.loop-index.index) (λ i from to. get_or_past c.args.counts.now i 0 (omega (arith, past, from))),
      )
]
