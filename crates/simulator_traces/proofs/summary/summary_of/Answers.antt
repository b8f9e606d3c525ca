use Rattle.std.proofs.Common.{◌≡◌, ◌∙◌, ◌+◌, ◌<◌, ℕ, List, length, take, replicate, min, get_or, ap, sym, subst, arith}
use Rattle.std.proofs.lemmas.List.{get_or_read, length-set, length-replicate, take_all}
use Rattle.simulator_traces.specs.Uses.{keys_once, ones}
use Rattle.simulator_traces.proofs.OncePerKey.{IsCounted, counted_access, none_counted, ones_are}
use Rattle.simulator_traces.proofs.summary.summary_of.Goals as goal

pub loop-index-init : goal.loop-index-init
loop-index-init g c =
    let uses : List ℕ = c.in_ok-uses.uses.items in
    let zeros : uses ≡ replicate c.key_count.result 0 = c.in_ok-uses.ensures.items_if_clones_equal (λ y e. e) in
    record {
      long = ap length zeros ∙ length-replicate {A = ℕ} c.key_count.result 0 ∙ c.key_count.ensures.keys;
      counted = none_counted uses c.key_count.result zeros;
    }

pub loop-index-preserved : goal.loop-index-preserved
loop-index-preserved g c =
    let uses : List ℕ = c.loop-index.uses.items in
    let numbers : List ℕ = c.numbers-numbers.result.now in
    let number : ℕ = get_or numbers c.loop-index.index 0 in
    let below : number < length uses = omega (arith, c.loop-index.invariant.long, c.numbers-numbers.ensures.below c.loop-index.index c.loop-index-test.true) in
    let read : c.index.result.now ≡ get_or uses number 0 = get_or_read uses number _ below c.index.ensures 0 in
    let more : c.saturating_add.result ≡ min (get_or uses number 0 + 1) 255 = c.saturating_add.ensures ∙ ap (λ n. min (n + 1) 255) read in
    record {
      long = length-set uses number c.saturating_add.result ∙ c.loop-index.invariant.long;
      counted = counted_access uses numbers c.loop-index.index c.loop-index-test.true c.loop-index.invariant.counted c.saturating_add.result more;
    }

pub returns-clause-once : goal.returns-clause-once
returns-clause-once g c =
    let uses : List ℕ = c.loop-index.uses.items in
    let numbers : List ℕ = c.numbers-numbers.result.now in
    let different : ℕ = c.args.trace.now.different in
    let all : take c.loop-index.index numbers ≡ numbers = take_all c.loop-index.index numbers c.loop-index-test.false in
    let counted : IsCounted uses numbers = subst (IsCounted uses) all c.loop-index.invariant.counted in
    let long : length uses ≡ different = c.loop-index.invariant.long in
    c.ones_in.ensures.ones ∙ ap ones c.deref.ensures.value ∙ ap ones (sym (take_all different uses (omega (arith, long))))
    ∙ ones_are uses numbers counted different (omega (arith, long)) ∙ ap (keys_once different) c.numbers-numbers.ensures.numbers
