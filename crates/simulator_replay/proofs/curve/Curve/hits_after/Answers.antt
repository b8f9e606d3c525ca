use Rattle.std.proofs.Common.{◌≡◌, ◌∙◌, ap, map, take}
use Rattle.std.specs.NonZero.{non_zero_usize_get}
use Rattle.std.proofs.lemmas.List.{take_min}
use Rattle.simulator_replay.specs.Curves.{curve_hits}
use Rattle.simulator_replay.proofs.Curves.{hits_after_are}
use Rattle.simulator_replay.proofs.curve.Curve.hits_after.Goals as goal

pub returns-clause-hits : goal.returns-clause-hits
returns-clause-hits g c =
    let hits = curve_hits c.args.self in
    let numbers = c.args.trace.now.numbers in
    let seen = c.numbers-numbers.result.now in
    let skipped = c.args.skipped in
    let same : seen ≡ numbers = c.numbers-numbers.ensures.numbers in
    let first : take c.min.result seen ≡ take skipped numbers = ap (λ n. take n seen) c.min.ensures ∙ take_min skipped seen ∙ ap (take skipped) same in
    hits_after_are hits skipped numbers c.args.capacities.now c.deref.result.now c.deref-2.result.now c.in_ok-minus_each.field-0.items
    (c.deref.ensures.value ∙ c.in_ok-all.ensures.hits ∙ ap (λ ns. map (λ capacity. hits (non_zero_usize_get capacity) ns) c.args.capacities.now) same)
    (c.deref-2.ensures.value ∙ c.in_ok-before.ensures.hits ∙ ap (λ ns. map (λ capacity. hits (non_zero_usize_get capacity) ns) c.args.capacities.now) first)
    c.in_ok-minus_each.ensures.long c.in_ok-minus_each.ensures.each
