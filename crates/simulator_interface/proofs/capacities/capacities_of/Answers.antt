use Rattle.std.proofs.Common.{◌≡◌, ◌∙◌, ◌∷◌, [], Some, None, sym, ap, subst, rules}
use Rattle.std.specs.Option.{option_map}
use Rattle.simulator_interface.specs.Amounts.{IsCapacity, amount, asked_between, ends_of, round_numbers}
use Rattle.simulator_interface.proofs.Amounts.{asked-range, split-ends}
use Rattle.simulator_interface.proofs.capacities.capacities_of.Goals as goal

pub returns-clause-asked : goal.returns-clause-asked
unfolding round_numbers
returns-clause-asked g c =
    let ends = rw c.in-Some.is at (split-ends c.args.argument.now c.split_once.result c.split_once.ensures.cases) in
    asked-range c.args.argument.now (c.in-Some.first.now, c.in-Some.last.now) c.in_ok-first.first c.in_ok-last.last ends
    c.in_ok-first.ensures.asked c.in_ok-last.ensures.asked (search rules) (search rules)
    ∙ ap Some (sym c.in_ok-range_of.ensures.range)

pub returns-in_default-clause-asked : goal.returns-in_default-clause-asked
returns-in_default-clause-asked g c =
    let word = c.args.argument.now in
    let none : ends_of word ≡ None = rw c.in_default.is at (split-ends word c.split_once.result c.split_once.ensures.cases) in
    ap (asked_between word) none ∙ ap (option_map (λ capacity. capacity ∷ [])) c.in_ok-capacity.ensures.asked ∙ ap Some (sym c.in_ok-from_slice.ensures.items)

pub range_of-requires-clause-last : goal.range_of-requires-clause-last
range_of-requires-clause-last g c =
    let same : c.in_ok-last.last.unit ≡ c.in_ok-first.first.unit = search rules in
    subst (λ unit. IsCapacity (amount unit c.in_ok-last.last.number)) same c.in_ok-last.ensures.within
