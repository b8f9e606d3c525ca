use Rattle.std.proofs.Common.{◌≡◌, ℕ, true, [], Some, sym, ap, ◌∙◌, codes, arith, rules}
use Rattle.std.specs.Str.{bytes_eq}
use Rattle.clock2q_machine.specs.Shares.{usual_shares}
use Rattle.clock2q_text.specs.Cut.{words_after}
use Rattle.clock2q_text.specs.Parsing.{chosen_value}
use Rattle.clock2q_text.specs.Text.{words_of, shares_in}
use Rattle.clock2q_text.proofs.Calling.{words_of-cut, words_are_some}
use Rattle.clock2q_text.proofs.Sharing.{Chosen, shares_in-other, shares_in-new, shares-bad, shares-zero, shares-chosen}
use Rattle.clock2q_text.proofs.text.shares_of.Goals as goal

pub returns-then-ne : goal.returns-then-ne
returns-then-ne c =
    let e = words_of-cut c.args.line.now c.cut.result.0.now c.cut.result.1 c.cut.ensures.parts in
    rw e (search (rules, shares_in-other))

pub returns-in_err-arguments : goal.returns-in_err-arguments
returns-in_err-arguments c =
    let new : bytes_eq c.cut.result.0.now (codes "new") ≡ true = search rules in
    let from : shares_in (words_of c.args.line.now) ≡ Chosen (words_after c.cut.result.1) =
    ap shares_in (words_of-cut c.args.line.now c.cut.result.0.now c.cut.result.1 c.cut.ensures.parts) ∙ shares_in-new c.cut.result.0.now (words_after c.cut.result.1) new in
    rw c.from_residual.ensures (sym (from ∙ ap (λ o. Chosen (words_after o)) c.in_err-arguments.was))

pub returns-in_err-capacity : goal.returns-in_err-capacity
returns-in_err-capacity c =
    let new : bytes_eq c.cut.result.0.now (codes "new") ≡ true = search rules in
    let from : shares_in (words_of c.args.line.now) ≡ Chosen (words_after c.cut.result.1) =
    ap shares_in (words_of-cut c.args.line.now c.cut.result.0.now c.cut.result.1 c.cut.ensures.parts) ∙ shares_in-new c.cut.result.0.now (words_after c.cut.result.1) new in
    rw c.from_residual-in_err-capacity.ensures
    (sym (from ∙ ap (λ o. Chosen (words_after o)) c.in_ok-arguments.was ∙ shares-bad (words_of c.in_ok-arguments.field-0.now) (words_are_some c.in_ok-arguments.field-0.now) (sym c.in_err-capacity.ensures.first)))

pub returns-in_err-capacity-2 : goal.returns-in_err-capacity-2
returns-in_err-capacity-2 c =
    let new : bytes_eq c.cut.result.0.now (codes "new") ≡ true = search rules in
    let from : shares_in (words_of c.args.line.now) ≡ Chosen (words_after c.cut.result.1) =
    ap shares_in (words_of-cut c.args.line.now c.cut.result.0.now c.cut.result.1 c.cut.ensures.parts) ∙ shares_in-new c.cut.result.0.now (words_after c.cut.result.1) new in
    rw c.from_residual-in_err-capacity-2.ensures (sym (from ∙ ap (λ o. Chosen (words_after o)) c.in_ok-arguments.was
    ∙ shares-zero (words_of c.in_ok-arguments.field-0.now) c.in_ok-capacity.capacity (words_after c.in_ok-capacity.others) (sym c.in_ok-capacity.ensures.first) c.in_err-capacity-2.ensures))

pub returns-in_default : goal.returns-in_default
returns-in_default c =
    let new : bytes_eq c.cut.result.0.now (codes "new") ≡ true = search rules in
    let from : shares_in (words_of c.args.line.now) ≡ Chosen (words_after c.cut.result.1) =
    ap shares_in (words_of-cut c.args.line.now c.cut.result.0.now c.cut.result.1 c.cut.ensures.parts) ∙ shares_in-new c.cut.result.0.now (words_after c.cut.result.1) new in
    ap (λ k. Some (usual_shares k)) c.in_ok-capacity-2.ensures
    ∙ sym (from ∙ ap (λ o. Chosen (words_after o)) c.in_ok-arguments.was
    ∙ shares-chosen (words_of c.in_ok-arguments.field-0.now) c.in_ok-capacity.capacity [] (sym c.in_ok-capacity.ensures.first ∙ ap (λ o. Some (c.in_ok-capacity.capacity, words_after o)) c.in_default.is)
    (λ z. omega (arith, z, c.in_ok-capacity-2.capacity.ok, c.in_ok-capacity-2.ensures)))

pub returns-in_err-chosen : goal.returns-in_err-chosen
returns-in_err-chosen c =
    let new : bytes_eq c.cut.result.0.now (codes "new") ≡ true = search rules in
    let from : shares_in (words_of c.args.line.now) ≡ Chosen (words_after c.cut.result.1) =
    ap shares_in (words_of-cut c.args.line.now c.cut.result.0.now c.cut.result.1 c.cut.ensures.parts) ∙ shares_in-new c.cut.result.0.now (words_after c.cut.result.1) new in
    rw c.from_residual-in_err-chosen.ensures (sym (from ∙ ap (λ o. Chosen (words_after o)) c.in_ok-arguments.was
    ∙ shares-chosen (words_of c.in_ok-arguments.field-0.now) c.in_ok-capacity.capacity (words_of c.in-Some.words.now)
    (sym c.in_ok-capacity.ensures.first ∙ ap (λ o. Some (c.in_ok-capacity.capacity, words_after o)) c.in-Some.is)
    (λ z. omega (arith, z, c.in_ok-capacity-2.capacity.ok, c.in_ok-capacity-2.ensures))
    ∙ sym (c.in_err-chosen.ensures c.in_ok-capacity.capacity)))

pub returns : goal.returns
returns c =
    let new : bytes_eq c.cut.result.0.now (codes "new") ≡ true = search rules in
    let from : shares_in (words_of c.args.line.now) ≡ Chosen (words_after c.cut.result.1) =
    ap shares_in (words_of-cut c.args.line.now c.cut.result.0.now c.cut.result.1 c.cut.ensures.parts) ∙ shares_in-new c.cut.result.0.now (words_after c.cut.result.1) new in
    ap (λ k. Some (chosen_value k c.in_ok-chosen.chosen)) c.in_ok-capacity-2.ensures
    ∙ sym (from ∙ ap (λ o. Chosen (words_after o)) c.in_ok-arguments.was
    ∙ shares-chosen (words_of c.in_ok-arguments.field-0.now) c.in_ok-capacity.capacity (words_of c.in-Some.words.now)
    (sym c.in_ok-capacity.ensures.first ∙ ap (λ o. Some (c.in_ok-capacity.capacity, words_after o)) c.in-Some.is)
    (λ z. omega (arith, z, c.in_ok-capacity-2.capacity.ok, c.in_ok-capacity-2.ensures))
    ∙ sym (c.in_ok-chosen.ensures c.in_ok-capacity.capacity))
