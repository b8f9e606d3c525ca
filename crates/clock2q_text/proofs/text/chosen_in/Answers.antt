use Rattle.std.proofs.Common.{◌≡◌, ℕ, [], ◌∷◌, List, Some, None, sym, ap, ◌∙◌, rules}
use Rattle.std.specs.Option.{option_map}
use Rattle.clock2q_machine.specs.Policies.{shares_with}
use Rattle.clock2q_text.specs.Cut.{words_after, number_first}
use Rattle.clock2q_text.specs.Text.{words_of}
use Rattle.clock2q_text.proofs.Calling.{words_are_some}
use Rattle.clock2q_text.proofs.Sharing.{after-bad, after-one, after-bad-second, after-two, after-three}
use Rattle.clock2q_text.proofs.text.chosen_in.Goals as goal

pub returns-in_err-small : goal.returns-in_err-small
returns-in_err-small c = λ capacity.
    rw c.from_residual.ensures (sym (after-bad capacity (words_of c.args.words.now) (words_are_some c.args.words.now) (sym c.in_err-small.ensures.first)))

pub returns-in_err-one_number-in-Some : goal.returns-in_err-one_number-in-Some
returns-in_err-one_number-in-Some c = λ capacity.
    let first : number_first (words_of c.args.words.now) ≡ Some (c.in_ok-small.small, words_of c.in_ok-others.field-0.now) =
    sym c.in_ok-small.ensures.first ∙ ap (λ o. Some (c.in_ok-small.small, words_after o)) c.in_ok-others.was in
    let second : number_first (words_of c.in_ok-others.field-0.now) ≡ Some (c.in_ok-window.window, words_of c.in-Some.word.now) =
    sym c.in_ok-window.ensures.first ∙ ap (λ o. Some (c.in_ok-window.window, words_after o)) c.in-Some.is in
    rw c.from_residual-in_err-one_number-in-Some.ensures
    (sym (after-three capacity (words_of c.args.words.now) c.in_ok-small.small (words_of c.in_ok-others.field-0.now) first c.in_ok-window.window (words_of c.in-Some.word.now) second
    (words_are_some c.in-Some.word.now) ∙ ap (option_map (shares_with capacity c.in_ok-small.small c.in_ok-window.window)) (sym c.in_err-one_number-in-Some.ensures)))
