use Rattle.std.proofs.Common.{◌∷◌, sym, ap, ◌∙◌}
use Rattle.clock2q_text.specs.Cut.{words_after}
use Rattle.clock2q_text.specs.Text.{words_of, call_in}
use Rattle.clock2q_text.proofs.Calling.{words_of-cut, words_are_some, call_in-alone, call_in-numbers, call_in-list}
use Rattle.clock2q_text.proofs.text.names.command_of.Goals as goal

pub returns-in_default : goal.returns-in_default
returns-in_default g c =
    ap call_in (words_of-cut c.args.line.now c.cut.result.0.now c.cut.result.1 c.cut.ensures.parts ∙ ap (λ o. c.cut.result.0.now ∷ words_after o) c.in_default.is)
    ∙ call_in-alone c.cut.result.0.now ∙ sym c.in_ok-named_alone.ensures

pub returns-in_err-named_alone : goal.returns-in_err-named_alone
returns-in_err-named_alone g c =
    rw c.from_residual.ensures (ap call_in (words_of-cut c.args.line.now c.cut.result.0.now c.cut.result.1 c.cut.ensures.parts ∙ ap (λ o. c.cut.result.0.now ∷ words_after o) c.in_default.is)
    ∙ call_in-alone c.cut.result.0.now ∙ sym c.in_err-named_alone.ensures)

pub returns-in-Some-named_with_numbers : goal.returns-in-Some-named_with_numbers
returns-in-Some-named_with_numbers g c =
    ap call_in (words_of-cut c.args.line.now c.cut.result.0.now c.cut.result.1 c.cut.ensures.parts ∙ ap (λ o. c.cut.result.0.now ∷ words_after o) c.in-Some.is)
    ∙ call_in-numbers c.cut.result.0.now (words_of c.in-Some.words.now) _ (sym c.in-Some-named_with_numbers.ensures)

pub returns-in-None : goal.returns-in-None
returns-in-None g c =
    rw (ap call_in (words_of-cut c.args.line.now c.cut.result.0.now c.cut.result.1 c.cut.ensures.parts ∙ ap (λ o. c.cut.result.0.now ∷ words_after o) c.in-Some.is)
    ∙ call_in-list c.cut.result.0.now (words_of c.in-Some.words.now) (words_are_some c.in-Some.words.now) (sym c.in-None.ensures)) c.named_with_list.ensures
