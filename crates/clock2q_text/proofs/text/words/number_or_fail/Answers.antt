use Rattle.std.proofs.Common.{◌≡◌, ◌∙◌, Some, sym, ap, false, true, codes}
use Rattle.std.specs.Option.{option_map}
use Rattle.std.specs.Str.{bytes_eq}
use Rattle.clock2q_text.specs.Text.{words_of}
use Rattle.clock2q_text.proofs.Calling.{tried-fail, tried-number}
use Rattle.clock2q_text.proofs.text.words.number_or_fail.Goals as goal

pub returns-then-eq : goal.returns-then-eq
returns-then-eq c =
    let fail : bytes_eq c.in_ok-word.word.now (codes "fail") ≡ true = ap (bytes_eq c.in_ok-word.word.now) (sym c.as_slice.ensures) ∙ sym c.if-eq.ensures in
    tried-fail (words_of c.args.words.now) c.in_ok-first.first c.in_ok-word.word.now (rw c.in_ok-word.was at c.in_ok-first.ensures.first) fail

pub returns-in_err-second : goal.returns-in_err-second
returns-in_err-second c =
    let other : bytes_eq c.in_ok-word.word.now (codes "fail") ≡ false = ap (bytes_eq c.in_ok-word.word.now) (sym c.as_slice.ensures) ∙ sym c.if-eq.ensures in
    c.from_residual-in_err-second.ensures
    ∙ sym (tried-number (words_of c.args.words.now) c.in_ok-first.first c.in_ok-word.word.now (rw c.in_ok-word.was at c.in_ok-first.ensures.first) other
    ∙ ap (option_map (λ m. (c.in_ok-first.first, Some m))) (sym c.in_err-second.ensures))

pub returns : goal.returns
returns c =
    let other : bytes_eq c.in_ok-word.word.now (codes "fail") ≡ false = ap (bytes_eq c.in_ok-word.word.now) (sym c.as_slice.ensures) ∙ sym c.if-eq.ensures in
    sym (tried-number (words_of c.args.words.now) c.in_ok-first.first c.in_ok-word.word.now (rw c.in_ok-word.was at c.in_ok-first.ensures.first) other
    ∙ ap (option_map (λ m. (c.in_ok-first.first, Some m))) (sym c.in_ok-second.ensures))
