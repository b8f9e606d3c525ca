use Rattle.std.proofs.Common.{◌≡◌, ◌∙◌, ◌+◌, ◌-◌, not, None, length, take, drop, get_or, sym, ap, subst, arith, rules, true}
use Rattle.std.specs.Bool.{then_some}
use Rattle.std.specs.Char.{is_ascii_digit}
use Rattle.std.specs.Option.{option_map}
use Rattle.std.specs.Str.{all_ascii_digits}
use Rattle.std.specs.Str.Parse.{digits_value}
use Rattle.std.proofs.lemmas.List.{take_all, length-drop}
use Rattle.clock2q_ports.proofs.Digits.{digits-more, value-more}
use Rattle.clock2q_text.proofs.Spaced.{first-other, first-large, first-spaced, first-whole, read_as}
use Rattle.clock2q_text.proofs.text.words.number.Goals as goal

pub returns-then-byte-eq32-clause-first : goal.returns-then-byte-eq32-clause-first
returns-then-byte-eq32-clause-first c =
    ap (option_map read_as) c.then_some.ensures
    ∙ first-spaced c.args.words.now c.loop-at.at c.loop-at.value _ c.loop-at-test.true c.loop-at.invariant.digits c.loop-at.invariant.read c.loop-at.invariant.fits c.if-byte-eq32.true
    (take_all (length c.args.words.now - (c.loop-at.at + 1)) (drop (c.loop-at.at + 1) c.args.words.now) (omega (arith, length-drop (c.loop-at.at + 1) c.args.words.now)))

pub returns-then-not-is_ascii_digit-clause-first : goal.returns-then-not-is_ascii_digit-clause-first
returns-then-not-is_ascii_digit-clause-first c =
    sym (first-other c.args.words.now c.loop-at.at c.loop-at-test.true c.loop-at.invariant.digits c.if-byte-eq32.false (sym c.is_ascii_digit.ensures.value ∙ c.if-not-is_ascii_digit.true))

pub returns-in_err-checked_mul-clause-first : goal.returns-in_err-checked_mul-clause-first
returns-in_err-checked_mul-clause-first c =
    let digit : is_ascii_digit (get_or c.args.words.now c.loop-at.at 0) ≡ true = sym c.is_ascii_digit.ensures.value ∙ c.if-not-is_ascii_digit.false in
    ap (option_map read_as) c.from_residual.ensures
    ∙ sym (first-large c.args.words.now c.loop-at.at c.loop-at-test.true c.loop-at.invariant.digits digit (omega (arith, c.loop-at.invariant.read, c.in_err-checked_mul.ensures)))

pub returns-in_err-value-clause-first : goal.returns-in_err-value-clause-first
returns-in_err-value-clause-first c =
    let digit : is_ascii_digit (get_or c.args.words.now c.loop-at.at 0) ≡ true = sym c.is_ascii_digit.ensures.value ∙ c.if-not-is_ascii_digit.false in
    ap (option_map read_as) c.from_residual-in_err-value.ensures
    ∙ sym (first-large c.args.words.now c.loop-at.at c.loop-at-test.true c.loop-at.invariant.digits digit
    (omega (arith, c.loop-at.invariant.read, c.in_ok-checked_mul.ensures.1, c.from.ensures, c.in_err-value.ensures)))

pub loop-at-preserved : goal.loop-at-preserved
loop-at-preserved c =
    let digit : is_ascii_digit (get_or c.args.words.now c.loop-at.at 0) ≡ true = sym c.is_ascii_digit.ensures.value ∙ c.if-not-is_ascii_digit.false in
    record {
      digits = digits-more c.args.words.now c.loop-at.at c.loop-at-test.true c.loop-at.invariant.digits digit;
      read = omega (arith, c.loop-at.invariant.read, c.in_ok-checked_mul.ensures.1, c.from.ensures, c.in_ok-value.ensures.1, value-more c.args.words.now c.loop-at.at c.loop-at-test.true digit);
      fits = omega (arith, c.in_ok-value.ensures.0, c.in_ok-value.ensures.1);
    }

pub returns-clause-first : goal.returns-clause-first
returns-clause-first c =
    let all : take c.loop-at.at c.args.words.now ≡ c.args.words.now = take_all c.loop-at.at c.args.words.now (search rules) in
    ap (option_map read_as) (c.then_some-2.ensures ∙ ap (λ b. then_some (not b) (c.loop-at.value, None)) c.is_empty.ensures)
    ∙ first-whole c.args.words.now c.loop-at.value (subst (λ word. all_ascii_digits word ≡ true) all c.loop-at.invariant.digits)
    (c.loop-at.invariant.read ∙ ap (digits_value 10) all) c.loop-at.invariant.fits
