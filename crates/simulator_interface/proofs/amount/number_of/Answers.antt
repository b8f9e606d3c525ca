use Rattle.std.proofs.Common.{◌≡◌, ◌∙◌, true, get_or, sym, arith}
use Rattle.std.specs.Char.{is_ascii_digit}
use Rattle.clock2q_ports.proofs.Digits.{other-at, digits-more, value-more}
use Rattle.simulator_interface.proofs.Amounts.{number_in-other}
use Rattle.simulator_interface.proofs.amount.number_of.Goals as goal

pub returns-then-not-is_ascii_digit : goal.returns-then-not-is_ascii_digit
returns-then-not-is_ascii_digit c = record {
  number = sym (number_in-other c.args.digits.now (other-at c.args.digits.now c.loop-byte.byte-index c.loop-byte-test.true (sym c.is_ascii_digit.ensures.value ∙ c.if-not-is_ascii_digit.true)));
}

pub loop-byte-preserved : goal.loop-byte-preserved
loop-byte-preserved c =
    let digit : is_ascii_digit (get_or c.args.digits.now c.loop-byte.byte-index 0) ≡ true = sym c.is_ascii_digit.ensures.value ∙ c.if-not-is_ascii_digit.false in
    record {
      digits = digits-more c.args.digits.now c.loop-byte.byte-index c.loop-byte-test.true c.loop-byte.invariant.digits digit;
      read = omega (
        arith,
        c.loop-byte.invariant.read,
        c.saturating_mul.ensures,
        c.from.ensures,
        c.saturating_add-number.ensures,
        value-more c.args.digits.now c.loop-byte.byte-index c.loop-byte-test.true digit,
      );
    }
