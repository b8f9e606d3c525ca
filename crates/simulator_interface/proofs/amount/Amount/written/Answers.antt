use Rattle.std.proofs.Common.{◌≡◌, ◌∙◌, false, sym, ap, arith}
use Rattle.std.specs.Option.{option_map}
use Rattle.std.proofs.lemmas.Str.Pattern.{strip_suffix_char}
use Rattle.simulator_interface.specs.declared.amount.Unit.TheVariants.{Keys}
use Rattle.simulator_interface.specs.Amounts.{amount, ends_in}
use Rattle.simulator_interface.proofs.Amounts.{amount-plain, ends-none}
use Rattle.simulator_interface.proofs.amount.Amount.written.Goals as goal

pub returns-in_err-count_of-in-None : goal.returns-in_err-count_of-in-None
returns-in_err-count_of-in-None c =
    let none : ends_in 37 c.args.word.now ≡ false =
    ends-none 37 c.args.word.now (rw c.in-None.is at
    (strip_suffix_char 37 c.args.word.now c.strip_suffix.result c.strip_suffix.ensures.cases
    (omega arith))) in
    record { amount = c.from_residual-in_err-count_of-in-None.ensures ∙ ap (option_map (amount Keys)) c.in_err-count_of-in-None.ensures.count ∙ sym (amount-plain c.args.word.now none) }

pub returns-in_ok-count_of-in-None : goal.returns-in_ok-count_of-in-None
returns-in_ok-count_of-in-None c =
    let none : ends_in 37 c.args.word.now ≡ false =
    ends-none 37 c.args.word.now (rw c.in-None.is at
    (strip_suffix_char 37 c.args.word.now c.strip_suffix.result c.strip_suffix.ensures.cases
    (omega arith))) in
    record { amount = ap (option_map (amount Keys)) c.in_ok-count_of-in-None.ensures.count ∙ sym (amount-plain c.args.word.now none) }
