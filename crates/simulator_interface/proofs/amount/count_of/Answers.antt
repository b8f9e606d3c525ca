use Rattle.std.proofs.Common.{◌≡◌, ◌∙◌, false, sym, ap, arith}
use Rattle.std.proofs.lemmas.Str.Pattern.{strip_suffix_char}
use Rattle.simulator_interface.specs.Amounts.{ends_in, number_in}
use Rattle.simulator_interface.proofs.Amounts.{count-plain, ends-none}
use Rattle.simulator_interface.proofs.amount.count_of.Goals as goal

pub returns : goal.returns
returns c =
    let word = c.args.word.now in
    let thousands : ends_in 107 word ≡ false = ends-none 107 word (rw c.in_default.is at (strip_suffix_char 107 word c.strip_suffix.result c.strip_suffix.ensures.cases (omega arith))) in
    let millions : ends_in 77 word ≡ false = ends-none 77 word (rw c.in_default-strip_suffix.is at (strip_suffix_char 77 word c.strip_suffix-2.result c.strip_suffix-2.ensures.cases (omega arith))) in
    record { count = c.number_of-2.ensures.number ∙ ap number_in c.as_bytes-2.ensures.value ∙ sym (count-plain word thousands millions) }
