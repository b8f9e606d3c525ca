use Rattle.std.proofs.Common.{◌≡◌, ◌∙◌, false, cond, sym, ap, arith}
use Rattle.std.proofs.lemmas.Str.Pattern.{strip_suffix_char}
use Rattle.simulator_interface.specs.Amounts.{ends_in, front, millionths_in}
use Rattle.simulator_interface.specs.Sample.{part_in}
use Rattle.simulator_interface.proofs.Amounts.{ends-none}
use Rattle.simulator_interface.proofs.sample.rate_of.Goals as goal

pub returns-in-None : goal.returns-in-None
returns-in-None c =
    let word = c.args.word.now in
    let none : ends_in 37 word ≡ false = ends-none 37 word (rw c.in-None.is at (strip_suffix_char 37 word c.strip_suffix.result c.strip_suffix.ensures.cases (omega arith))) in
    record { rate = c.part_of.ensures.part ∙ ap part_in c.as_bytes.ensures.value ∙ sym (ap (λ b. cond b (millionths_in (front word)) (part_in word)) none) }
