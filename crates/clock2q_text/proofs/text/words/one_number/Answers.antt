use Rattle.clock2q_text.proofs.Calling.{one_number-more}
use Rattle.std.proofs.Common.{sym}
use Rattle.clock2q_text.specs.Text.{words_of}
use Rattle.clock2q_text.proofs.text.words.one_number.Goals as goal

pub returns-in_default-Some : goal.returns-in_default-Some
returns-in_default-Some c =
    sym (one_number-more (words_of c.args.words.now) c.in_ok-value.field-0.0 c.in_ok-value.field-0.1 c.in_default-Some.field-0-1 c.in_ok-value.ensures.first c.in_default-Some.is-1)
