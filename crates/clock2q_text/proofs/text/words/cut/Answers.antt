use Rattle.std.proofs.Common.{sym, eqb}
use Rattle.clock2q_text.proofs.Cutting.{slice_split_cut, slice_split_whole}
use Rattle.clock2q_text.proofs.text.words.cut.Goals as goal

pub returns-in-Some-clause-parts : goal.returns-in-Some-clause-parts
returns-in-Some-clause-parts c =
    slice_split_cut (λ b. eqb b c.args.separator) c.args.bytes.now c.split_at.result.0.now c.split_at.result.1.now c.in-Some.at
    (sym c.in-Some.ensures) c.split_at.ensures.front c.split_at.ensures.back

pub returns-in-None-clause-parts : goal.returns-in-None-clause-parts
returns-in-None-clause-parts c = slice_split_whole (λ b. eqb b c.args.separator) c.args.bytes.now (sym c.in-None.ensures)
