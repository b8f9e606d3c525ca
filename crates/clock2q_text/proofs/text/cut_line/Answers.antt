use Rattle.std.proofs.Common.{◌∙◌, sym, refl}
use Rattle.clock2q_ports.proofs.Lines.{lines_of-empty}
use Rattle.clock2q_text.proofs.Cutting.{lines_of-cut}
use Rattle.clock2q_text.proofs.text.cut_line.Goals as goal

pub returns-then-is_empty-clause-lines : goal.returns-then-is_empty-clause-lines
returns-then-is_empty-clause-lines c = lines_of-empty c.args.text.now (sym c.is_empty.ensures ∙ c.if-is_empty.true)

pub returns-clause-lines : goal.returns-clause-lines
returns-clause-lines c =
    lines_of-cut c.args.text.now c.cut.result.0.now c.cut.result.1 c.unwrap_or.result _ (sym c.is_empty.ensures ∙ c.if-is_empty.false)
    c.cut.ensures.parts c.unwrap_or.ensures refl
