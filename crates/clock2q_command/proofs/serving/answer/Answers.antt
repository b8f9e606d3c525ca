use Rattle.std.proofs.Common.{sym, ap, ◌∙◌}
use Rattle.clock2q_text.specs.Parsing.{shares_value, script_value}
use Rattle.clock2q_text.specs.Text.{script_of}
use Rattle.clock2q_command.proofs.Served.{Answers-replied}
use Rattle.clock2q_text.proofs.Supplying.{supplied-spelled}
use Rattle.clock2q_command.proofs.serving.answer.Goals as goal

pub reply_to-requires : goal.reply_to-requires
reply_to-requires g c =
    supplied-spelled c.in_ok-input.input.items (script_value (shares_value c.in_ok-script.script.capacity c.in_ok-script.script.chosen) c.in_ok-script.script.commands.items)
    (ap script_of (sym c.deref.ensures.value) ∙ c.in_ok-script.ensures)

pub returns : goal.returns
returns g c =
    Answers-replied c.in_ok-input.input.items
    (script_value (shares_value c.in_ok-script.script.capacity c.in_ok-script.script.chosen) c.in_ok-script.script.commands.items)
    _ c.reply_to.result (record { given = c.in_ok-input.ensures.given; known = c.in_ok-input.ensures.bytes; at_end = c.in_ok-input.ensures.end })
    (ap script_of (sym c.deref.ensures.value) ∙ c.in_ok-script.ensures) c.reply_to.ensures
