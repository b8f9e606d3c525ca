use Rattle.std.proofs.Common.{map}
use Rattle.clock2q_text.specs.Commands.{call_of}
use Rattle.clock2q_text.specs.Parsing.{shares_value}
use Rattle.clock2q_command.proofs.Making.{RepliesTo-made}
use Rattle.clock2q_command.proofs.serving.reply_to.Goals as goal

pub returns-in-Ok : goal.returns-in-Ok
returns-in-Ok g c =
    let shares = shares_value c.args.script.capacity c.args.script.chosen in
    let calls = map call_of c.args.script.commands.items in
    RepliesTo-made (λ text. text.items) shares calls c.in-Ok.cache.machine _ c.in-Ok.ensures.0 c.in-Ok.ensures.1 c.reply_with.ensures.text c.reply_with.ensures.memory
