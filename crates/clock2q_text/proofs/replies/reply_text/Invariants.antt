use Rattle.std.proofs.Common.{◌≡◌, map, take}
use Rattle.clock2q_text.specs.Commands.{answer_of}
use Rattle.clock2q_text.specs.Text.{output_of}
use Rattle.clock2q_text.proofs.replies.reply_text.Given as goal

abbrev pub invariant-loop-reply : goal.invariant-loop-reply
invariant-loop-reply g l = l.text.items ≡ output_of (map answer_of (take l.reply-index l.replies))
