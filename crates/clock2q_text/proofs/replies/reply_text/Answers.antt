use Rattle.std.proofs.Common.{◌++◌, codes, get_or, None, sym, ap, ◌∙◌}
use Rattle.clock2q_text.specs.Commands.{answer_of}
use Rattle.clock2q_text.specs.Text.{answer_line}
use Rattle.clock2q_text.specs.declared.commands.Reply.TheVariants.{Value}
use Rattle.clock2q_text.proofs.Answering.{output_of-none, output_of-more}
use Rattle.clock2q_text.proofs.replies.reply_text.Goals as goal

pub loop-reply-init : goal.loop-reply-init
loop-reply-init g c = c.in_ok-extend_from_slice.ensures.items ∙ ap (λ xs. xs ++ codes "ok\n") c.new-text.ensures.items ∙ sym output_of-none

pub loop-reply-preserved : goal.loop-reply-preserved
loop-reply-preserved g c =
    c.in_ok-push_reply.ensures
    ∙ ap (λ xs. xs ++ answer_line (answer_of (get_or c.args.replies.now c.loop-reply.reply-index (Value None)))) c.loop-reply.invariant
    ∙ sym (output_of-more answer_of c.args.replies.now c.loop-reply.reply-index (Value None) c.loop-reply-test.true)
