-- The hits so far are those of the replies so far.
use Rattle.std.proofs.Common.{◌≡◌, take}
use Rattle.std.specs.List.{count_by}
use Rattle.clock2q_text.specs.Commands.{answer_of}
use Rattle.clock2q_uses.specs.Replay.{is_hit}
use Rattle.clock2q_uses.proofs.replay.hit_count.Given as goal

abbrev pub invariant-loop-reply : goal.invariant-loop-reply
invariant-loop-reply l = l.hits ≡ count_by (λ reply. is_hit (answer_of reply)) (take l.reply-index l.replies)
