use Rattle.std.proofs.Common.{rules}
use Rattle.clock2q_text.proofs.replies.push_reply.Goals as goal

pub returns-in-Value-None : goal.returns-in-Value-None
returns-in-Value-None g c = search rules
