use Rattle.std.proofs.Common.{rules}
use Rattle.clock2q_uses.proofs.hashers.run_on_both.Goals as goal

pub returns-clause-replies : goal.returns-clause-replies
returns-clause-replies g c = search rules
