use Rattle.std.proofs.Common.{rules}
use Rattle.clock2q_uses.proofs.checksums.is_unchanged.Goals as goal

pub returns-clause-unchanged : goal.returns-clause-unchanged
returns-clause-unchanged g c = λ h value computes. rw (← c.get_recorded.ensures.value h value computes) (search rules)
