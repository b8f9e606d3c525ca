use Rattle.std.proofs.Common.{subst}
use Rattle.std.specs.NonZero.{non_zero_usize_get}
use Rattle.simulator_replay.specs.Rows.{IsReplay}
use Rattle.simulator_replay.proofs.row.replay_with.Goals as goal

pub returns-clause-replay : goal.returns-clause-replay
returns-clause-replay g c =
    subst (λ ns. IsReplay c.args.shares ns (non_zero_usize_get c.args.capacity) c.args.policy c.in_ok-outcomes.outcomes.items) c.numbers-numbers.ensures.numbers c.in_ok-outcomes.ensures.outcomes
