use Rattle.std.specs.NonZero.{non_zero_usize_get}
use Rattle.simulator_replay.proofs.TriedShares.{clock2q_are}
use Rattle.simulator_replay.proofs.best_shares.clock2q_hits.Goals as goal

pub returns-clause-hits : goal.returns-clause-hits
returns-clause-hits g c =
    clock2q_are c.args.skipped c.args.trace.now.numbers (non_zero_usize_get c.args.capacity) c.args.shares c.in_ok-counted.counted.policy c.in_ok-counted.counted.hits
    c.in_ok-counted.ensures.policy c.in_ok-counted.ensures.hits
