use Rattle.std.proofs.Common.{◌∙◌, ap, length}
use Rattle.std.specs.NonZero.{non_zero_usize_get}
use Rattle.simulator_interface.specs.declared.policy.Policy.TheVariants.{Sieve, S3Fifo, Arc, TwoQ, Lirs, Lru2, WTinyLfu}
use Rattle.simulator_replay.proofs.Replaying.{replay_is, clock2q_is, least_recent_is, optimal_is, first_in_is, clock_is}
use Rattle.simulator_replay.proofs.policies.policy_outcomes.Goals.{in-Clock2Q+in_ok-outcomes-in-Clock2Q, in-Sieve+in_ok-outcomes-in-Sieve, in-S3Fifo+in_ok-outcomes-in-S3Fifo}
use Rattle.simulator_replay.proofs.policies.policy_outcomes.Goals.{in-LeastRecentlyUsed+in_ok-outcomes-in-LeastRecentlyUsed, in-Optimal+in_ok-outcomes-in-Optimal}
use Rattle.simulator_replay.proofs.policies.policy_outcomes.Goals.{in-FirstInFirstOut+in_ok-outcomes-in-FirstInFirstOut, in-Clock+in_ok-outcomes-in-Clock, in-Arc+in_ok-outcomes-in-Arc}
use Rattle.simulator_replay.proofs.policies.policy_outcomes.Goals.{in-TwoQ+in_ok-outcomes-in-TwoQ, in-Lirs+in_ok-outcomes-in-Lirs, in-Lru2+in_ok-outcomes-in-Lru2}
use Rattle.simulator_replay.proofs.policies.policy_outcomes.Goals.{in-WTinyLfu+in_ok-outcomes-in-WTinyLfu}
use Rattle.simulator_replay.proofs.policies.policy_outcomes.Goals as goal

-- each policy's call returned what its definition says, or as many outcomes as there are accesses
pub returns-clause-outcomes : goal.returns-clause-outcomes
returns-clause-outcomes g c =
    let numbers = c.args.numbers.now in
    let shares = c.args.shares in
    let room = non_zero_usize_get c.args.capacity in
    let seen = c.match-policy.outcomes.items in
    elim c.match-policy.branch [
      | in-Clock2Q+in_ok-outcomes-in-Clock2Q w ↦
          clock2q_is shares numbers room c.args.policy seen w.in-Clock2Q.is (ap (λ outcomes. outcomes.items) w.outcomes-is ∙ w.in_ok-outcomes-in-Clock2Q.ensures.outcomes)
      | in-Sieve+in_ok-outcomes-in-Sieve w ↦
          replay_is shares numbers room c.args.policy seen Sieve w.in-Sieve.is (ap (λ outcomes. length outcomes.items) w.outcomes-is ∙ w.in_ok-outcomes-in-Sieve.ensures.long) tt
      | in-S3Fifo+in_ok-outcomes-in-S3Fifo w ↦
          replay_is shares numbers room c.args.policy seen S3Fifo w.in-S3Fifo.is (ap (λ outcomes. length outcomes.items) w.outcomes-is ∙ w.in_ok-outcomes-in-S3Fifo.ensures.long) tt
      | in-LeastRecentlyUsed+in_ok-outcomes-in-LeastRecentlyUsed w ↦
          least_recent_is shares numbers room c.args.policy seen w.in-LeastRecentlyUsed.is (ap (λ outcomes. outcomes.items) w.outcomes-is ∙ w.in_ok-outcomes-in-LeastRecentlyUsed.ensures.outcomes)
      | in-Optimal+in_ok-outcomes-in-Optimal w ↦
          optimal_is shares numbers room c.args.policy seen w.in-Optimal.is (ap (λ outcomes. outcomes.items) w.outcomes-is ∙ w.in_ok-outcomes-in-Optimal.ensures.outcomes)
      | in-FirstInFirstOut+in_ok-outcomes-in-FirstInFirstOut w ↦
          first_in_is shares numbers room c.args.policy seen w.in-FirstInFirstOut.is (ap (λ outcomes. outcomes.items) w.outcomes-is ∙ w.in_ok-outcomes-in-FirstInFirstOut.ensures.outcomes)
      | in-Clock+in_ok-outcomes-in-Clock w ↦
          clock_is shares numbers room c.args.policy seen w.in-Clock.is (ap (λ outcomes. outcomes.items) w.outcomes-is ∙ w.in_ok-outcomes-in-Clock.ensures.outcomes)
      | in-Arc+in_ok-outcomes-in-Arc w ↦
          replay_is shares numbers room c.args.policy seen Arc w.in-Arc.is (ap (λ outcomes. length outcomes.items) w.outcomes-is ∙ w.in_ok-outcomes-in-Arc.ensures.long) tt
      | in-TwoQ+in_ok-outcomes-in-TwoQ w ↦
          replay_is shares numbers room c.args.policy seen TwoQ w.in-TwoQ.is (ap (λ outcomes. length outcomes.items) w.outcomes-is ∙ w.in_ok-outcomes-in-TwoQ.ensures.long) tt
      | in-Lirs+in_ok-outcomes-in-Lirs w ↦
          replay_is shares numbers room c.args.policy seen Lirs w.in-Lirs.is (ap (λ outcomes. length outcomes.items) w.outcomes-is ∙ w.in_ok-outcomes-in-Lirs.ensures.long) tt
      | in-Lru2+in_ok-outcomes-in-Lru2 w ↦
          replay_is shares numbers room c.args.policy seen Lru2 w.in-Lru2.is (ap (λ outcomes. length outcomes.items) w.outcomes-is ∙ w.in_ok-outcomes-in-Lru2.ensures.long) tt
      | in-WTinyLfu+in_ok-outcomes-in-WTinyLfu w ↦
          replay_is shares numbers room c.args.policy seen WTinyLfu w.in-WTinyLfu.is (ap (λ outcomes. length outcomes.items) w.outcomes-is ∙ w.in_ok-outcomes-in-WTinyLfu.ensures.long) tt
    ]
