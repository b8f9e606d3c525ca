use Rattle.std.proofs.Common.{◌∙◌, ap, sym, length}
use Rattle.simulator_interface.specs.PolicyNames.{has_bytes}
use Rattle.simulator_interface.specs.declared.policy.Policy.TheVariants.{Clock, Sieve, S3Fifo, Clock2Q}
use Rattle.simulator_replay.proofs.ByteRows.{byte_replay_is, least_recent_is, first_in_is}
use Rattle.simulator_replay.proofs.byte_rows.byte_replay.Goals.{in-LeastRecentlyUsed+in_ok-outcomes-in-LeastRecentlyUsed, in-FirstInFirstOut+in_ok-outcomes-in-FirstInFirstOut}
use Rattle.simulator_replay.proofs.byte_rows.byte_replay.Goals.{in-Clock+in_ok-outcomes-in-Clock, in-Sieve+in_ok-outcomes-in-Sieve, in-S3Fifo+in_ok-outcomes-in-S3Fifo}
use Rattle.simulator_replay.proofs.byte_rows.byte_replay.Goals.{in-Clock2Q+in_ok-shares-in-Clock2Q+in_ok-outcomes-in-Clock2Q}
use Rattle.simulator_replay.proofs.byte_rows.byte_replay.Goals as goal

-- each policy that was called is defined
pub returns-clause-defined : goal.returns-clause-defined
returns-clause-defined g c =
    elim c.match-policy.branch [
      | in-LeastRecentlyUsed+in_ok-outcomes-in-LeastRecentlyUsed w ↦ sym (ap has_bytes w.in-LeastRecentlyUsed.is)
      | in-FirstInFirstOut+in_ok-outcomes-in-FirstInFirstOut w ↦ sym (ap has_bytes w.in-FirstInFirstOut.is)
      | in-Clock+in_ok-outcomes-in-Clock w ↦ sym (ap has_bytes w.in-Clock.is)
      | in-Sieve+in_ok-outcomes-in-Sieve w ↦ sym (ap has_bytes w.in-Sieve.is)
      | in-S3Fifo+in_ok-outcomes-in-S3Fifo w ↦ sym (ap has_bytes w.in-S3Fifo.is)
      | in-Clock2Q+in_ok-shares-in-Clock2Q+in_ok-outcomes-in-Clock2Q w ↦ sym (ap has_bytes w.in-Clock2Q.is)
    ]

-- and its call returned what its definition says, or as many outcomes as there are accesses
pub returns-clause-replay : goal.returns-clause-replay
returns-clause-replay g c =
    let numbers = c.args.numbers.now in
    let sizes = c.args.sizes.now in
    let room = c.args.room in
    let seen = c.match-policy.outcomes.items in
    elim c.match-policy.branch [
      | in-LeastRecentlyUsed+in_ok-outcomes-in-LeastRecentlyUsed w ↦
          least_recent_is numbers sizes room c.args.policy seen w.in-LeastRecentlyUsed.is c.requires.sized
          (ap (λ outcomes. outcomes.items) w.outcomes-is ∙ w.in_ok-outcomes-in-LeastRecentlyUsed.ensures.outcomes)
      | in-FirstInFirstOut+in_ok-outcomes-in-FirstInFirstOut w ↦
          first_in_is numbers sizes room c.args.policy seen w.in-FirstInFirstOut.is c.requires.sized
          (ap (λ outcomes. outcomes.items) w.outcomes-is ∙ w.in_ok-outcomes-in-FirstInFirstOut.ensures.outcomes)
      | in-Clock+in_ok-outcomes-in-Clock w ↦
          byte_replay_is numbers sizes room c.args.policy seen Clock w.in-Clock.is (ap (λ outcomes. length outcomes.items) w.outcomes-is ∙ w.in_ok-outcomes-in-Clock.ensures.long) tt
      | in-Sieve+in_ok-outcomes-in-Sieve w ↦
          byte_replay_is numbers sizes room c.args.policy seen Sieve w.in-Sieve.is (ap (λ outcomes. length outcomes.items) w.outcomes-is ∙ w.in_ok-outcomes-in-Sieve.ensures.long) tt
      | in-S3Fifo+in_ok-outcomes-in-S3Fifo w ↦
          byte_replay_is numbers sizes room c.args.policy seen S3Fifo w.in-S3Fifo.is (ap (λ outcomes. length outcomes.items) w.outcomes-is ∙ w.in_ok-outcomes-in-S3Fifo.ensures.long) tt
      | in-Clock2Q+in_ok-shares-in-Clock2Q+in_ok-outcomes-in-Clock2Q w ↦
          byte_replay_is numbers sizes room c.args.policy seen Clock2Q w.in-Clock2Q.is (ap (λ outcomes. length outcomes.items) w.outcomes-is ∙ w.in_ok-outcomes-in-Clock2Q.ensures.long) tt
    ]
