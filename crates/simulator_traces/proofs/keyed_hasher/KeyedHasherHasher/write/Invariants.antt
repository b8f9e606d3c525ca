use Rattle.std.proofs.Common.{◌≡◌, ◌-◌, ◌/◌, ◌%◌, ◌<◌}
use Rattle.simulator_traces.specs.KeyedHasher.{after_words}
use Rattle.simulator_traces.proofs.keyed_hasher.KeyedHasherHasher.write.Given as goal

abbrev pub invariant-loop-at : goal.invariant-loop-at
invariant-loop-at l = (l.at % 8 ≡ 0) × (l.at < l.len) × (l.state ≡ after_words l.bytes l.factor l.initial.state (l.at / 8))

abbrev pub decreases-loop-at : goal.decreases-loop-at
decreases-loop-at l = l.len - l.at
