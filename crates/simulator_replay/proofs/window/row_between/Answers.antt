use Rattle.std.proofs.Common.{◌≡◌, ◌-◌, ◌≤◌, ◌∙◌, ◌++◌, ◌∷◌, [], ap, sym, subst, arith, length, take}
use Rattle.clock2q_machine.specs.Hits.{hit_count}
use Rattle.simulator_traces.specs.Bytes.{hit_between}
use Rattle.simulator_replay.specs.Windows.{counted}
use Rattle.simulator_replay.proofs.Replaying.{mapped-more, hits_of}
use Rattle.simulator_replay.proofs.window.row_between.Goals as goal

pub hits_between-count-requires-clause-within : goal.hits_between-count-requires-clause-within
hits_between-count-requires-clause-within g c =
    let within : c.args.last ≤ length c.replay-item.result.outcomes.items =
    subst (λ replay. c.args.last ≤ length replay.outcomes.items) (sym c.replay-item.is) (c.requires.within c.loop-replay.replay-index c.replay-item.result c.loop-replay-test.true) in
    omega (arith, ap length c.deref.ensures.value, within)

pub loop-replay-preserved : goal.loop-replay-preserved
loop-replay-preserved g c =
    let count : c.hits_between-count.result ≡ hit_count (take c.args.last c.replay-item.result.outcomes.items) - hit_count (take c.args.first c.replay-item.result.outcomes.items) =
    c.hits_between-count.ensures.hits ∙ ap (λ seen. hit_count (take c.args.last seen) - hit_count (take c.args.first seen)) c.deref.ensures.value in
    let bytes : c.hit_bytes-bytes.result ≡ hit_between c.args.first c.args.last c.replay-item.result.outcomes.items c.args.sizes.now =
    c.hit_bytes-bytes.ensures.bytes ∙ ap (λ seen. hit_between c.args.first c.args.last seen c.args.sizes.now) c.deref-in-loop-replay.ensures.value in
    mapped-more (counted c.args.first c.args.last c.args.sizes.now) c.args.replays.now c.loop-replay.replay-index c.replay-item.result c.loop-replay.hits.items c.push.new.self.items
    c.loop-replay-test.true c.replay-item.is c.loop-replay.invariant
    (c.in-Ok.ensures.items ∙ ap (λ n. c.loop-replay.hits.items ++ hits_of c.replay-item.result.policy n c.hit_bytes-bytes.result ∷ []) count
    ∙ ap (λ n. c.loop-replay.hits.items
    ++ hits_of c.replay-item.result.policy
    (hit_count (take c.args.last c.replay-item.result.outcomes.items) - hit_count
    (take c.args.first c.replay-item.result.outcomes.items)) n ∷ []) bytes)
