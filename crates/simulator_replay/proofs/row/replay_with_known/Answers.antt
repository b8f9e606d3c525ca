use Rattle.std.proofs.Common.{length}
use Rattle.std.specs.NonZero.{non_zero_usize_get}
use Rattle.simulator_replay.specs.RowBytes.{AreBytes}
use Rattle.simulator_replay.specs.Rows.{AreHitsAfter}
use Rattle.simulator_traces.specs.Trace.{sizes_of}
use Rattle.simulator_replay.proofs.Replaying.{kept-more}
use Rattle.simulator_interface.proofs.Zipped.{All-more}
use Rattle.simulator_replay.proofs.row.replay_with_known.Goals as goal

pub loop-policy-preserved : goal.loop-policy-preserved
loop-policy-preserved g c =
    let trace = c.args.trace.now in
    let room = non_zero_usize_get c.args.capacity in
    record {
      policies = kept-more (λ h. h.policy) c.loop-policy.hits.items c.in_ok-counted.counted c.push.new.self.items c.args.policies.now c.loop-policy.policy-index _
          c.loop-policy-test.true c.in-Ok.ensures.items c.loop-policy.invariant.policies c.in_ok-counted.ensures.policy;
      bytes = All-more (λ h. AreBytes c.args.shares trace.numbers (sizes_of trace) room c.args.skipped (length trace.numbers) h.policy h.bytes)
          c.loop-policy.hits.items c.in_ok-counted.counted c.push.new.self.items c.in-Ok.ensures.items c.loop-policy.invariant.bytes c.in_ok-counted.ensures.bytes;
      hits = All-more (λ h. AreHitsAfter c.args.skipped c.args.shares trace.numbers room h.policy h.hits)
          c.loop-policy.hits.items c.in_ok-counted.counted c.push.new.self.items c.in-Ok.ensures.items c.loop-policy.invariant.hits c.in_ok-counted.ensures.hits;
    }
