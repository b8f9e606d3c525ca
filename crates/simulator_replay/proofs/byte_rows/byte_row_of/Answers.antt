use Rattle.std.proofs.Common.{subst}
use Rattle.std.specs.NonZero.{non_zero_usize_get}
use Rattle.std.specs.Prelude.{IfSome}
use Rattle.simulator_interface.specs.declared.row.Hits.{Hits}
use Rattle.simulator_replay.specs.ByteRows.{AreByteHits}
use Rattle.simulator_traces.specs.Trace.{sizes_of}
use Rattle.simulator_replay.proofs.ByteRows.{defined-more}
use Rattle.simulator_interface.proofs.Zipped.{All-more}
use Rattle.simulator_replay.proofs.byte_rows.byte_row_of.Goals as goal

pub loop-policy-preserved : goal.loop-policy-preserved
loop-policy-preserved g c =
    let hit : Hits = c.in-Some.counted in
    let AreHits = λ (h : Hits). AreByteHits c.args.skipped c.args.trace.now.numbers (sizes_of c.args.trace.now) (non_zero_usize_get c.args.capacity) h.policy h.hits h.bytes in
    record {
      policies = defined-more c.loop-policy.hits.items c.push.new.self.items c.in_ok-counted.field-0 hit c.args.policies.now c.loop-policy.policy-index _
          c.loop-policy-test.true c.in-Ok.ensures.items c.loop-policy.invariant.policies c.in-Some.is c.in_ok-counted.ensures.policy c.in_ok-counted.ensures.defined;
      hits = All-more AreHits c.loop-policy.hits.items hit c.push.new.self.items c.in-Ok.ensures.items c.loop-policy.invariant.hits
          (subst (λ counted. IfSome counted AreHits) c.in-Some.is c.in_ok-counted.ensures.hits);
    }
