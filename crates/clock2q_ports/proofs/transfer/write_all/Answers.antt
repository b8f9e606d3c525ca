use Rattle.std.proofs.Common.{Ok, refl}
use Rattle.clock2q_ports.specs.declared.ports.Failed.{Failed}
use Rattle.clock2q_ports.proofs.Transferring.{IsTakenUpTo-more}
use Rattle.clock2q_ports.proofs.transfer.write_all.Goals as goal

pub loop-rest-preserved : goal.loop-rest-preserved
loop-rest-preserved g c =
    IsTakenUpTo-more {E = Failed} _ (g.W.Sink.taken c.loop-rest.writer) _ _ (g.W.Sink.contents c.loop-rest.writer) _ c.args.text.now c.loop-rest.rest.now (Ok c.in_ok-count.count) c.in_ok-count.count
    c.loop-rest.invariant refl c.if-count-eq0.false c.in_ok-count.ensures.bound c.in_ok-count.ensures.taken c.in_ok-count.ensures.bytes
