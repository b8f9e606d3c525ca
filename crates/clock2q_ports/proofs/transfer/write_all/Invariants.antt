use Rattle.std.proofs.Common.{length}
use Rattle.clock2q_ports.proofs.Transferring.{IsTakenUpTo}
use Rattle.clock2q_ports.proofs.transfer.write_all.Given as goal

abbrev pub invariant-loop-rest : goal.invariant-loop-rest
invariant-loop-rest g l =
    IsTakenUpTo (g.W.Sink.taken l.initial.writer) (g.W.Sink.taken l.writer) (g.W.Sink.contents l.initial.writer) (g.W.Sink.contents l.writer) l.text l.rest

abbrev pub decreases-loop-rest : goal.decreases-loop-rest
decreases-loop-rest g l = length l.rest
