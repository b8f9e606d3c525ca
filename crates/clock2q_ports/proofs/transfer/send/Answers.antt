use Rattle.clock2q_ports.proofs.Transferring.{Sends-flushed}
use Rattle.clock2q_ports.proofs.transfer.send.Goals as goal

pub returns : goal.returns
returns g c =
    Sends-flushed _ (g.W.Sink.taken c.write_all.new.writer) _ _ (g.W.Sink.contents c.write_all.new.writer) _ c.args.text.now c.flush.result
    c.in_ok-write_all.ensures c.flush.ensures.taken c.flush.ensures.bytes
