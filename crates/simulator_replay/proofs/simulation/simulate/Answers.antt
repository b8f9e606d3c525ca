use Rattle.simulator_interface.specs.Written.{IsWritten}
use Rattle.simulator_traces.proofs.RecordByRecord.{ok-result}
use Rattle.simulator_replay.proofs.simulation.simulate.Goals as goal

pub returns-clause-ok : goal.returns-clause-ok
returns-clause-ok g c =
    let replayed = c.in_ok-outcome.ensures.ok in
    ok-result c.write_outcomes.result
    (λ (written : IsWritten (g.W.Sink.taken c.args.writer.now) (g.W.Sink.taken c.write_outcomes.new.writer) (g.W.Sink.contents c.args.writer.now) (g.W.Sink.contents c.write_outcomes.new.writer)).
    record { read = record { accesses = replayed.trace.accesses; read = replayed.read }; written = written })
    c.write_outcomes.ensures.ok
