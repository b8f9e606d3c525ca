use Rattle.simulator_traces.proofs.FieldByField.{second-quote}
use Rattle.simulator_traces.proofs.csv.Place.step.Goals as goal

pub returns-in-34-byte-3 : goal.returns-in-34-byte-3
returns-in-34-byte-3 c = record { step = λ rest. second-quote c.args.separator c.args.self c.args.byte rest c.in-Closed.is c.in-34-byte-3.is }
