use Rattle.clock2q_ports.specs.Ports.{traffic_after}
use Rattle.clock2q_ports.proofs.event_log.EventLog.add.Given as goal

abbrev pub ghost-set : goal.ghost-set
ghost-set a = traffic_after a.self.now.value a.seen.now.bytes.now a.seen.now.stopped a.seen.now.failed
