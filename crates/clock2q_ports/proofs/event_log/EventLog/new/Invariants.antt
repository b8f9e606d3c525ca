use Rattle.clock2q_ports.specs.Ports.{no_traffic}
use Rattle.clock2q_ports.proofs.event_log.EventLog.new.Given as goal

abbrev pub ghost-new : goal.ghost-new
ghost-new a = no_traffic
