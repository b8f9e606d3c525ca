use Rattle.std.proofs.Common.{rules}
use Rattle.clock2q_ports.proofs.transfer.read_all.Goals as goal

pub returns-then-count-eq0-clause-given : goal.returns-then-count-eq0-clause-given
returns-then-count-eq0-clause-given g c = search rules
