-- A peek leaves the cache as it was.
use Rattle.std.proofs.Common.{rules}
use Rattle.clock2q_command.proofs.commands.execute.Goals as goal

pub returns-in-Peek-clause-machine : goal.returns-in-Peek-clause-machine
returns-in-Peek-clause-machine g c = search rules
