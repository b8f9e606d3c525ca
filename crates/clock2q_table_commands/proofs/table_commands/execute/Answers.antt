use Rattle.std.proofs.Common.{rules}
use Rattle.clock2q_table_commands.proofs.table_commands.execute.Goals as goal

pub returns-in-Get-clause-reply : goal.returns-in-Get-clause-reply
returns-in-Get-clause-reply g c = λ key h. search (rules, c.get.ensures g.H.PartialEq.eq key)
