use Rattle.std.proofs.Common.{refl, ◌∙◌}
use Rattle.clock2q_table_commands.proofs.TableReplies.{left-drained}
use Rattle.clock2q_table_commands.proofs.table_commands.get.Goals as goal

pub returns-in-Ok : goal.returns-in-Ok
returns-in-Ok g c = λ eq key. (let k = c.in-Ok.ensures.ran in k.2.0 ∙ left-drained k.0 _ k.1 ∙ c.get.ensures.candidates, refl)
