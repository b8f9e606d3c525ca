use Rattle.std.proofs.Common.{subst}
use Rattle.clock2q_handles.specs.Table.{IsWholeTable}
use Rattle.clock2q_handles.proofs.layout.Tables.{table-whole}
use Rattle.clock2q_handles.proofs.table.Table.facts.Goals as goal

pub returns : goal.returns
returns g c = record { whole = subst IsWholeTable c.self.view_is (table-whole c.self.inside.slots.slots c.self.inside.len c.self.invariant c.self.inside.slots.writes c.self.inside.reads.total) }
