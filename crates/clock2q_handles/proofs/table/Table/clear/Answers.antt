use Rattle.std.proofs.Common.{length, sym, subst}
use Rattle.clock2q_handles.specs.Table.{IsTable}
use Rattle.clock2q_handles.proofs.shifts.Steps.{table-laid}
use Rattle.clock2q_handles.proofs.layout.Tables.{table-empty}
use Rattle.clock2q_handles.proofs.table.Table.clear.Goals as goal

pub invariant_of-self : goal.invariant_of-self
invariant_of-self g c = subst (λ s. IsTable s.slots 0) (sym c.clear.ensures) (table-empty _ (length c.self.inside.slots.slots) c.self.invariant.slot_count)

pub returns-clause-laid : goal.returns-clause-laid
returns-clause-laid g c = table-laid c.clear.new.self.slots 0 (invariant_of-self g c) c.clear.new.self.writes c.self.inside.reads.total
