use Rattle.std.proofs.Common.{sym, ap, ◌∙◌, subst, arith}
use Rattle.clock2q_handles.specs.Positions.{gap_of}
use Rattle.clock2q_handles.proofs.shifts.Steps.{table-laid}
use Rattle.clock2q_handles.proofs.shifts.Replacement.{Replacement, replacement}
use Rattle.clock2q_handles.proofs.table.Table.replace_handle.Given.{Over}
use Rattle.clock2q_handles.proofs.table.Table.replace_handle.Goals.{After-replace_handle_at}
use Rattle.clock2q_handles.proofs.table.Table.replace_handle.Goals as goal

-- what the new handle results in
replaced : (g : Over) (c : After-replace_handle_at g) → Replacement g.H.PartialEq.eq c.args.hash c.args.handle c.args.new c.self.inside.slots.slots c.replace_handle_at.new.self.slots c.self.inside.len
replaced g c =
    subst (λ s. Replacement g.H.PartialEq.eq c.args.hash c.args.handle c.args.new c.self.inside.slots.slots s.slots c.self.inside.len) (sym c.replace_handle_at.ensures)
    (replacement g.H.PartialEq.eq c.args.hash c.args.handle c.args.new c.self.invariant c.find_existing-slot.ensures.found)

pub invariant_of-self : goal.invariant_of-self
invariant_of-self g c = (replaced g (goal.at.invariant_of-self g c).After-replace_handle_at).table

pub returns-clause-handle_replaced : goal.returns-clause-handle_replaced
returns-clause-handle_replaced g c = grind (arith, replaced)

pub returns-clause-gaps : goal.returns-clause-gaps
returns-clause-gaps g c y = (replaced g (goal.at.returns-clause-gaps g c).After-replace_handle_at).gaps y ∙ ap (λ t. gap_of t.homes y) c.self.view_is

pub returns-clause-laid : goal.returns-clause-laid
returns-clause-laid g c =
    table-laid c.replace_handle_at.new.self.slots c.self.inside.len (replaced g (goal.at.returns-clause-laid g c).After-replace_handle_at).table c.replace_handle_at.new.self.writes c.find_existing-slot.new.reads.total
