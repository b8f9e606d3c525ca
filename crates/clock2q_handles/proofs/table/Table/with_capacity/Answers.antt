use Rattle.std.proofs.Common.{◌≡◌, [], sym, ap, ◌∙◌, subst}
use Rattle.clock2q_handles.specs.Layout.{layout}
use Rattle.clock2q_handles.specs.TableStep.{table_value, made_for}
use Rattle.clock2q_handles.specs.Table.{IsTable}
use Rattle.clock2q_handles.proofs.layout.Tables.{table-empty, layout-nothing}
use Rattle.clock2q_handles.proofs.table.Table.with_capacity.Goals as goal

pub returns-then-entries-eq0-clause-made : goal.returns-then-entries-eq0-clause-made
returns-then-entries-eq0-clause-made g c =
    let none : c.args.entries ≡ 0 = c.if-entries-eq0.true in
    c.new.ensures.made ∙ ap (λ s. table_value [] s 0 0) (sym (layout-nothing _ 0)) ∙ ap (λ n. table_value (made_for n) (layout (made_for n)) 0 0) (sym none)

pub invariant_of-result : goal.invariant_of-result
invariant_of-result g c = subst (λ s. IsTable s.slots 0) (sym c.in-Ok.ensures) (table-empty _ c.in-Some.count c.in-Some.ensures.power)
