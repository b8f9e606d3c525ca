use Rattle.std.proofs.Common.{[], sym, ap, ◌∙◌, subst}
use Rattle.clock2q_handles.specs.Layout.{homes_of}
use Rattle.clock2q_handles.specs.TableStep.{table_value}
use Rattle.clock2q_handles.specs.Table.{IsTable}
use Rattle.clock2q_handles.proofs.layout.Tables.{no_slots, table-empty, view-empty, layout-nothing}
use Rattle.clock2q_handles.proofs.table.Table.new.Goals as goal

pub invariant_of-result : goal.invariant_of-result
invariant_of-result g c = subst (λ s. IsTable s.slots 0) (sym c.new.ensures) (table-empty _ 0 no_slots)

pub returns : goal.returns
returns g c =
    record {
      made = ap (table_value (homes_of c.new.result.slots) c.new.result.slots c.new.result.writes) c.new-2.ensures.zero
          ∙ ap (λ s. table_value (homes_of s.slots) s.slots s.writes 0) c.new.ensures ∙ view-empty _ 0 ∙ ap (λ s. table_value [] s 0 0) (layout-nothing _ 0);
    }
