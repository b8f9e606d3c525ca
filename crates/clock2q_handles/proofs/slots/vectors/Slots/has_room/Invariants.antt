use Rattle.std.proofs.Common.{◌≤◌, ◌-◌, length}
use Rattle.clock2q_handles.specs.Layout.{longest_reach}
use Rattle.clock2q_handles.specs.Slots.{mark_reach}
use Rattle.clock2q_handles.proofs.layout.Periods.{lap}
use Rattle.clock2q_handles.proofs.shifts.Carrying.{IsPassing}
use Rattle.clock2q_handles.proofs.slots.vectors.Slots.has_room.Given as goal

abbrev pub invariant-loop-view : goal.invariant-loop-view
invariant-loop-view g l = record {
  own : mark_reach l.gap.mark ≤ longest_reach;
  passing : IsPassing l.self.slots l.gap.position l.slot;
  counted : l.initial.reads.total ≤ l.reads.total;
}

abbrev pub decreases-loop-view : goal.decreases-loop-view
decreases-loop-view g l = length l.self.slots - lap (length l.self.slots) l.gap.position l.slot
