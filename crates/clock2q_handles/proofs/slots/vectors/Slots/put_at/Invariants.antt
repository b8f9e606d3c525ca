use Rattle.std.proofs.Common.{◌≡◌, ◌+◌, ◌-◌, ◌≤◌, length}
use Rattle.clock2q_handles.specs.Layout.{IsTidy}
use Rattle.clock2q_handles.specs.Slots.{cell, cells, meaning, ArePaired}
use Rattle.clock2q_handles.proofs.layout.Periods.{lap}
use Rattle.clock2q_handles.proofs.shifts.Carrying.{CarryState}
use Rattle.clock2q_handles.proofs.slots.vectors.Slots.put_at.Given as goal

abbrev pub invariant-loop-there : goal.invariant-loop-there
invariant-loop-there g l = record {
  tidy : IsTidy (cells l.initial.metadata l.initial.handles);
  mask : l.mask + 1 ≡ length l.metadata;
  pair : ArePaired l.metadata l.handles;
  len : length l.metadata ≡ length l.initial.metadata;
  state : CarryState (cells l.initial.metadata l.initial.handles) (cells l.metadata l.handles) (cell (meaning l.initial.word) l.initial.handle)
      (cell (meaning l.word) l.handle) (meaning l.there) l.initial.slot l.slot l.initial.writes.total l.writes.total;
  counted : l.initial.reads.total ≤ l.reads.total;
  reads : l.reads.total + l.initial.writes.total ≡ l.initial.reads.total + l.writes.total;
}

abbrev pub decreases-loop-there : goal.decreases-loop-there
decreases-loop-there g l = length (cells l.initial.metadata l.initial.handles) - lap (length (cells l.initial.metadata l.initial.handles)) l.initial.slot l.slot
