use Rattle.std.proofs.Common.{◌≡◌, ◌+◌, ◌-◌, length}
use Rattle.clock2q_handles.specs.Layout.{IsTidy}
use Rattle.clock2q_handles.specs.Slots.{cells, ArePaired}
use Rattle.clock2q_handles.proofs.layout.Periods.{lap}
use Rattle.clock2q_handles.proofs.shifts.Carrying.{CloseState}
use Rattle.clock2q_handles.proofs.slots.vectors.Slots.take_out.Given as goal

abbrev pub invariant-loop-handles : goal.invariant-loop-handles
invariant-loop-handles g l = record {
  tidy : IsTidy (cells l.initial.metadata l.initial.handles);
  mask : l.mask + 1 ≡ length l.metadata;
  pair : ArePaired l.metadata l.handles;
  len : length l.metadata ≡ length l.initial.metadata;
  state : CloseState (cells l.initial.metadata l.initial.handles) (cells l.metadata l.handles) l.slot l.hole l.initial.writes.total l.writes.total;
  reads : l.reads.total + l.initial.writes.total ≡ l.initial.reads.total + l.writes.total;
}

abbrev pub decreases-loop-handles : goal.decreases-loop-handles
decreases-loop-handles g l = length (cells l.initial.metadata l.initial.handles) - lap (length (cells l.initial.metadata l.initial.handles)) l.slot l.hole
