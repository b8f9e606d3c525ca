use Rattle.std.proofs.Common.{◌≤◌}
use Rattle.clock2q_handles.proofs.rebuild.Rebuilds.{MovedSo}
use Rattle.clock2q_handles.proofs.slots.vectors.Slots.put_all.Given as goal

abbrev pub invariant-loop-slot : goal.invariant-loop-slot
invariant-loop-slot g l = record {
  moved : MovedSo g.F.FnMut l.initial.rehash l.rehash l.old.slots l.initial.self.slots l.self.slots l.slot;
  counted : l.initial.reads.total ≤ l.reads.total;
}
