use Rattle.std.proofs.Common.{◌≡◌, ◌+◌, ◌-◌, length}
use Rattle.clock2q_handles.specs.Slots.{sought, mark_reach}
use Rattle.clock2q_handles.proofs.shifts.Searching.{IsSearching}
use Rattle.clock2q_handles.proofs.slots.vectors.Slots.find_existing.Given as goal

abbrev pub invariant-loop-view : goal.invariant-loop-view
invariant-loop-view g l = record {
  search : IsSearching g.H.PartialEq.eq l.handle l.self.slots l.hash (sought l.wanted) l.slot;
  reads : l.reads.total + 1 ≡ l.initial.reads.total + mark_reach (sought l.wanted);
}

abbrev pub decreases-loop-view : goal.decreases-loop-view
decreases-loop-view g l = length l.self.slots - mark_reach (sought l.wanted)
