use Rattle.std.proofs.Common.{◌≡◌, ◌+◌, ◌≤◌, ℕ}
use Rattle.std.specs.Prelude.{IsSome}
use Rattle.clock2q_handles.specs.Candidates.{left_at, unread_at, IsLookup, IsWalkFor}
use Rattle.clock2q_handles.specs.Slots.{sought}
use Rattle.clock2q_handles.proofs.slots.vectors.View.candidate.Given as goal

abbrev pub invariant-loop-metadata : goal.invariant-loop-metadata
invariant-loop-metadata g l = record {
  lookup : IsLookup l.self (sought l.wanted) l.slot;
  some : IsSome (sought l.wanted);
  walks : (x : ℕ) → IsWalkFor l.self x (sought l.initial.wanted) l.initial.slot → IsWalkFor l.self x (sought l.wanted) l.slot;
  reads : l.initial.reads.total ≤ l.reads.total;
  left : left_at l.self (sought l.initial.wanted) l.initial.slot ≡ left_at l.self (sought l.wanted) l.slot;
  read : l.reads.total + unread_at l.self (sought l.wanted) l.slot ≡ l.initial.reads.total + unread_at l.self (sought l.initial.wanted) l.initial.slot;
}

abbrev pub decreases-loop-metadata : goal.decreases-loop-metadata
decreases-loop-metadata g l = unread_at l.self (sought l.wanted) l.slot
