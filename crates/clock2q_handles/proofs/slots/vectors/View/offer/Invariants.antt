use Rattle.std.proofs.Common.{◌≡◌, ◌+◌, ◌≤◌, ◌++◌, List, Option, None}
use Rattle.std.specs.Prelude.{IsSome}
use Rattle.clock2q_handles.specs.Candidates.{left_at, left_from, unread_at, unread_from, IsLookup, IsWalkFor}
use Rattle.clock2q_handles.specs.Offers.{Offers, TakesInTurn}
use Rattle.clock2q_handles.specs.Slots.{sought}
use Rattle.clock2q_handles.proofs.slots.vectors.View.offer.Given as goal

abbrev pub invariant-loop-gap : goal.invariant-loop-gap
invariant-loop-gap g l = record {
  lookup : IsLookup l.self (sought l.wanted) l.slot;
  some : IsSome (sought l.wanted);
  walk : IsWalkFor l.self l.hash (sought l.wanted) l.slot;
  reads : l.initial.reads.total ≤ l.reads.total;
  read : l.reads.total + unread_at l.self (sought l.wanted) l.slot ≡ l.initial.reads.total + unread_from l.self l.hash 0;
  rejected : (before : List g.row.H.Denot)
      × (left_from l.self l.hash 0 ≡ before ++ left_at l.self (sought l.wanted) l.slot) × Offers g.F.FnMut l.initial.matches before None l.matches;
  callable : TakesInTurn g.F.FnMut l.matches (left_at l.self (sought l.wanted) l.slot);
  offers : (found : Option g.row.H.Denot) (last : g.row.F.Denot) → Offers g.F.FnMut l.matches (left_at l.self (sought l.wanted) l.slot) found last
      → Offers g.F.FnMut l.initial.matches (left_from l.self l.hash 0) found last;
}

abbrev pub decreases-loop-gap : goal.decreases-loop-gap
decreases-loop-gap g l = unread_at l.self (sought l.wanted) l.slot
