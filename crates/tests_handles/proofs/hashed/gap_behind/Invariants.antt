use Rattle.std.proofs.Common.{◌≡◌, Some}
use Rattle.clock2q_handles.specs.Positions.{gap_of}
use Rattle.tests_handles.proofs.hashed.gap_behind.Given as goal

abbrev pub invariant-loop : goal.invariant-loop
invariant-loop g l = l.walk.end ≡ Some (gap_of l.table.homes l.hash)
