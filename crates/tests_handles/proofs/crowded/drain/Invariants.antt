use Rattle.std.proofs.Common.{◌≡◌, ◌+◌, length}
use Rattle.tests_handles.proofs.crowded.drain.Given as goal

abbrev pub invariant-loop-count : goal.invariant-loop-count
invariant-loop-count l = (l.count + length l.walk.left ≡ length l.fn.walk.left) × (l.walk.reads + l.walk.unread ≡ l.fn.walk.reads + l.fn.walk.unread)
