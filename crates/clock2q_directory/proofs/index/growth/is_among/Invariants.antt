use Rattle.clock2q_directory.proofs.Names.{◌≡◌, length, nat_eq, list_any}
use Rattle.clock2q_directory.proofs.index.growth.is_among.Given as goal

abbrev pub invariant-loop-other : goal.invariant-loop-other
invariant-loop-other l = list_any (nat_eq l.fn.handle) l.fn.handles.left ≡ list_any (nat_eq l.fn.handle) l.handles.left

abbrev pub decreases-loop-other : goal.decreases-loop-other
decreases-loop-other l = length l.handles.left
