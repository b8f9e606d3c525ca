use Rattle.clock2q_directory.proofs.Names.{length, has_hash, slots_among}
use Rattle.clock2q_directory.proofs.WithHash.{Sought}
use Rattle.clock2q_directory.proofs.keys.Keys.with_hash.Given as goal

abbrev pub invariant-loop-handle : goal.invariant-loop-handle
invariant-loop-handle g l = Sought (has_hash l.fn.self.entries l.fn.hash) (slots_among l.fn.handles.left) l.fn.nth (length l.fn.self.entries) (slots_among l.handles.left) l.more

abbrev pub decreases-loop-handle : goal.decreases-loop-handle
decreases-loop-handle g l = length l.handles.left
