use Rattle.clock2q_directory.proofs.Names.{◌≡◌, length, is_key_at, slots_among}
use Rattle.clock2q_directory.proofs.Lookups.{Compared}
use Rattle.clock2q_directory.proofs.keys.Keys.find.Given as goal

abbrev pub invariant-loop-handle : goal.invariant-loop-handle
invariant-loop-handle g l =
    Compared (is_key_at g.K.PartialEq.eq l.fn.key l.fn.self.entries) l.fn.self.comparisons (length l.fn.self.entries) (slots_among l.fn.handles.left) l.self.comparisons (slots_among l.handles.left)
    × (l.self ≡ record l.fn.self { comparisons = l.self.comparisons })
    × (l.handles.end ≡ l.fn.handles.end)

abbrev pub decreases-loop-handle : goal.decreases-loop-handle
decreases-loop-handle g l = length l.handles.left
