-- A node has to be unmarked, unless one of the two below it is marked.
use Rattle.std.proofs.Common.{◌≡◌, ◌+◌}
use Rattle.simulator_policies.proofs.IndexTrees.{IsUnmarking}
use Rattle.simulator_policies.proofs.index_tree.IndexTreeIndexSet.remove.Given as goal

abbrev pub invariant-loop-self : goal.invariant-loop-self
invariant-loop-self g l = record {
  leaves : l.self.leaves ≡ l.fn.self.leaves;
  unmarking : IsUnmarking l.fn.self.marks.items l.self.marks.items l.self.leaves (l.self.leaves + l.fn.index) l.node;
}

abbrev pub decreases-loop-self : goal.decreases-loop-self
decreases-loop-self g l = l.node
