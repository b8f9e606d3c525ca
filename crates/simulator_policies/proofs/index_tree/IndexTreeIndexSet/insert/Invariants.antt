-- A node has to be marked.
use Rattle.std.proofs.Common.{◌≡◌, ◌+◌}
use Rattle.simulator_policies.proofs.IndexTrees.{IsMarking}
use Rattle.simulator_policies.proofs.index_tree.IndexTreeIndexSet.insert.Given as goal

abbrev pub invariant-loop-self : goal.invariant-loop-self
invariant-loop-self g l = record {
  leaves : l.self.leaves ≡ l.fn.self.leaves;
  marking : IsMarking l.fn.self.marks.items l.self.marks.items l.self.leaves (l.self.leaves + l.fn.index) l.node;
}

abbrev pub decreases-loop-self : goal.decreases-loop-self
decreases-loop-self g l = l.node
