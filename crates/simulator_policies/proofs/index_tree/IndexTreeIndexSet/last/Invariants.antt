-- The last marked leaf is below a marked node.
use Rattle.std.proofs.Common.{◌-◌, ◌*◌}
use Rattle.simulator_policies.proofs.IndexTrees.{IsAbove}
use Rattle.simulator_policies.proofs.index_tree.IndexTreeIndexSet.last.Given as goal

abbrev pub invariant-loop-node : goal.invariant-loop-node
invariant-loop-node g l = IsAbove l.self.marks.items l.self.leaves l.node

abbrev pub decreases-loop-node : goal.decreases-loop-node
decreases-loop-node g l = 2 * l.self.leaves - l.node
