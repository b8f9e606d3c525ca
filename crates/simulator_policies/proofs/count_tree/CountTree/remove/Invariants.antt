-- A node has to be one less.
use Rattle.std.proofs.Common.{◌≡◌, ◌+◌}
use Rattle.simulator_policies.proofs.Nodes.{IsRemoving}
use Rattle.simulator_policies.proofs.count_tree.CountTree.remove.Given as goal

abbrev pub invariant-loop-node : goal.invariant-loop-node
invariant-loop-node g l = record {
  blocks : l.self.blocks ≡ l.fn.self.blocks;
  removing : IsRemoving l.fn.self.nodes.items l.self.nodes.items l.self.blocks (l.self.blocks + l.fn.block) l.node;
}

abbrev pub decreases-loop-node : goal.decreases-loop-node
decreases-loop-node g l = l.node
