-- The sum so far and that of the nodes that are left are the whole sum.
use Rattle.std.proofs.Common.{◌≡◌, ◌+◌, ◌*◌, ◌-◌, ◌<◌, ◌≤◌}
use Rattle.simulator_policies.specs.CountTree.{sum_in, node_of, count_of}
use Rattle.simulator_policies.proofs.count_tree.CountTree.sum_from.Given as goal

abbrev pub invariant-loop-first : goal.invariant-loop-first
invariant-loop-first g l = record {
  some : 0 < l.first;
  ordered : l.first ≤ l.end;
  within : l.end ≤ 2 * l.self.blocks;
  so_far : l.sum + sum_in (node_of l.self) l.first (l.end - l.first) ≡ sum_in (count_of l.self) l.fn.block (l.self.blocks - l.fn.block);
}

abbrev pub decreases-loop-first : goal.decreases-loop-first
decreases-loop-first g l = l.end - l.first
