-- A power of two.
use Rattle.std.proofs.Common.{◌≡◌, ℕ, ◌-◌, ◌<◌, ◌^◌}
use Rattle.simulator_policies.specs.IndexTree.{first_below}
use Rattle.simulator_policies.proofs.index_tree.leaves_for.Given as goal

abbrev pub invariant-loop-leaves : goal.invariant-loop-leaves
invariant-loop-leaves l = record {
  levels : (levels : ℕ) × (l.leaves ≡ first_below levels 1);
  some : 0 < l.leaves;
  few : l.leaves < 2 ^ 63;
}

abbrev pub decreases-loop-leaves : goal.decreases-loop-leaves
decreases-loop-leaves l = l.indices - l.leaves
