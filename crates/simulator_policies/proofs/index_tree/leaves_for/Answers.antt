use Rattle.std.proofs.Common.{◌≡◌, ◌*◌, arith, suc}
use Rattle.simulator_policies.specs.IndexTree.{first_below}
use Rattle.simulator_policies.proofs.IndexTrees.{below_twice}
use Rattle.simulator_policies.proofs.index_tree.leaves_for.Goals as goal

pub loop-leaves-preserved : goal.loop-leaves-preserved
loop-leaves-preserved c =
    let twice : first_below (suc c.loop-leaves.invariant.levels.0) 1 ≡ 2 * first_below c.loop-leaves.invariant.levels.0 1 = below_twice c.loop-leaves.invariant.levels.0 1 in
    record {
      levels = (suc c.loop-leaves.invariant.levels.0, omega (arith, twice, c.loop-leaves.invariant.levels.1));
      some = omega arith;
      few = omega arith;
    }
