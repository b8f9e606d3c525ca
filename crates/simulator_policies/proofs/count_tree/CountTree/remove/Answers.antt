use Rattle.simulator_policies.proofs.Nodes.{removing-read}
use Rattle.simulator_policies.proofs.count_tree.CountTree.remove.Goals as goal

pub loop-node-preserved : goal.loop-node-preserved
loop-node-preserved g c = record {
  blocks = c.loop-node.invariant.blocks;
  removing = removing-read _ _ _ _ _ c.loop-node.invariant.removing c.loop-node-test.true c.index_mut.result.now c.index_mut.ensures.value;
}
