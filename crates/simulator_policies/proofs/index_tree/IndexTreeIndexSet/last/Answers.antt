use Rattle.std.proofs.Common.{◌≡◌, ◌∙◌, ◌+◌, ◌*◌, ◌<◌, false, arith, length}
use Rattle.simulator_policies.proofs.IndexTrees.{mark, read, starts_above, none_at_all, go_first, go_second, last_inside, last_latest}
use Rattle.simulator_policies.proofs.index_tree.IndexTreeIndexSet.last.Goals as goal

pub returns-then-not-index : goal.returns-then-not-index
returns-then-not-index g c =
    let t = c.requires.set in
    let xs = c.args.self.now.marks.items in
    let within : 1 < length xs = omega (arith, t.long, t.some) in
    let none : mark xs 1 ≡ false = read xs 1 c.index.result.now within c.index.ensures ∙ c.if-not-index.true in
    record { last = λ index. none_at_all xs c.args.self.now.leaves t.levels t.leaves t.long t.pairs none (c.args.self.now.leaves + index) (omega arith) }

pub loop-node-init : goal.loop-node-init
loop-node-init g c =
    let t = c.requires.set in
    let xs = c.args.self.now.marks.items in
    let within : 1 < length xs = omega (arith, t.long, t.some) in
    starts_above xs c.args.self.now.leaves t.levels t.leaves t.long (read xs 1 c.index.result.now within c.index.ensures ∙ c.if-not-index.false)

pub loop-node-preserved-then-index : goal.loop-node-preserved-then-index
loop-node-preserved-then-index g c =
    let t = c.requires.set in
    let xs = c.args.self.now.marks.items in
    let within : 2 * c.loop-node.node + 1 < length xs = omega (arith, t.long, c.loop-node-test.true) in
    go_second xs c.args.self.now.leaves t.pairs c.loop-node.node c.loop-node.invariant c.loop-node-test.true
    (read xs (2 * c.loop-node.node + 1) c.index-in-loop-node.result.now within c.index-in-loop-node.ensures ∙ c.if-index.true)

pub loop-node-preserved : goal.loop-node-preserved
loop-node-preserved g c =
    let t = c.requires.set in
    let xs = c.args.self.now.marks.items in
    let within : 2 * c.loop-node.node + 1 < length xs = omega (arith, t.long, c.loop-node-test.true) in
    go_first xs c.args.self.now.leaves t.pairs c.loop-node.node c.loop-node.invariant c.loop-node-test.true
    (read xs (2 * c.loop-node.node + 1) c.index-in-loop-node.result.now within c.index-in-loop-node.ensures ∙ c.if-index.false)

pub returns : goal.returns
returns g c = record {
  last = record {
    inside = last_inside c.args.self.now.marks.items c.args.self.now.leaves c.loop-node.node c.requires.set.pairs c.loop-node.invariant (omega arith);
    latest = last_latest c.args.self.now.marks.items c.args.self.now.leaves c.loop-node.node c.requires.set.pairs c.loop-node.invariant (omega arith);
  };
}
