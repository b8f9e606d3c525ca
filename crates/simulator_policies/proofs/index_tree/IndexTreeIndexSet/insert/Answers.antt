use Rattle.std.proofs.Common.{◌≡◌, ◌∙◌, ◌+◌, ◌<◌, false, true, ap, refl, arith, length}
use Rattle.simulator_policies.proofs.IndexTrees.{mark, read, marking_starts, marking_on, marking_done, not_top}
use Rattle.simulator_policies.proofs.index_tree.IndexTreeIndexSet.insert.Goals as goal

pub loop-self-init : goal.loop-self-init
loop-self-init g c = record {
  leaves = refl;
  marking = marking_starts c.args.self.now.marks.items c.args.self.now.leaves c.args.index c.requires.index c.requires.set.long c.requires.set.top c.requires.set.pairs;
}

pub loop-self-preserved : goal.loop-self-preserved
loop-self-preserved g c =
    let m = c.loop-self.invariant.marking in
    let xs = c.loop-self.self.marks.items in
    let within : c.loop-self.node < length xs = omega (arith, m.within, m.long) in
    let unmarked : mark xs c.loop-self.node ≡ false = read xs c.loop-self.node c.index.result.now within c.index.ensures ∙ c.loop-self-test.true in
    record {
      leaves = c.loop-self.invariant.leaves;
      marking = marking_on c.args.self.now.marks.items xs c.loop-self.self.leaves (c.loop-self.self.leaves + c.args.index) c.loop-self.node m unmarked;
    }

pub loop-self-smaller : goal.loop-self-smaller
loop-self-smaller g c =
    let m = c.loop-self.invariant.marking in
    let xs = c.loop-self.self.marks.items in
    let within : c.loop-self.node < length xs = omega (arith, m.within, m.long) in
    let unmarked : mark xs c.loop-self.node ≡ false = read xs c.loop-self.node c.index.result.now within c.index.ensures ∙ c.loop-self-test.true in
    let some = not_top c.args.self.now.marks.items xs c.loop-self.self.leaves (c.loop-self.self.leaves + c.args.index) c.loop-self.node m unmarked in
    omega (arith, some)

pub returns : goal.returns
returns g c =
    let m = c.loop-self.invariant.marking in
    let xs = c.loop-self.self.marks.items in
    let within : c.loop-self.node < length xs = omega (arith, m.within, m.long) in
    let marked : mark xs c.loop-self.node ≡ true = read xs c.loop-self.node c.index.result.now within c.index.ensures ∙ c.loop-self-test.false in
    let done = marking_done c.args.self.now.marks.items xs c.loop-self.self.leaves (c.loop-self.self.leaves + c.args.index) c.loop-self.node m marked in
    let leaves = c.loop-self.invariant.leaves in
    record {
      set = record {
        some = omega (arith, leaves, c.requires.set.some);
        levels = c.requires.set.levels;
        leaves = leaves
            ∙ c.requires.set.leaves;
        long = done.long;
        top = done.top;
        pairs = done.pairs;
      };
      bound = leaves;
      added = done.added;
      others = λ other apart. done.others (c.loop-self.self.leaves + other) (omega arith) (λ is. apart (omega (arith, is))) ∙ ap (λ n. mark c.args.self.now.marks.items (n + other)) leaves;
    }
