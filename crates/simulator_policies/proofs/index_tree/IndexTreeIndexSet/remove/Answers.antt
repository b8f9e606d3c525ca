use Rattle.std.proofs.Common.{◌∙◌, ◌+◌, ap, sym, refl, arith}
use Rattle.simulator_policies.proofs.IndexTrees.{mark, unmarking_starts, unmarking_on, unmarking_done, under_top}
use Rattle.simulator_policies.proofs.index_tree.IndexTreeIndexSet.remove.Goals as goal

pub loop-self-init : goal.loop-self-init
loop-self-init g c = record {
  leaves = refl;
  unmarking = unmarking_starts c.args.self.now.marks.items c.args.self.now.leaves (c.args.self.now.leaves + c.args.index)
      (omega arith) (omega (arith, c.requires.index)) c.requires.set.long c.requires.set.top c.requires.set.pairs
      c.requires.inside;
}

pub has_below-requires : goal.has_below-requires
has_below-requires g c = record { node = c.loop-self.invariant.unmarking.within; long = c.loop-self.invariant.unmarking.long }

pub loop-self-preserved : goal.loop-self-preserved
loop-self-preserved g c =
    let xs = c.loop-self.self.marks.items in
    record {
      leaves = c.loop-self.invariant.leaves;
      unmarking = unmarking_on c.args.self.now.marks.items xs c.loop-self.self.leaves
          (c.loop-self.self.leaves + c.args.index) c.loop-self.node c.loop-self.invariant.unmarking
          (sym c.has_below.ensures ∙ c.loop-self-test.true);
    }

pub loop-self-smaller : goal.loop-self-smaller
loop-self-smaller g c =
    let xs = c.loop-self.self.marks.items in
    let some = under_top c.args.self.now.marks.items xs c.loop-self.self.leaves
    (c.loop-self.self.leaves + c.args.index) c.loop-self.node c.loop-self.invariant.unmarking
    (sym c.has_below.ensures ∙ c.loop-self-test.true) in
    omega (arith, some)

pub returns : goal.returns
returns g c =
    let xs = c.loop-self.self.marks.items in
    let done = unmarking_done c.args.self.now.marks.items xs c.loop-self.self.leaves
    (c.loop-self.self.leaves + c.args.index) c.loop-self.node c.loop-self.invariant.unmarking
    (sym c.has_below.ensures ∙ c.loop-self-test.false) in
    let leaves = c.loop-self.invariant.leaves in
    record {
      set = record {
        some = omega (arith, leaves, c.requires.set.some);
        levels = c.requires.set.levels;
        leaves = leaves
            ∙ c.requires.set.leaves;
        long = done.long;
        top = done.top;
        pairs = done.pairs;
      };
      bound = leaves;
      removed = done.removed;
      others = λ other apart. done.others (c.loop-self.self.leaves + other) (omega arith) (λ is. apart (omega (arith, is))) ∙ ap (λ n. mark c.args.self.now.marks.items (n + other)) leaves;
    }
