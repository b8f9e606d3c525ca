use Rattle.std.proofs.Common.{◌≡◌, ◌*◌, ◌-◌, ◌/◌, ◌<◌, ap, ◌∙◌, arith}
use Rattle.std.proofs.lemmas.List.{get_or_default}
use Rattle.simulator_policies.specs.CountTree.{sum_in, node_of}
use Rattle.simulator_policies.proofs.Nodes.{sum-first, sum-last, sum-halves}
use Rattle.simulator_policies.proofs.count_tree.CountTree.sum_from.Goals as goal

pub overflow_add-sum : goal.overflow_add-sum
overflow_add-sum g c =
    let read : c.index.result.now ≡ node_of c.args.self.now c.loop-first.first = c.index.ensures ∙ get_or_default c.args.self.now.nodes.items c.loop-first.first c.index.result.now 0 (omega arith) in
    omega (arith, read, c.loop-first.invariant.so_far, sum-first (node_of c.args.self.now) c.loop-first.first c.loop-first.end c.loop-first-test.true, c.requires.fits)

pub loop-first-preserved-then-first-eq1 : goal.loop-first-preserved-then-first-eq1
loop-first-preserved-then-first-eq1 g c =
    let read : c.index.result.now ≡ node_of c.args.self.now c.loop-first.first = c.index.ensures ∙ get_or_default c.args.self.now.nodes.items c.loop-first.first c.index.result.now 0 (omega arith) in
    record {
      some = omega arith;
      ordered = omega arith;
      within = omega arith;
      so_far = omega (arith, read, c.loop-first.invariant.so_far, sum-first (node_of c.args.self.now) c.loop-first.first c.loop-first.end c.loop-first-test.true);
    }

pub overflow_add-sum-then-end-eq1 : goal.overflow_add-sum-then-end-eq1
overflow_add-sum-then-end-eq1 g c =
    let read : c.index-then-end-eq1.result.now ≡ node_of c.args.self.now (c.loop-first.end - 1) =
    c.index-then-end-eq1.ensures
    ∙ get_or_default c.args.self.now.nodes.items (c.loop-first.end - 1) c.index-then-end-eq1.result.now 0 (omega arith) in
    omega (arith, read, c.loop-first.invariant.so_far, sum-last (node_of c.args.self.now) c.loop-first.first c.loop-first.end c.loop-first-test.true, c.requires.fits)

pub loop-first-preserved-then-end-eq1 : goal.loop-first-preserved-then-end-eq1
loop-first-preserved-then-end-eq1 g c =
    let read : c.index-then-end-eq1.result.now ≡ node_of c.args.self.now (c.loop-first.end - 1) =
    c.index-then-end-eq1.ensures
    ∙ get_or_default c.args.self.now.nodes.items (c.loop-first.end - 1) c.index-then-end-eq1.result.now 0 (omega arith) in
    record {
      some = omega arith;
      ordered = omega arith;
      within = omega arith;
      so_far = omega (arith, read, c.loop-first.invariant.so_far, sum-last (node_of c.args.self.now) c.loop-first.first c.loop-first.end c.loop-first-test.true);
    }

pub loop-first-preserved : goal.loop-first-preserved
loop-first-preserved g c =
    let start : c.loop-first.first ≡ 2 * (c.loop-first.first / 2) = omega arith in
    let long : c.loop-first.end - c.loop-first.first ≡ 2 * (c.loop-first.end / 2) - 2 * (c.loop-first.first / 2) = omega arith in
    let some : 0 < c.loop-first.first / 2 = omega arith in
    let halves = sum-halves (node_of c.args.self.now) (c.loop-first.first / 2) (c.loop-first.end / 2) (λ n above below. c.requires.tree.pairs n above (omega (arith, below))) some (omega arith) in
    record {
      some = some;
      ordered = omega arith;
      within = omega arith;
      so_far = omega (
        arith,
        c.loop-first.invariant.so_far,
        ap (λ n. sum_in (node_of c.args.self.now) n (c.loop-first.end - c.loop-first.first)) start,
        ap (sum_in (node_of c.args.self.now) (2 * (c.loop-first.first / 2))) long,
        halves,
      );
    }
