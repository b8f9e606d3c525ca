use Rattle.clock2q_directory.proofs.Names.{length, ap, ◌∙◌, arith, length-layout}
use Rattle.clock2q_directory.proofs.Sorted.{sorted-cleared}
use Rattle.clock2q_directory.proofs.index.Index.clear.Goals as goal

pub invariant_of-self : goal.invariant_of-self
invariant_of-self g c =
    let i = c.self.invariant in
    let s = c.clear.ensures in
    let o = c.clear-2.ensures in
    record {
      sorted = rw (s.cleared, o.cleared) (sorted-cleared _ i.sorted);
      shared_laid = s.laid.laid;
      own_laid = o.laid.laid;
      counted = omega (
        arith,
        i.counted,
        c.charge.ensures.charged,
        s.reads,
        s.writes,
        o.reads,
        o.writes,
        ap (λ s. length s) i.shared_laid ∙ length-layout c.self.inside.shared.homes,
        ap (λ s. length s) i.own_laid ∙ length-layout c.self.inside.own.homes,
      );
    }
