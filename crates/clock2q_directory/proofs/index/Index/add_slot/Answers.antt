use Rattle.clock2q_directory.proofs.Names.{ap, arith, run, index_of, is_shared}
use Rattle.clock2q_directory.proofs.Gaps.{walk-spared}
use Rattle.clock2q_directory.proofs.Sorted.{spare-there, sorted-entered}
use Rattle.clock2q_directory.proofs.index.Index.add_slot.Goals as goal

pub insert_at_gap-requires : goal.insert_at_gap-requires
insert_at_gap-requires g c =
    let v = index_of c.self.inside.shared c.self.inside.own c.self.inside.charged.total in
    let room = rw (← c.self.view_is) at c.requires.room in
    let gap = rw (← c.self.view_is) at c.requires.gap in
    record { spare = spare-there v c.self.invariant.sorted room; gap = gap }

pub invariant_of-self : goal.invariant_of-self
invariant_of-self g c =
    let i = c.self.invariant in
    let e = c.insert_at_gap.ensures in
    record {
      sorted = rw e.put (sorted-entered c.args.hash c.args.slot c.requires.below i.sorted);
      shared_laid = e.laid.laid;
      own_laid = i.own_laid;
      counted = omega (
        arith,
        i.counted,
        rw c.is_some-is_found.ensures at c.charge.ensures.charged,
        e.reads,
        e.writes.1,
        walk-spared c.self.inside.shared.homes c.args.hash c.args.gap (is_shared (index_of c.self.inside.shared c.self.inside.own c.self.inside.charged.total)),
        ap (λ s. run s c.args.hash) i.shared_laid,
      );
    }
