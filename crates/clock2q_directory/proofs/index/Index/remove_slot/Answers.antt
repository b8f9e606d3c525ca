use Rattle.clock2q_directory.proofs.Names.{ap, arith, run, index_of}
use Rattle.clock2q_directory.proofs.Views.{held_entry}
use Rattle.clock2q_directory.proofs.Sorted.{sorted-left}
use Rattle.clock2q_directory.proofs.index.Index.remove_slot.Goals as goal

pub remove_existing-requires : goal.remove_existing-requires
remove_existing-requires g c =
    let held = rw (← c.self.view_is) at c.requires.held in
    record { held = held_entry (index_of c.self.inside.shared c.self.inside.own c.self.inside.charged.total) c.args.hash c.args.slot held.there }

pub invariant_of-self : goal.invariant_of-self
invariant_of-self g c =
    let i = c.self.invariant in
    let e = c.remove_existing.ensures in
    record {
      sorted = rw e.removed (sorted-left c.args.hash c.args.slot c.requires.held.below i.sorted);
      shared_laid = e.laid.laid;
      own_laid = i.own_laid;
      counted = omega (arith, i.counted, c.charge.ensures.charged, e.reads.1, e.writes.1, ap (λ s. run s c.args.hash) i.shared_laid);
    }
