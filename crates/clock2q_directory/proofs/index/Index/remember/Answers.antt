use Rattle.clock2q_directory.proofs.Names.{◌≡◌, true, false, ap, sym, ◌∙◌, arith, run, length-with_list, index_of, index_state, is_shared}
use Rattle.clock2q_directory.proofs.Views.{held_entry}
use Rattle.clock2q_directory.proofs.Sorted.{sorted-remembered, sorted-shared}
use Rattle.clock2q_directory.proofs.index.Index.remember.Goals as goal

pub replace_handle-requires : goal.replace_handle-requires
replace_handle-requires g c =
    let held = rw (← c.self.view_is) at c.requires.held in
    record { held = held_entry (index_of c.self.inside.shared c.self.inside.own c.self.inside.charged.total) c.args.hash c.args.slot held.there }

pub invariant_of-self : goal.invariant_of-self
invariant_of-self g c =
    let i = c.self.invariant in
    let e = c.replace_handle.ensures in
    let shared : is_shared (index_state c.self.inside.shared.homes c.self.inside.own.homes) ≡ true =
    ap is_shared c.self.view_is ∙ sym c.is_shared-is_shared.ensures.shared ∙ c.if-is_shared.true in
    record {
      sorted = grind (arith, length-with_list, sorted-shared, e.handle_replaced, shared, i.sorted);
      shared_laid = e.laid.laid;
      own_laid = i.own_laid;
      counted = omega (arith, i.counted, rw shared at c.charge.ensures.charged, e.reads.1, e.writes);
    }

pub remove_existing-requires : goal.remove_existing-requires
remove_existing-requires g c =
    let held = rw (← c.self.view_is) at c.requires.held in
    record { held = held_entry (index_of c.self.inside.shared c.self.inside.own c.self.inside.charged.total) c.args.hash c.args.slot held.there }

pub invariant_of-self-else-is_shared : goal.invariant_of-self-else-is_shared
invariant_of-self-else-is_shared g c =
    let i = c.self.invariant in
    let s = c.remove_existing.ensures in
    let o = c.insert_at_gap.ensures in
    let own : is_shared (index_state c.self.inside.shared.homes c.self.inside.own.homes) ≡ false =
    ap is_shared c.self.view_is ∙ sym c.is_shared-is_shared.ensures.shared ∙ c.if-is_shared.false in
    record {
      sorted = rw (s.removed, o.put) (sorted-remembered c.args.hash c.args.slot c.args.place c.requires.held.below i.sorted);
      shared_laid = s.laid.laid;
      own_laid = o.laid.laid;
      counted = omega (
        arith,
        i.counted,
        rw own at c.charge.ensures.charged,
        s.reads.1,
        s.writes.1,
        o.reads,
        o.writes.1,
        ap (λ t. run t c.args.hash) i.shared_laid,
        ap (λ t. run t c.args.hash) i.own_laid,
      );
    }
