use Rattle.clock2q_directory.proofs.Names.{◌≡◌, true, false, ap, sym, ◌∙◌, arith, run, index_of, index_state, is_shared}
use Rattle.clock2q_directory.proofs.Larger.{spare-shared, spare-own, sorted-own}
use Rattle.clock2q_directory.proofs.Sorted.{sorted-shared}
use Rattle.clock2q_directory.proofs.Indexes.{length-put}
use Rattle.clock2q_directory.proofs.index.Index.add_place.Goals as goal

pub insert_at_gap-requires : goal.insert_at_gap-requires
insert_at_gap-requires g c =
    let v = index_of c.self.inside.shared c.self.inside.own c.self.inside.charged.total in
    let shared = ap is_shared c.self.view_is ∙ sym c.is_shared-is_shared.ensures.shared ∙ c.if-is_shared.true in
    record { spare = spare-shared v c.self.invariant.sorted shared (rw (← c.self.view_is) at c.requires.room); gap = tt }

pub insert_at_gap-requires-else-is_shared : goal.insert_at_gap-requires-else-is_shared
insert_at_gap-requires-else-is_shared g c =
    let v = index_of c.self.inside.shared c.self.inside.own c.self.inside.charged.total in
    let own = ap is_shared c.self.view_is ∙ sym c.is_shared-is_shared.ensures.shared ∙ c.if-is_shared.false in
    record { spare = spare-own v own (rw (← c.self.view_is) at c.requires.room); gap = tt }

pub invariant_of-self : goal.invariant_of-self
invariant_of-self g c =
    let i = c.self.invariant in
    let e = c.insert_at_gap.ensures in
    let shared : is_shared (index_state c.self.inside.shared.homes c.self.inside.own.homes) ≡ true =
    ap is_shared c.self.view_is ∙ sym c.is_shared-is_shared.ensures.shared ∙ c.if-is_shared.true in
    record {
      sorted = grind (arith, length-put, sorted-shared, e.put, shared, i.sorted);
      shared_laid = e.laid.laid;
      own_laid = i.own_laid;
      counted = omega (arith, i.counted, rw shared at c.charge.ensures.charged, e.reads, e.writes.1, ap (λ s. run s c.args.hash) i.shared_laid);
    }

pub invariant_of-self-else-is_shared : goal.invariant_of-self-else-is_shared
invariant_of-self-else-is_shared g c =
    let i = c.self.invariant in
    let e = c.insert_at_gap-else-is_shared.ensures in
    let own : is_shared (index_state c.self.inside.shared.homes c.self.inside.own.homes) ≡ false =
    ap is_shared c.self.view_is ∙ sym c.is_shared-is_shared.ensures.shared ∙ c.if-is_shared.false in
    record {
      sorted = rw e.put (sorted-own c.args.hash c.args.place i.sorted);
      shared_laid = i.shared_laid;
      own_laid = e.laid.laid;
      counted = omega (arith, i.counted, rw own at c.charge.ensures.charged, e.reads, e.writes.1, ap (λ s. run s c.args.hash) i.own_laid);
    }
