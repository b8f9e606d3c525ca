use Rattle.clock2q_directory.proofs.Names.{◌≡◌, true, rules, ap, sym, ◌∙◌, arith, run, index_of, index_state, is_shared}
use Rattle.clock2q_directory.proofs.Sorted.{held_place, held_own}
use Rattle.clock2q_directory.proofs.index.Index.forget.Goals as goal

pub remove_existing-requires : goal.remove_existing-requires
remove_existing-requires g c =
    let v = index_of c.self.inside.shared c.self.inside.own c.self.inside.charged.total in
    let shared = ap is_shared c.self.view_is ∙ sym c.is_shared-is_shared.ensures.shared ∙ c.if-is_shared.true in
    let held = rw (← c.self.view_is, c.in-Some.is) at c.requires.held in
    rw c.pack-handle.ensures.packed (record { held = held_place v c.in-Some.hash c.args.place shared held })

pub invariant_of-self : goal.invariant_of-self
invariant_of-self g c =
    let i = c.self.invariant in
    let e = c.remove_existing.ensures in
    let shared : is_shared (index_state c.self.inside.shared.homes c.self.inside.own.homes) ≡ true =
    ap is_shared c.self.view_is ∙ sym c.is_shared-is_shared.ensures.shared ∙ c.if-is_shared.true in
    record {
      sorted = search rules;
      shared_laid = e.laid.laid;
      own_laid = i.own_laid;
      counted = omega (arith, i.counted, rw shared at c.charge.ensures.charged, e.reads.1, e.writes.1, ap (λ s. run s c.in-Some.hash) i.shared_laid);
    }

pub remove_existing-requires-else-is_shared : goal.remove_existing-requires-else-is_shared
remove_existing-requires-else-is_shared g c =
    let v = index_of c.self.inside.shared c.self.inside.own c.self.inside.charged.total in
    let own = ap is_shared c.self.view_is ∙ sym c.is_shared-is_shared.ensures.shared ∙ c.if-is_shared.false in
    let held = rw (← c.self.view_is, c.in-Some.is) at c.requires.held in
    record { held = held_own v c.in-Some.hash c.args.place own held }
