use Rattle.clock2q_directory.proofs.Names.{◌≡◌, None, if◌then◌else◌, sym, ap, ◌∙◌, arith, run, walk_to_gap, index_of, is_shared}
use Rattle.clock2q_directory.proofs.Gaps.{usable-gap, usable-shared, walk-usable}
use Rattle.clock2q_directory.proofs.Views.{held_entry}
use Rattle.clock2q_directory.proofs.Sorted.{shared-few, spare-there, sorted-entered, sorted-left}
use Rattle.clock2q_directory.proofs.index.Index.replace.Given.{Over}
use Rattle.clock2q_directory.proofs.index.Index.replace.Goals.{After-charge, then-is_shared, else-is_shared}
use Rattle.clock2q_directory.proofs.index.Index.replace.Goals as goal

-- the gap that is passed on
usable : (g : Over) (c : After-charge g) → c.if-is_shared.usable ≡ (if is_shared c.args.self.now then c.args.gap else None)
usable g c = elim c.if-is_shared.branch [
  | then-is_shared w ↦ w.usable-is ∙ ap (λ b. if b then c.args.gap else None) (sym (sym c.is_shared.ensures.shared ∙ w.if-is_shared.true))
  | else-is_shared w ↦ w.usable-is ∙ ap (λ b. if b then c.args.gap else None) (sym (sym c.is_shared.ensures.shared ∙ w.if-is_shared.false))
]

pub replace-requires : goal.replace-requires
replace-requires g c =
    let v = index_of c.self.inside.shared c.self.inside.own c.self.inside.charged.total in
    let room = rw (← c.self.view_is) at c.requires.room in
    let used = rw (← c.self.view_is) at (usable g (goal.at.replace-requires g c).After-charge) in
    record {
      few = shared-few v c.self.invariant.sorted room.few;
      gap = usable-gap c.args.gap c.if-is_shared.usable (is_shared v) used c.args.hash v (rw (← c.self.view_is) at c.requires.gap);
      spare = λ some. spare-there v c.self.invariant.sorted (room.spare (usable-shared c.args.gap c.if-is_shared.usable (is_shared v) used some));
      held = held_entry v c.args.old_hash c.args.slot (rw (← c.self.view_is) at c.requires.held).there;
    }

pub invariant_of-self : goal.invariant_of-self
invariant_of-self g c =
    let i = c.self.invariant in
    let v = index_of c.self.inside.shared c.self.inside.own c.self.inside.charged.total in
    let used = rw (← c.self.view_is) at (usable g (goal.at.invariant_of-self g c).After-charge) in
    let e = c.replace.ensures in
    let below = c.requires.held.below in
    record {
      sorted = rw e.replaced (sorted-entered c.args.hash c.args.slot below (sorted-left c.args.old_hash c.args.slot below i.sorted));
      shared_laid = e.laid.laid;
      own_laid = i.own_laid;
      counted = omega (
        arith,
        i.counted,
        rw c.is_some.ensures at c.charge.ensures.charged,
        e.accesses.1,
        ap (λ z. walk_to_gap z v.shared c.args.hash) used ∙ walk-usable v.shared c.args.hash c.args.gap (is_shared v),
        ap (λ s. run s c.args.hash) i.shared_laid,
        ap (λ s. run s c.args.old_hash) i.shared_laid,
      );
    }
