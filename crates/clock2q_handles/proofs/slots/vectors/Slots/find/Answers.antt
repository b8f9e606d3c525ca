use Rattle.std.proofs.Common.{◌≡◌, ap, ◌≤◌, suc, length, arith, sym, ◌∙◌}
use Rattle.clock2q_handles.specs.Layout.{slot_at}
use Rattle.clock2q_handles.specs.Slots.{sought, mark_reach}
use Rattle.clock2q_handles.proofs.shifts.Moves.{refused, reach_of_meaning}
use Rattle.clock2q_handles.proofs.shifts.Searching.{IsSearching, search_begins, search_reads, search_finds, search_ends, search_on, other_handle, other_mark}
use Rattle.clock2q_handles.proofs.walks.Cursors.{goes_on}
use Rattle.clock2q_handles.proofs.slots.vectors.Slots.find.Given.{Over}
use Rattle.clock2q_handles.proofs.slots.vectors.Slots.find.Goals.{After-next-wanted, else-is-via-then-is+else-eq, else-is-via-else-is}
use Rattle.clock2q_handles.proofs.slots.vectors.Slots.find.Goals as goal

pub loop-view-init : goal.loop-view-init
loop-view-init g c = record {
  search = search_begins g.H.PartialEq.eq c.args.handle _ c.requires.tidy c.args.hash _ _ (omega arith) (rw c.view-view.ensures at (c.home-slot.ensures.home (rw c.view-view.ensures (omega arith)))) c.new-wanted.ensures;
  reads = omega (arith, ap mark_reach c.new-wanted.ensures);
}

pub returns-then-eq-clause-found : goal.returns-then-eq-clause-found
returns-then-eq-clause-found g c =
    search_finds g.H.PartialEq.eq c.args.handle c.args.self.now.slots c.requires.tidy c.args.hash c.loop-view.invariant.search
    (sym (c.is.ensures.0 c.if-is.true) ∙ (rw c.view-view.ensures at c.read-metadata.ensures.meaning)) (rw c.view-view.ensures at c.handle.ensures.handle) (sym c.eq.ensures ∙ c.if-eq.true)

pub returns-then-ends_walk_for-clause-none : goal.returns-then-ends_walk_for-clause-none
returns-then-ends_walk_for-clause-none g c =
    search_ends g.H.PartialEq.eq c.args.handle c.args.self.now.slots c.requires.tidy c.args.hash c.loop-view.invariant.search
    (omega (arith, c.ends_walk_for.ensures.0 c.if-ends_walk_for.true, reach_of_meaning _ (slot_at c.args.self.now.slots c.loop-view.slot) (rw c.view-view.ensures at c.read-metadata.ensures.meaning)))

pub returns-then-eq-clause-reads : goal.returns-then-eq-clause-reads
returns-then-eq-clause-reads g c = grind (arith, search_reads g.H.PartialEq.eq c.args.handle c.args.self.now.slots c.requires.tidy c.args.hash c.loop-view.invariant.search)

pub returns-then-ends_walk_for-clause-reads : goal.returns-then-ends_walk_for-clause-reads
returns-then-ends_walk_for-clause-reads g c = grind (arith, search_reads g.H.PartialEq.eq c.args.handle c.args.self.now.slots c.requires.tidy c.args.hash c.loop-view.invariant.search)

more : (g : Over) (c : After-next-wanted g)
    → (next : IsSearching g.H.PartialEq.eq c.args.handle c.args.self.now.slots c.args.hash (sought c.next-wanted.result) c.after-slot.result)
    × (mark_reach (sought c.next-wanted.result) ≡ suc (mark_reach (sought c.loop-view.wanted))) × (mark_reach (sought c.next-wanted.result) ≤ length c.args.self.now.slots)
more g c =
    let eq = g.H.PartialEq.eq in
    let slots = c.args.self.now.slots in
    let search = c.loop-view.invariant.search in
    let far = goes_on slots c.ends_walk_for.result (sought c.loop-view.wanted) _ c.loop-view.slot c.ends_walk_for.ensures c.if-ends_walk_for.false (rw c.view-view.ensures at c.read-metadata.ensures.meaning) in
    search_on eq c.args.handle slots c.requires.tidy c.args.hash search (elim c.else-is.branch [
      | else-is-via-then-is+else-eq w ↦ other_handle eq c.args.handle slots c.requires.tidy c.args.hash search (sym (c.is.ensures.0 w.if-is.true) ∙ (rw c.view-view.ensures at c.read-metadata.ensures.meaning)) (rw c.view-view.ensures at w.handle.ensures.handle) (sym w.eq.ensures ∙ w.if-eq.false)
      | else-is-via-else-is w ↦ other_mark eq c.args.handle slots c.requires.tidy c.args.hash search (λ e. refused c.is.result c.is.ensures w.if-is.false ((rw c.view-view.ensures at c.read-metadata.ensures.meaning) ∙ sym e))
    ]) far c.next-wanted.ensures (rw c.view-view.ensures at c.after-slot.ensures.after)

pub loop-view-smaller : goal.loop-view-smaller
loop-view-smaller g c = let next = more g (goal.at.loop-view-smaller g c).After-next-wanted in omega (arith, next.1, next.2)

pub loop-view-preserved : goal.loop-view-preserved
loop-view-preserved g c = let next = more g (goal.at.loop-view-preserved g c).After-next-wanted in record { search = next.0; reads = omega (arith, next.1, c.read-metadata.ensures.counted) }
