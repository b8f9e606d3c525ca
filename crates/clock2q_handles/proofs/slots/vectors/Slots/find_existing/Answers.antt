use Rattle.std.proofs.Common.{◌≡◌, ◌%◌, ◌≤◌, suc, length, arith, ap, sym, ◌∙◌}
use Rattle.clock2q_handles.specs.Homes.{is_entry_of}
use Rattle.clock2q_handles.specs.Layout.{slot_at, reach}
use Rattle.clock2q_handles.specs.Slots.{sought, mark_reach}
use Rattle.clock2q_handles.proofs.shifts.Moves.{refused, reach_of_meaning}
use Rattle.clock2q_handles.proofs.shifts.Searching.{IsSearching, search_begins, search_reads, search_finds, search_on, other_handle, other_mark}
use Rattle.clock2q_handles.proofs.walks.Finding.{held_somewhere, held_further}
use Rattle.clock2q_handles.proofs.slots.vectors.Slots.find_existing.Given.{Over}
use Rattle.clock2q_handles.proofs.slots.vectors.Slots.find_existing.Goals.{After-next-wanted, else-is-via-then-is+else-eq, else-is-via-else-is}
use Rattle.clock2q_handles.proofs.slots.vectors.Slots.find_existing.Goals as goal

pub loop-view-init : goal.loop-view-init
loop-view-init g c =
    let some = held_somewhere (is_entry_of g.H.PartialEq.eq c.args.hash c.args.handle) _ c.requires.tidy (c.args.hash % length c.args.self.now.slots) c.requires.held in record {
      search = search_begins g.H.PartialEq.eq c.args.handle _ c.requires.tidy c.args.hash _ _ some (rw c.view-view.ensures at (c.home-slot.ensures.home (rw c.view-view.ensures some))) c.new-wanted.ensures;
      reads = omega (arith, ap mark_reach c.new-wanted.ensures);
    }

pub returns-then-eq : goal.returns-then-eq
returns-then-eq g c =
    let search = c.loop-view.invariant.search in
    let slots = c.args.self.now.slots in
    record {
      found = search_finds g.H.PartialEq.eq c.args.handle slots c.requires.tidy c.args.hash search (sym (c.is.ensures.0 c.if-is.true) ∙ (rw c.view-view.ensures at c.read-metadata.ensures.meaning)) (rw c.view-view.ensures at c.handle.ensures.handle) (sym c.eq.ensures ∙ c.if-eq.true);
      reads = grind (arith, search_reads g.H.PartialEq.eq c.args.handle slots c.requires.tidy c.args.hash search);
      reached = omega (arith, c.loop-view.invariant.reads, c.read-metadata.ensures.counted, ap mark_reach (c.is.ensures.0 c.if-is.true), reach_of_meaning _ (slot_at slots c.loop-view.slot) (rw c.view-view.ensures at c.read-metadata.ensures.meaning));
    }

more : (g : Over) (c : After-next-wanted g)
    → (next : IsSearching g.H.PartialEq.eq c.args.handle c.args.self.now.slots c.args.hash (sought c.next-wanted.result) c.after-slot.result)
    × (mark_reach (sought c.next-wanted.result) ≡ suc (mark_reach (sought c.loop-view.wanted))) × (mark_reach (sought c.next-wanted.result) ≤ length c.args.self.now.slots)
more g c =
    let eq = g.H.PartialEq.eq in
    let slots = c.args.self.now.slots in
    let search = c.loop-view.invariant.search in
    let far : mark_reach (sought c.loop-view.wanted) ≤ reach (slot_at slots c.loop-view.slot) = omega (arith, held_further (is_entry_of eq c.args.hash c.args.handle) slots c.requires.tidy (c.args.hash % length slots) c.requires.held search.at.distance c.loop-view.slot search.at.come search.none, ap mark_reach search.at.mark) in
    search_on eq c.args.handle slots c.requires.tidy c.args.hash search (elim c.else-is.branch [
      | else-is-via-then-is+else-eq w ↦ other_handle eq c.args.handle slots c.requires.tidy c.args.hash search (sym (c.is.ensures.0 w.if-is.true) ∙ (rw c.view-view.ensures at c.read-metadata.ensures.meaning)) (rw c.view-view.ensures at w.handle.ensures.handle) (sym w.eq.ensures ∙ w.if-eq.false)
      | else-is-via-else-is w ↦ other_mark eq c.args.handle slots c.requires.tidy c.args.hash search (λ e. refused c.is.result c.is.ensures w.if-is.false ((rw c.view-view.ensures at c.read-metadata.ensures.meaning) ∙ sym e))
    ]) far c.next-wanted.ensures (rw c.view-view.ensures at c.after-slot.ensures.after)

pub loop-view-smaller : goal.loop-view-smaller
loop-view-smaller g c = let next = more g (goal.at.loop-view-smaller g c).After-next-wanted in omega (arith, next.1, next.2)

pub loop-view-preserved : goal.loop-view-preserved
loop-view-preserved g c = let next = more g (goal.at.loop-view-preserved g c).After-next-wanted in record { search = next.0; reads = omega (arith, next.1, c.read-metadata.ensures.counted) }
