use Rattle.std.proofs.Common.{◌≡◌, ◌<◌, ◌==◌, ℕ, if◌then◌else◌, Some, None, List, [], length, refl, subst, arith}
use Rattle.clock2q_handles.specs.Candidates.{EndsAt, IsAcceptedAt}
use Rattle.clock2q_handles.specs.Homes.{top, candidates, candidates_before}
use Rattle.clock2q_handles.specs.Offers.{AcceptsNext, Offers}
use Rattle.clock2q_handles.specs.Layout.{homes_of}
use Rattle.clock2q_handles.specs.Positions.{IsEntryAt, GapValue, gap_of}
use Rattle.clock2q_handles.proofs.layout.TidyLayout.{length-homes_of}
use Rattle.clock2q_handles.proofs.walks.Cursors.{begins_empty}
use Rattle.clock2q_handles.proofs.walks.Positions.{ends_gap}
use Rattle.clock2q_handles.proofs.walks.Yields.{left_at_start}
use Rattle.clock2q_handles.proofs.offers.Accepting.{accepted_entry}
use Rattle.clock2q_handles.proofs.table.Table.search.Goals as goal

pub returns-then-count-eq0-clause-offers : goal.returns-then-count-eq0-clause-offers
returns-then-count-eq0-clause-offers g c =
    let none : [] ≡ candidates c.args.self.now.homes c.args.hash =
    grind (arith, begins_empty c.self.inside.slots.slots c.args.hash c.self.invariant.tidy, left_at_start c.self.inside.slots.slots c.args.hash) in
    (c.args.matches, subst (λ hs. Offers g.M.FnMut c.args.matches hs None c.args.matches) none (refl, refl))

pub returns-in-Ok-clause-found : goal.returns-in-Ok-clause-found
returns-in-Ok-clause-found g c =
    let slots = c.self.inside.slots.slots in
    let r = c.in-Ok.found in
    let there : 0 < length slots = omega (arith, c.if-count-eq0.false, c.count.ensures.count) in
    let found = subst (λ slots. IsAcceptedAt g.M.FnMut c.args.matches slots c.args.hash r.0 r.1) c.view.ensures c.in-Ok.ensures.at in
    let entry_at = accepted_entry slots c.self.invariant.tidy c.args.hash there r.1 r.0 found.at in
    subst (λ t. (i : ℕ) × IsEntryAt t.homes c.args.hash i (top c.args.hash, r.0) r.1 × AcceptsNext g.M.FnMut c.args.matches (candidates_before t.homes c.args.hash i) r.0) c.self.view_is
    (entry_at.0, entry_at.1, subst (λ hs. AcceptsNext g.M.FnMut c.args.matches hs r.0) entry_at.2 found.accepts)

-- the gap of a hash, if there are slots
some_gap : {E : Type 0} (homes : List (List E)) (x : ℕ) (gap : GapValue) → 0 < length homes → gap ≡ gap_of homes x → Some gap ≡ (if length homes == 0 then None else Some (gap_of homes x))
some_gap homes x gap there is = grind arith

pub returns-clause-gap : goal.returns-clause-gap
returns-clause-gap g c =
    let slots = c.self.inside.slots.slots in
    let e = c.in-Err.gap in
    let there : 0 < length slots = omega (arith, c.if-count-eq0.false, c.count.ensures.count) in
    let ended = ends_gap slots c.self.invariant.tidy there c.args.hash e.position e.mark (subst (λ slots. EndsAt slots c.args.hash e.mark e.position) c.view.ensures c.in-Err.ensures.ends) in
    rw (← c.self.view_is) (some_gap (homes_of slots) c.args.hash e (omega (arith, there, length-homes_of slots)) ended)
