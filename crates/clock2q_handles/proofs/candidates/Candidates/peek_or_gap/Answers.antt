use Rattle.std.proofs.Common.{◌+◌, ◌%◌, length, arith, sym, ap, ◌∙◌, subst, refl}
use Rattle.std.specs.Prelude.{IsSome}
use Rattle.clock2q_handles.specs.Layout.{slot_at}
use Rattle.clock2q_handles.specs.Slots.{sought, mark_on}
use Rattle.clock2q_handles.proofs.shifts.Moves.{reach_of_meaning}
use Rattle.clock2q_handles.proofs.walks.Cursors.{HasStepped, lookup_steps}
use Rattle.clock2q_handles.proofs.walks.Positions.{some_sought, same_end, end_is}
use Rattle.clock2q_handles.proofs.candidates.Candidates.peek_or_gap.Given.{Over}
use Rattle.clock2q_handles.proofs.candidates.Candidates.peek_or_gap.Goals.{After-handle}
use Rattle.clock2q_handles.proofs.candidates.Candidates.peek_or_gap.Goals as goal

-- the walk would go on to the slot after the candidate's
on : (g : Over) (c : After-handle g) → let slots = c.self.inside.view in
    HasStepped slots (sought c.in-Ok.wanted) (mark_on (sought c.in-Ok.wanted)) c.in-Ok.slot ((c.in-Ok.slot + 1) % length slots)
on g c =
    let slots = c.self.inside.view in
    let wanted = sought c.in-Ok.wanted in
    lookup_steps slots wanted (mark_on wanted) c.in-Ok.slot ((c.in-Ok.slot + 1) % length slots) c.in-Ok.ensures.some refl refl c.in-Ok.ensures.lookup
    (omega (arith, reach_of_meaning wanted (slot_at slots c.in-Ok.slot) (sym c.in-Ok.ensures.found)))

pub returns-in-Ok-clause-candidate : goal.returns-in-Ok-clause-candidate
returns-in-Ok-clause-candidate g c = grind (arith, (on g (goal.at.returns-in-Ok-clause-candidate g c).After-handle).takes c.handle.result c.in-Ok.ensures.found)

pub returns-in-Err-clause-gap : goal.returns-in-Err-clause-gap
returns-in-Err-clause-gap g c =
    let slots = c.self.inside.view in
    let some = some_sought slots (sought c.self.inside.wanted) c.self.inside.slot (subst IsSome (sym (ap (λ t. t.end) c.self.view_is)) c.requires.walking) in
    ap (λ t. t.end) (sym c.self.view_is)
    ∙ end_is slots (sought c.self.inside.wanted) c.in-Err.gap.mark c.self.inside.slot c.in-Err.gap.position some c.self.invariant c.in-Err.ensures.ends

pub returns-in-Ok-clause-within : goal.returns-in-Ok-clause-within
returns-in-Ok-clause-within g c = grind (arith, on)

pub returns-in-Ok-clause-end : goal.returns-in-Ok-clause-end
returns-in-Ok-clause-end g c =
    let slots = c.self.inside.view in
    let some = some_sought slots (sought c.self.inside.wanted) c.self.inside.slot (subst IsSome (sym (ap (λ t. t.end) c.self.view_is)) c.requires.walking) in
    sym (same_end slots (sought c.self.inside.wanted) (sought c.in-Ok.wanted) c.self.inside.slot c.in-Ok.slot some c.self.invariant c.in-Ok.ensures.walks) ∙ ap (λ t. t.end) c.self.view_is
