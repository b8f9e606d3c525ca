use Rattle.std.proofs.Common.{rules, ◌≡◌, ◌+◌, ◌<◌, ◌%◌, length, arith, ap, ◌∙◌, length-set, set, None}
use Rattle.clock2q_handles.specs.Found.{TakesOutAt}
use Rattle.clock2q_handles.specs.Layout.{slot_at}
use Rattle.clock2q_handles.specs.Slots.{cells}
use Rattle.clock2q_handles.proofs.shifts.Cells.{length-cells, mark_read_or, handle_read_at, set-cells, set-paired, set_empty}
use Rattle.clock2q_handles.proofs.shifts.Moves.{near_of_meaning}
use Rattle.clock2q_handles.proofs.shifts.Carrying.{CloseState, run_nearer, close_slot, close_goes, close_ends}
use Rattle.clock2q_handles.proofs.shifts.Wrapping.{cells_along, cells_back, takes_at_along}
use Rattle.clock2q_handles.proofs.slots.vectors.Slots.take_out.Given.{Over}
use Rattle.clock2q_handles.proofs.slots.vectors.Slots.take_out.Goals.{After-after-next, After-one_nearer}
use Rattle.clock2q_handles.proofs.slots.vectors.Slots.take_out.Goals as goal

-- the slot after the hole
next : (g : Over) (c : After-after-next g) → (c.after-next.result < length c.loop-handles.metadata)
    × (c.after-next.result ≡ (c.loop-handles.hole + 1) % length (cells c.loop-handles.metadata c.loop-handles.handles))
next g c =
    let m = length-cells c.loop-handles.metadata c.loop-handles.handles c.loop-handles.invariant.pair.same in
    (omega (arith, c.after-next.ensures.within, c.loop-handles.invariant.mask), c.after-next.ensures.after ∙ ap (λ m. (c.loop-handles.hole + 1) % m) (omega (arith, c.loop-handles.invariant.mask, m)))

-- what the next turn starts from
more : (g : Over) (c : After-one_nearer g) → (next : c.after-next.result < length c.loop-handles.metadata)
    × (c.after-next.result ≡ (c.loop-handles.hole + 1) % length (cells c.loop-handles.metadata c.loop-handles.handles))
    → CloseState (cells c.as_mut_slice-metadata.result.now c.as_mut_slice-handles.result.now)
    (cells (set c.loop-handles.metadata c.loop-handles.hole c.one_nearer.result) (set c.loop-handles.handles c.loop-handles.hole c.index-handles-next.result))
    c.args.slot c.after-next.result c.self.inside.writes.total (c.loop-handles.writes.total + 1)
more g c next =
    let l = c.loop-handles.invariant in
    close_goes _ (cells c.loop-handles.metadata c.loop-handles.handles) l.tidy l.state next.1 _ _ _ c.index-handles-next.result
    (mark_read_or c.loop-handles.metadata c.loop-handles.handles c.after-next.result (record { word = 0 }) l.pair.same next.0)
    (c.can_move_back.ensures.0 c.if-not-can_move_back.false) c.one_nearer.ensures
    (handle_read_at c.loop-handles.metadata c.loop-handles.handles c.after-next.result c.index-handles-next.result l.pair.same next.0 c.index-handles-next.is)
    (set-cells c.loop-handles.metadata c.loop-handles.handles _ _ _ l.pair.same)

pub offset_bounds-handles-hole : goal.offset_bounds-handles-hole
offset_bounds-handles-hole g c =
    let l = c.loop-handles.invariant in
    let here : c.loop-handles.hole < length c.as_mut_slice-handles.result.now =
    omega (arith, close_slot _ (cells c.loop-handles.metadata c.loop-handles.handles) l.tidy l.state, length-cells _ _ l.pair.same, l.pair.same, c.loop-handles.auto.handles) in
    search rules

pub loop-handles-smaller : goal.loop-handles-smaller
loop-handles-smaller g c =
    let before = goal.at.loop-handles-smaller g c in grind (arith, run_nearer, more g before.After-one_nearer (next g before.After-after-next))

pub loop-handles-preserved : goal.loop-handles-preserved
loop-handles-preserved g c =
    let before = goal.at.loop-handles-preserved g c in
    let pair = set-paired c.loop-handles.metadata c.loop-handles.handles c.loop-handles.hole c.one_nearer.result c.index-handles-next.result c.loop-handles.invariant.pair in
    grind (arith, pair, length-set c.loop-handles.metadata c.loop-handles.hole c.one_nearer.result, more g before.After-one_nearer (next g before.After-after-next))

pub returns-clause-taken : goal.returns-clause-taken
returns-clause-taken g c =
    let l = c.loop-handles.invariant in
    let here = next g (goal.at.returns-clause-taken g c).After-after-next in
    let now = cells c.loop-handles.metadata c.loop-handles.handles in
    let left = set_empty c.loop-handles.metadata c.loop-handles.handles c.loop-handles.hole l.pair.same in
    let near = near_of_meaning c.can_move_back.result _ (slot_at now c.after-next.result) c.can_move_back.ensures c.if-not-can_move_back.true
    (mark_read_or c.loop-handles.metadata c.loop-handles.handles c.after-next.result (record { word = 0 }) l.pair.same here.0) in
    let taken : TakesOutAt (cells c.as_mut_slice-metadata.result.now c.as_mut_slice-handles.result.now)
    (cells (set c.loop-handles.metadata c.loop-handles.hole (record { word = 0 })) c.loop-handles.handles) c.args.slot c.self.inside.writes.total c.tick-2.new.self.total = record {
      closes = λ h n e come was.
          let ended = close_ends _ now l.tidy l.state here.1 _ near left h n e come was in
          (ended.0, ended.1, omega (arith, ended.2, c.tick-2.ensures.ticked));
      len = ap length left ∙ length-set now c.loop-handles.hole None ∙ l.state.len;
    } in
    takes_at_along taken (cells_along c.as_mut_slice-metadata.ensures.value c.as_mut_slice-handles.ensures.value ∙ ap (λ s. s.slots) c.self.view_is)
    (cells_back _ c.self.inside.metadata.items _ c.self.inside.handles.items _ _ (grind (arith, length-set)) (grind (arith, length-set))) (ap (λ s. s.writes) c.self.view_is)
