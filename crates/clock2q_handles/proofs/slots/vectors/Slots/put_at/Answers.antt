use Rattle.std.proofs.Common.{rules, ◌≡◌, ◌+◌, ◌<◌, ◌%◌, length, arith, ap, sym, subst, ◌∙◌, get_or, set, length-set}
use Rattle.clock2q_handles.specs.Shifts.{HasCome, HasRoomAt, PutsAt}
use Rattle.clock2q_handles.specs.Slots.{cell, cells, meaning}
use Rattle.clock2q_handles.proofs.shifts.Cells.{length-cells, set-cells, set-paired, kept_whole, mark_read_or, handle_read_at}
use Rattle.clock2q_handles.proofs.shifts.Moves.{refused}
use Rattle.clock2q_handles.proofs.shifts.Carrying.{CarryState, carry_begins, carry_slot, run_nearer, carry_room, carry_goes, carry_ends}
use Rattle.clock2q_handles.proofs.shifts.Wrapping.{cells_along, cells_back, puts_at_along}
use Rattle.clock2q_handles.proofs.slots.vectors.Slots.put_at.Given.{Over}
use Rattle.clock2q_handles.proofs.slots.vectors.Slots.put_at.Goals.{In-loop-there, After-after-slot}
use Rattle.clock2q_handles.proofs.slots.vectors.Slots.put_at.Goals as goal

pub loop-there-init : goal.loop-there-init
loop-there-init g c = grind (arith, cells_along {H = g.row.H.Denot}, length-cells {H = g.row.H.Denot}, carry_begins {H = g.row.H.Denot}, mark_read_or {H = g.row.H.Denot})

-- the slot that the loop has reached
within : (g : Over) (c : In-loop-there g) → c.loop-there.slot < length c.loop-there.metadata
within g c =
    let l = c.loop-there.invariant in omega (arith, carry_slot _ (cells c.loop-there.metadata c.loop-there.handles) l.tidy l.state, length-cells _ _ l.pair.same)

pub offset_bounds-handles-slot : goal.offset_bounds-handles-slot
offset_bounds-handles-slot g c =
    let l : c.loop-there.slot < length c.as_mut_slice-handles.result.now = omega (arith, within g c, c.loop-there.invariant.pair.same, c.loop-there.auto.handles) in search rules

pub offset_bounds-handles-slot-in-loop-there : goal.offset_bounds-handles-slot-in-loop-there
offset_bounds-handles-slot-in-loop-there g c =
    let l : c.loop-there.slot < length c.as_mut_slice-handles.result.now = omega
    (arith, within g (goal.at.offset_bounds-handles-slot-in-loop-there g c).In-loop-there, c.loop-there.invariant.pair.same, c.loop-there.auto.handles) in search rules

pub one_further-word-requires-clause-room : goal.one_further-word-requires-clause-room
one_further-word-requires-clause-room g c =
    let start = cells_along c.as_mut_slice-metadata.ensures.value c.as_mut_slice-handles.ensures.value ∙ ap (λ s. s.slots) c.self.view_is in
    let room = subst (λ p. HasRoomAt (cells c.as_mut_slice-metadata.result.now c.as_mut_slice-handles.result.now) p.mark p.position) (sym c.gap.view_is) (rw start c.requires.room) in
    carry_room _ _ c.loop-there.invariant.tidy c.loop-there.invariant.state room (λ e. refused c.is_empty.result c.is_empty.ensures c.loop-there-test.true e)

-- what the next turn starts from
more : (g : Over) (c : After-after-slot g) → c.loop-there.slot < length c.loop-there.metadata
    → (let ms = set c.loop-there.metadata c.loop-there.slot c.loop-there.word in
    CarryState (cells c.as_mut_slice-metadata.result.now c.as_mut_slice-handles.result.now) (cells ms (set c.loop-there.handles c.loop-there.slot c.loop-there.handle))
    (cell (meaning c.metadata-word.result) c.args.handle)
    (cell (meaning c.one_further-word.result) c.index-handles-slot.result) (meaning (get_or ms c.after-slot.result (record { word = 0 })))
    c.gap.inside.slot c.after-slot.result c.self.inside.writes.total (c.loop-there.writes.total + 1))
more g c here =
    let l = c.loop-there.invariant in
    let ms = set c.loop-there.metadata c.loop-there.slot c.loop-there.word in
    let vs = set c.loop-there.handles c.loop-there.slot c.loop-there.handle in
    let same = (set-paired c.loop-there.metadata c.loop-there.handles c.loop-there.slot c.loop-there.word c.loop-there.handle l.pair).same in
    let len = length-set c.loop-there.metadata c.loop-there.slot c.loop-there.word in
    carry_goes _ (cells c.loop-there.metadata c.loop-there.handles) l.tidy l.state (cells ms vs) c.after-slot.result c.index-handles-slot.result _ _
    (λ e. refused c.is_empty.result c.is_empty.ensures c.loop-there-test.true e) (set-cells c.loop-there.metadata c.loop-there.handles _ _ _ l.pair.same)
    (handle_read_at c.loop-there.metadata c.loop-there.handles c.loop-there.slot c.index-handles-slot.result l.pair.same here c.index-handles-slot.is)
    c.one_further-word.ensures (c.after-slot.ensures.after ∙ ap (λ m. (c.loop-there.slot + 1) % m) (omega (arith, l.mask, len, length-cells ms vs same)))
    (mark_read_or ms vs c.after-slot.result (record { word = 0 }) same (omega (arith, c.after-slot.ensures.within, l.mask, len)))

pub loop-there-smaller : goal.loop-there-smaller
loop-there-smaller g c = let before = goal.at.loop-there-smaller g c in grind (arith, run_nearer, more g before.After-after-slot (within g before.In-loop-there))

pub loop-there-preserved : goal.loop-there-preserved
loop-there-preserved g c =
    let before = goal.at.loop-there-preserved g c in
    let pair = set-paired c.loop-there.metadata c.loop-there.handles c.loop-there.slot c.loop-there.word c.loop-there.handle c.loop-there.invariant.pair in
    grind (arith, pair, length-set c.loop-there.metadata c.loop-there.slot c.loop-there.word, more g before.After-after-slot (within g before.In-loop-there))

pub invariant_of-self : goal.invariant_of-self
invariant_of-self g c =
    let l = c.loop-there.invariant in
    let pair = set-paired c.loop-there.metadata c.loop-there.handles c.loop-there.slot c.loop-there.word c.loop-there.handle l.pair in
    grind (arith, pair, l.mask, kept_whole, length-set c.loop-there.metadata c.loop-there.slot c.loop-there.word)

pub returns-clause-puts : goal.returns-clause-puts
returns-clause-puts g c =
    let l = c.loop-there.invariant in
    let written = set-cells c.loop-there.metadata c.loop-there.handles c.loop-there.slot c.loop-there.word c.loop-there.handle l.pair.same in
    let new = cells (set c.loop-there.metadata c.loop-there.slot c.loop-there.word) (set c.loop-there.handles c.loop-there.slot c.loop-there.handle) in
    let puts : PutsAt (cells c.as_mut_slice-metadata.result.now c.as_mut_slice-handles.result.now) new c.args.gap.now.mark c.args.gap.now.position c.args.handle c.self.inside.writes.total
    c.tick-2.new.self.total = record {
      opens = λ h n f come is.
          let first = ap (λ m. cell m c.args.handle) (c.metadata-word.ensures ∙ ap (λ p. p.mark) c.gap.view_is ∙ is) in
          let ended = carry_ends _ (cells c.loop-there.metadata c.loop-there.handles) l.tidy l.state new (c.is_empty.ensures.0 c.loop-there-test.false) written h n (f, c.args.handle)
          (subst (λ p. HasCome (cells c.as_mut_slice-metadata.result.now c.as_mut_slice-handles.result.now) h n p.position) (sym c.gap.view_is) come) first in
          (ended.0, ended.1, ended.2, omega (arith, ended.3, c.tick-2.ensures.ticked));
      len = ap length written ∙ length-set (cells c.loop-there.metadata c.loop-there.handles) c.loop-there.slot (cell (meaning c.loop-there.word) c.loop-there.handle) ∙ l.state.len;
    } in
    puts_at_along puts (cells_along c.as_mut_slice-metadata.ensures.value c.as_mut_slice-handles.ensures.value ∙ ap (λ s. s.slots) c.self.view_is)
    (cells_back _ c.self.inside.metadata.items _ c.self.inside.handles.items _ _ (grind (arith, length-set)) (grind (arith, length-set))) (ap (λ s. s.writes) c.self.view_is)
