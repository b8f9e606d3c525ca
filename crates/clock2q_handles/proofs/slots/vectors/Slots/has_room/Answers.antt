use Rattle.std.proofs.Common.{◌<◌, ◌-◌, length, arith}
use Rattle.std.proofs.lemmas.Bool.{cases_lt}
use Rattle.clock2q_handles.specs.Layout.{slot_at}
use Rattle.clock2q_handles.specs.Slots.{meaning}
use Rattle.clock2q_handles.proofs.layout.Periods.{lap}
use Rattle.clock2q_handles.proofs.shifts.Moves.{refused, occupied_of_meaning, vacant_of_meaning, reach_of_meaning}
use Rattle.clock2q_handles.proofs.shifts.Carrying.{IsPassing, pass_goes, pass_room, pass_far}
use Rattle.clock2q_handles.proofs.slots.vectors.Slots.has_room.Given.{Over}
use Rattle.clock2q_handles.proofs.slots.vectors.Slots.has_room.Goals.{After-after-slot}
use Rattle.clock2q_handles.proofs.slots.vectors.Slots.has_room.Goals as goal

pub returns-then-is_empty-clause-room : goal.returns-then-is_empty-clause-room
returns-then-is_empty-clause-room g c =
    pass_room c.args.self.now.slots c.args.gap.now.position c.loop-view.invariant.passing c.loop-view.invariant.own
    (vacant_of_meaning _ _ (c.is_empty.ensures.0 c.if-is_empty.true) (rw c.view-view.ensures at c.read-metadata.ensures.meaning))

pub returns-then-not-can_move_on-clause-far : goal.returns-then-not-can_move_on-clause-far
returns-then-not-can_move_on-clause-far g c =
    pass_far c.args.self.now.slots c.args.gap.now.position c.loop-view.invariant.passing c.args.gap.now.mark (grind (arith, refused, reach_of_meaning, cases_lt))

-- the entry there may move on, and the walk continues past it
on : (g : Over) (c : After-after-slot g) → IsPassing c.args.self.now.slots c.args.gap.now.position c.after-slot.result
    × (length c.args.self.now.slots - lap (length c.args.self.now.slots) c.args.gap.now.position c.after-slot.result < length c.args.self.now.slots - lap (length c.args.self.now.slots) c.args.gap.now.position c.loop-view.slot)
on g c =
    let here = reach_of_meaning (meaning c.read-metadata.result) (slot_at c.args.self.now.slots c.loop-view.slot) (rw c.view-view.ensures at c.read-metadata.ensures.meaning) in
    pass_goes c.args.self.now.slots c.args.gap.now.position c.loop-view.invariant.passing c.requires.tidy
    (occupied_of_meaning c.is_empty.result _ _ c.is_empty.ensures c.if-is_empty.false (rw c.view-view.ensures at c.read-metadata.ensures.meaning))
    (omega (arith, c.can_move_on.ensures.0 c.if-not-can_move_on.false, here)) (rw c.view-view.ensures at c.after-slot.ensures.after)

pub loop-view-smaller : goal.loop-view-smaller
loop-view-smaller g c = (on g (goal.at.loop-view-smaller g c).After-after-slot).1

pub loop-view-preserved : goal.loop-view-preserved
loop-view-preserved g c = grind (arith, on)
