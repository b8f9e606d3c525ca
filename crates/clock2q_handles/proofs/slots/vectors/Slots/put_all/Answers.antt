use Rattle.std.proofs.Common.{◌<◌, length, arith}
use Rattle.clock2q_handles.proofs.shifts.Moves.{occupied_of_meaning, vacant_of_meaning}
use Rattle.clock2q_handles.proofs.rebuild.Rebuilds.{Holds, moving_begins, moving_past, moving_takes, moving_room, moving_some, moving_on, moving_ends}
use Rattle.clock2q_handles.proofs.slots.vectors.Slots.put_all.Given.{Over}
use Rattle.clock2q_handles.proofs.slots.vectors.Slots.put_all.Goals as goal
use Rattle.clock2q_handles.proofs.slots.vectors.Slots.put_all.Goals.{After-handle-handle}

pub loop-slot-init : goal.loop-slot-init
loop-slot-init g c = record { moved = moving_begins g.F.FnMut c.requires.movable; counted = omega arith }

-- the entry there
holds : (g : Over) (c : After-handle-handle g) → (c.loop-slot.slot < length c.args.old.now.slots) × Holds c.args.old.now.slots c.loop-slot.slot c.handle-handle.result
holds g c =
    let occupied = occupied_of_meaning c.is_empty.result _ _ c.is_empty.ensures c.if-is_empty.false (rw c.view-view.ensures at c.read.ensures.meaning) in
    let handle = rw c.view-view.ensures at c.handle-handle.ensures.handle in
    (omega (arith, c.count-slot-end.ensures.count), record { occupied = occupied; handle = handle })

pub loop-slot-preserved-then-is_empty : goal.loop-slot-preserved-then-is_empty
loop-slot-preserved-then-is_empty g c =
    let vacant = vacant_of_meaning _ _ (c.is_empty.ensures.0 c.if-is_empty.true) (rw c.view-view.ensures at c.read.ensures.meaning) in
    let moved = moving_past g.F.FnMut c.requires.movable c.loop-slot.invariant.moved (omega (arith, c.count-slot-end.ensures.count)) vacant in
    record { moved = moved; counted = omega arith }

pub rehash-hash-requires : goal.rehash-hash-requires
rehash-hash-requires g c =
    let here = holds g (goal.at.rehash-hash-requires g c).After-handle-handle in moving_takes g.F.FnMut c.requires.movable c.loop-slot.invariant.moved here.0 here.1

pub gap-gap-requires-clause-some : goal.gap-gap-requires-clause-some
gap-gap-requires-clause-some g c =
    let here = holds g (goal.at.gap-gap-requires-clause-some g c).After-handle-handle in
    moving_some g.F.FnMut c.requires.movable c.loop-slot.invariant.moved here.0 here.1 c.rehash-hash.ensures

pub put_at-requires-clause-room : goal.put_at-requires-clause-room
put_at-requires-clause-room g c =
    let here = holds g (goal.at.put_at-requires-clause-room g c).After-handle-handle in
    moving_room g.F.FnMut c.requires.movable c.loop-slot.invariant.moved here.0 here.1 c.rehash-hash.ensures c.gap-gap.ensures.ends

pub loop-slot-preserved : goal.loop-slot-preserved
loop-slot-preserved g c =
    let here = holds g (goal.at.loop-slot-preserved g c).After-handle-handle in
    let moved = moving_on g.F.FnMut c.requires.movable c.loop-slot.invariant.moved here.0 here.1 c.rehash-hash.ensures c.gap-gap.ensures.ends c.put_at.ensures.puts in
    record { moved = moved; counted = omega (arith, c.put_at.ensures.counted) }

pub returns-clause-moved : goal.returns-clause-moved
returns-clause-moved g c =
    moving_ends g.F.FnMut c.requires.movable (omega (arith, c.loop-slot-test.false, c.loop-slot.auto.slot-end, c.count-slot-end.ensures.count)) c.loop-slot.invariant.moved
