use Rattle.clock2q_directory.proofs.Names.{arith}
use Rattle.clock2q_directory.proofs.Growing.{slots-start, slots-room, slots-added, slots-passed, slots-all}
use Rattle.clock2q_directory.proofs.index.growth.add_slots.Goals.{then-has_slot, else-has_slot}
use Rattle.clock2q_directory.proofs.index.growth.add_slots.Goals as goal

pub loop-slot-init : goal.loop-slot-init
loop-slot-init g c = slots-start _ _ _ c.requires.empty

pub add_slot-requires-clause-room : goal.add_slot-requires-clause-room
add_slot-requires-clause-room g c =
    slots-room _ _ _ c.loop-slot.invariant (omega (arith, c.loop-slot-test.true, c.len-slot-end.ensures.len)) c.requires.room c.requires.few

pub loop-slot-preserved : goal.loop-slot-preserved
loop-slot-preserved g c = elim c.if-has_slot.branch [
  | then-has_slot w ↦
      let room = slots-room _ _ _ c.loop-slot.invariant (omega (arith, c.loop-slot-test.true, c.len-slot-end.ensures.len)) c.requires.room c.requires.few in
      rw (w.index-is, w.add_slot.ensures.entered)
      (slots-added _ _ _ c.loop-slot.invariant room (omega (arith, c.loop-slot-test.true, c.len-slot-end.ensures.len, c.requires.few)) c.hash-hash.ensures.hash c.has_slot.ensures.has
      w.if-has_slot.true)
  | else-has_slot w ↦ rw w.index-is (slots-passed _ _ _ c.loop-slot.invariant c.hash-hash.ensures.hash c.has_slot.ensures.has w.if-has_slot.false)
]

pub returns : goal.returns
returns g c = record { added = slots-all _ _ _ c.loop-slot.invariant (omega (arith, c.loop-slot-test.false, c.loop-slot.auto.slot-end, c.len-slot-end.ensures.len)) }
