use Rattle.clock2q_directory.proofs.Names.{arith}
use Rattle.clock2q_directory.proofs.Growing.{places-start, places-room, places-added, places-passed, places-all}
use Rattle.clock2q_directory.proofs.index.growth.add_places.Goals.{then-has_place, else-has_place}
use Rattle.clock2q_directory.proofs.index.growth.add_places.Goals as goal

pub loop-place-init : goal.loop-place-init
loop-place-init g c = places-start _ _ _ c.requires.empty

pub add_place-requires-clause-room : goal.add_place-requires-clause-room
add_place-requires-clause-room g c =
    places-room _ _ _ c.loop-place.invariant (omega (arith, c.loop-place-test.true, c.len-place-end.ensures.len)) c.requires.alone c.requires.room c.requires.few

pub loop-place-preserved : goal.loop-place-preserved
loop-place-preserved g c = elim c.if-has_place.branch [
  | then-has_place w ↦
      let room = places-room _ _ _ c.loop-place.invariant (omega (arith, c.loop-place-test.true, c.len-place-end.ensures.len)) c.requires.alone c.requires.room c.requires.few in
      rw (w.index-is, w.add_place.ensures.entered)
      (places-added _ _ _ c.loop-place.invariant room c.hash-hash.ensures.hash c.has_place.ensures.has w.if-has_place.true)
  | else-has_place w ↦ rw w.index-is (places-passed _ _ _ c.loop-place.invariant c.hash-hash.ensures.hash c.has_place.ensures.has w.if-has_place.false)
]

pub returns : goal.returns
returns g c = record { added = places-all _ _ _ c.loop-place.invariant (omega (arith, c.loop-place-test.false, c.loop-place.auto.place-end, c.len-place-end.ensures.len)) }
