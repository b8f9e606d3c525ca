use Rattle.clock2q_directory.proofs.Names.{◌<◌, refl, arith}
use Rattle.clock2q_directory.proofs.Sorted.{room_some, sorted-made}
use Rattle.clock2q_directory.proofs.index.Index.new.Goals.{then-is_shared, else-is_shared}
use Rattle.clock2q_directory.proofs.index.Index.new.Goals as goal

pub invariant_of-result : goal.invariant_of-result
invariant_of-result g c =
    let most : 0 < c.if-is_shared.most = elim c.if-is_shared.branch [
      | then-is_shared w ↦ omega (arith, w.most-is)
      | else-is_shared w ↦ omega (arith, w.most-is)
    ] in
    let some : 0 < c.index_room.result = rw c.index_room.ensures.room (room_some c.if-is_shared.most most) in
    rw (c.in-Ok.ensures.made, c.in-Ok-with_capacity.ensures.made) (record {
      sorted = sorted-made c.index_room.result c.index_room-2.result some;
      shared_laid = refl;
      own_laid = refl;
      counted = omega arith;
    })
