-- A full cache has an entry in Small, if Small has a share.
use Rattle.clock2q_cache.proofs.Names.{sym, ap, arith, is_main}
use Rattle.clock2q_cache.proofs.Changed.{small-some}
use Rattle.clock2q_cache.proofs.Queued.{joins, room-main, room-small, room-leaver, promotes-tail, evicts-tail}
use Rattle.clock2q_cache.proofs.cache.Cache.insert_unknown.Goals as goal

pub join-requires-clause-main : goal.join-requires-clause-main
join-requires-clause-main g c main = room-main (is_main c.args.admission) c.args.self.now.machine (sym c.if-has_room.ensures.room) c.has_room.ensures.whole main

pub join-requires-clause-small : goal.join-requires-clause-small
join-requires-clause-small g c small = room-small (is_main c.args.admission) c.args.self.now.machine (sym c.if-has_room.ensures.room) (c.requires.small small) small

pub returns-then-has_room-clause-entered : goal.returns-then-has_room-clause-entered
returns-then-has_room-clause-entered g c = joins (is_main c.args.admission) (sym c.if-has_room.ensures.room) c.join.ensures.entered

pub returns-then-has_room-clause-left : goal.returns-then-has_room-clause-left
returns-then-has_room-clause-left g c = record { noted = room-leaver (is_main c.args.admission) c.args.self.now.machine (sym c.if-has_room.ensures.room) }

pub tail_is_promoted-requires : goal.tail_is_promoted-requires
tail_is_promoted-requires g c = small-some _ c.args.self.now.machine c.has_room.ensures.whole (rw c.in-Small.is at (sym c.if-has_room.ensures.room)) (c.requires.small (ap is_main c.in-Small.is))

pub promote_tail-requires-clause-some : goal.promote_tail-requires-clause-some
promote_tail-requires-clause-some g c =
    grind (arith, c.tail_is_promoted.ensures.machine, small-some, c.has_room.ensures.whole, (rw c.in-Small.is at (sym c.if-has_room.ensures.room)), c.requires.small, (ap is_main c.in-Small.is))

pub replace_tail-requires-clause-some : goal.replace_tail-requires-clause-some
replace_tail-requires-clause-some g c =
    grind (arith, c.tail_is_promoted.ensures.machine, small-some, c.has_room.ensures.whole, (rw c.in-Small.is at (sym c.if-has_room.ensures.room)), c.requires.small, (ap is_main c.in-Small.is))

pub returns-then-tail_is_promoted-clause-entered : goal.returns-then-tail_is_promoted-clause-entered
returns-then-tail_is_promoted-clause-entered g c =
    let full = rw c.in-Small.is at (sym c.if-has_room.ensures.room) in
    let some = small-some _ c.args.self.now.machine c.has_room.ensures.whole full (c.requires.small (ap is_main c.in-Small.is)) in
    rw c.in-Small.is (promotes-tail full some c.tail_is_promoted.ensures.kept c.tail_is_promoted.ensures.counts c.if-tail_is_promoted.ensures.value c.promote_tail.ensures.entered)

pub returns-else-tail_is_promoted-clause-entered : goal.returns-else-tail_is_promoted-clause-entered
returns-else-tail_is_promoted-clause-entered g c =
    let full = rw c.in-Small.is at (sym c.if-has_room.ensures.room) in
    let some = small-some _ c.args.self.now.machine c.has_room.ensures.whole full (c.requires.small (ap is_main c.in-Small.is)) in
    rw c.in-Small.is (evicts-tail full some c.tail_is_promoted.ensures.kept c.tail_is_promoted.ensures.counts c.if-tail_is_promoted.ensures.value c.replace_tail.ensures.entered)

pub returns-then-tail_is_promoted-clause-left : goal.returns-then-tail_is_promoted-clause-left
returns-then-tail_is_promoted-clause-left g c = rw c.in-Small.is (rw c.tail_is_promoted.ensures.machine at c.promote_tail.ensures.left)

pub returns-else-tail_is_promoted-clause-left : goal.returns-else-tail_is_promoted-clause-left
returns-else-tail_is_promoted-clause-left g c = rw c.in-Small.is (rw c.tail_is_promoted.ensures.machine at c.replace_tail.ensures.left)
