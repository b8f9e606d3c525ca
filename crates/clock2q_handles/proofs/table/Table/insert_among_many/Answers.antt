use Rattle.std.proofs.Common.{◌-◌, arith}
use Rattle.clock2q_handles.proofs.shifts.Calls.{end_of, put_in, putting, refusing}
use Rattle.clock2q_handles.proofs.shifts.Insertions.{end_within, inserted}
use Rattle.clock2q_handles.proofs.table.Table.insert_among_many.Goals as goal

pub has_room-requires : goal.has_room-requires
has_room-requires g c =
    record { tidy = c.self.invariant.tidy; within = end_within c.self.invariant (end_of c.self.invariant c.self.view_is c.requires.room c.requires.ends) }

pub put_at-requires : goal.put_at-requires
put_at-requires g c = record {
  tidy = c.self.invariant.tidy;
  within = end_within c.self.invariant (end_of c.self.invariant c.self.view_is c.requires.room c.requires.ends);
  room = rw c.if-not-has_room.false at c.has_room.ensures.room;
}

pub returns-then-not-has_room : goal.returns-then-not-has_room
returns-then-not-has_room g c =
    refusing c.self.invariant c.self.view_is g.H.PartialEq.eq c.args.handle (end_of c.self.invariant c.self.view_is c.requires.room c.requires.ends)
    (rw c.if-not-has_room.true at c.has_room.ensures.far) c.has_room.ensures.counted

pub invariant_of-self-2 : goal.invariant_of-self-2
invariant_of-self-2 g c =
    let end = end_of c.self.invariant c.self.view_is c.requires.room c.requires.ends in
    (inserted c.self.invariant end (rw c.if-not-has_room.false at c.has_room.ensures.room) c.put_at.ensures.puts).table

pub returns : goal.returns
returns g c =
    let end = end_of c.self.invariant c.self.view_is c.requires.room c.requires.ends in
    let room = rw c.if-not-has_room.false at c.has_room.ensures.room in
    put_in g.H.PartialEq.eq (λ few. omega (arith, few, c.requires.many)) (putting c.self.invariant c.self.view_is g.H.PartialEq.eq end room c.put_at.ensures.puts
    (g.met.H.Eq.laws.refl c.args.handle) c.put_at.new.reads.total (c.has_room.new.reads.total - c.self.inside.reads.total) (omega (arith, c.put_at.ensures.reads, c.has_room.ensures.counted)))
