use Rattle.std.proofs.Common.{refl, arith}
use Rattle.clock2q_handles.proofs.shifts.Calls.{end_of, put_in, putting}
use Rattle.clock2q_handles.proofs.shifts.Insertions.{few_room, inserted}
use Rattle.clock2q_handles.proofs.table.Table.insert_at.Goals as goal

pub put_at-requires-clause-room : goal.put_at-requires-clause-room
put_at-requires-clause-room g c = few_room c.self.invariant (end_of c.self.invariant c.self.view_is c.requires.room c.requires.ends) c.if-self-gt-MAX_DISPLACEMENT.false

pub invariant_of-self : goal.invariant_of-self
invariant_of-self g c =
    let end = end_of c.self.invariant c.self.view_is c.requires.room c.requires.ends in
    (inserted c.self.invariant end (few_room c.self.invariant end c.if-self-gt-MAX_DISPLACEMENT.false) c.put_at.ensures.puts).table

pub returns : goal.returns
returns g c =
    let end = end_of c.self.invariant c.self.view_is c.requires.room c.requires.ends in
    put_in g.H.PartialEq.eq (λ _. refl) (putting c.self.invariant c.self.view_is g.H.PartialEq.eq end (few_room c.self.invariant end c.if-self-gt-MAX_DISPLACEMENT.false) c.put_at.ensures.puts
    (g.met.H.Eq.laws.refl c.args.handle) c.put_at.new.reads.total 0 (omega (arith, c.put_at.ensures.reads)))
