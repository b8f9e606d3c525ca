use Rattle.std.proofs.Common.{sym, arith}
use Rattle.clock2q_handles.proofs.shifts.Calls.{gone, taking}
use Rattle.clock2q_handles.proofs.table.Table.remove.Goals as goal

pub overflow_sub-self : goal.overflow_sub-self
overflow_sub-self g c = omega (arith, (gone c.self.invariant c.self.view_is g.H.PartialEq.eq c.in-Some.ensures.found c.take_out.ensures.taken).total_less)

pub invariant_of-self-2 : goal.invariant_of-self-2
invariant_of-self-2 g c = (gone c.self.invariant c.self.view_is g.H.PartialEq.eq c.in-Some.ensures.found c.take_out.ensures.taken).table

pub returns : goal.returns
returns g c =
    let done = taking c.self.invariant c.self.view_is g.H.PartialEq.eq c.in-Some.ensures.found c.take_out.ensures.taken c.find.new.reads.total c.find.ensures.reads c.take_out.ensures.reads in
    record { removed = done.removed; found = sym done.held; none = tt; writes = done.writes; reads = done.reads; laid = done.laid; shorter = done.shorter }
