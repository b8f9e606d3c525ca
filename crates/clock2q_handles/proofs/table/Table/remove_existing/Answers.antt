use Rattle.clock2q_handles.proofs.shifts.Calls.{gone, taking}
use Rattle.clock2q_handles.proofs.shifts.Taking.{found_occupied}
use Rattle.clock2q_handles.proofs.table.Table.remove_existing.Goals as goal

pub take_out-requires-clause-occupied : goal.take_out-requires-clause-occupied
take_out-requires-clause-occupied g c = found_occupied c.find_existing-held.ensures.found

pub invariant_of-self : goal.invariant_of-self
invariant_of-self g c = (gone c.self.invariant c.self.view_is g.H.PartialEq.eq c.find_existing-held.ensures.found c.take_out.ensures.taken).table

pub returns : goal.returns
returns g c =
    let done =
    taking c.self.invariant c.self.view_is g.H.PartialEq.eq c.find_existing-held.ensures.found c.take_out.ensures.taken
    c.find_existing-held.new.reads.total c.find_existing-held.ensures.reads c.take_out.ensures.reads in
    record { removed = done.removed; writes = done.writes; reads = done.reads; laid = done.laid; shorter = done.shorter }
