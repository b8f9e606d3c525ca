use Rattle.std.proofs.Common.{refl, arith}
use Rattle.clock2q_handles.specs.Shifts.{HasRoomAt}
use Rattle.clock2q_handles.proofs.shifts.Calls.{end_of_gap, end_room, held_on, replaced_table, replacing}
use Rattle.clock2q_handles.proofs.shifts.Insertions.{IsEnd, end_within, inserted}
use Rattle.clock2q_handles.proofs.shifts.Taking.{found_occupied}
use Rattle.clock2q_handles.proofs.table.Table.replace.Given.{Over}
use Rattle.clock2q_handles.proofs.table.Table.replace.Goals.{After-self}
use Rattle.clock2q_handles.proofs.table.Table.replace.Goals as goal

-- the walk for the hash ends at the gap, where there is room
there : (g : Over) (c : After-self g) → IsEnd c.self.inside.slots.slots c.args.entry.hash c.in-Some.gap.mark c.in-Some.gap.position
    × HasRoomAt c.self.inside.slots.slots c.in-Some.gap.mark c.in-Some.gap.position
there g c =
    let spare = c.requires.spare (rw c.in-Some.is refl) in
    let end = end_of_gap c.self.invariant c.self.view_is spare.room (rw c.in-Some.is at c.requires.gap) in
    (end, end_room c.self.invariant c.self.view_is spare.few end)

pub put_at-requires : goal.put_at-requires
put_at-requires g c = let s = there g (goal.at.put_at-requires g c).After-self in record { tidy = c.self.invariant.tidy; within = end_within c.self.invariant s.0; room = s.1 }

pub find_existing-held-requires : goal.find_existing-held-requires
find_existing-held-requires g c =
    let s = there g (goal.at.find_existing-held-requires g c).After-self in
    let table = (inserted c.self.invariant s.0 s.1 c.put_at.ensures.puts).table in
    record {
      tidy = table.tidy;
      near = table.near;
      held = held_on c.self.invariant c.self.view_is g.H.PartialEq.eq s.0 s.1 c.put_at.ensures.puts c.args.old.hash c.args.old.handle c.requires.held;
    }

pub take_out-requires : goal.take_out-requires
take_out-requires g c =
    let s = there g (goal.at.take_out-requires g c).After-self in
    let found = c.find_existing-held.ensures.found in
    record { tidy = (inserted c.self.invariant s.0 s.1 c.put_at.ensures.puts).table.tidy; within = grind arith; occupied = found_occupied found }

pub invariant_of-self : goal.invariant_of-self
invariant_of-self g c =
    let s = there g (goal.at.invariant_of-self g c).After-self in
    replaced_table c.self.invariant c.self.view_is g.H.PartialEq.eq s.0 s.1 c.put_at.ensures.puts c.args.old.hash c.args.old.handle c.requires.held c.find_existing-held.ensures.found c.take_out.ensures.taken

pub returns : goal.returns
returns g c =
    let s = there g (goal.at.returns g c).After-self in
    let done =
    replacing c.self.invariant c.self.view_is g.H.PartialEq.eq s.0 s.1 c.put_at.ensures.puts c.args.old.hash c.args.old.handle c.requires.held
    c.find_existing-held.ensures.found c.take_out.ensures.taken c.in-Some.gap c.put_at.new.reads.total c.put_at.ensures.reads c.find_existing-held.ensures.reached c.take_out.ensures.reads in
    record { replaced = done.replaced; accesses = rw c.in-Some.is done.accesses; longer = done.longer; laid = done.laid }
