use Rattle.clock2q_queues.proofs.Names.{false, refl, next_at, previous_at}
use Rattle.clock2q_queues.proofs.AllRecords.{linked_within}
use Rattle.clock2q_queues.proofs.Flagged.{bit_set, flag_linked, slot_detached}
use Rattle.clock2q_queues.proofs.links.Links.detach.Goals as goal

pub set-requires : goal.set-requires
set-requires g c = flag_linked c.self.invariant c.args.slot (rw (← c.self.view_is) at c.requires.slot_in)

pub detach-requires : goal.detach-requires
detach-requires g c =
    let rs = c.self.inside.ring.cells.items in
    record {
      place_in = c.self.invariant.made c.args.slot (rw (← c.self.view_is) at c.requires.slot_in);
      next_in = c.self.invariant.made (next_at rs c.args.slot) (rw (← c.self.view_is) at c.requires.next_in);
      previous_in = c.self.invariant.made (previous_at rs c.args.slot) (rw (← c.self.view_is) at c.requires.previous_in);
    }

pub invariant_of-self : goal.invariant_of-self
invariant_of-self g c =
    slot_detached _ _ c.self.invariant c.set.ensures.flags c.detach.new.self (rw (← c.self.view_is) at c.requires.slot_in) c.detach.ensures.detached refl c.detach.ensures.made c.set.ensures.made

pub returns-clause-cleared : goal.returns-clause-cleared
returns-clause-cleared g c =
    let i = c.self.inside in
    let within = linked_within i.ring.cells.items c.args.slot (rw (← c.self.view_is) at c.requires.slot_in) in
    rw (← c.self.view_is, c.detach.ensures.made) (bit_set _ _ c.self.invariant c.set.ensures.flags i.window i.inspections.total false within refl)
