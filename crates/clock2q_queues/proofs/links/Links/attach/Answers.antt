use Rattle.clock2q_queues.proofs.Names.{false, refl, sym, previous_at}
use Rattle.clock2q_queues.proofs.Flagged.{bit_set, slot_attached}
use Rattle.clock2q_queues.proofs.links.Links.attach.Goals as goal

pub write-requires : goal.write-requires
write-requires g c = record { slot_in = rw (c.self.invariant.as_many) (rw (← c.self.view_is) at c.requires.slot_in); next = rw (c.self.invariant.together) (rw (← c.self.view_is) at c.requires.next) }

pub attach-requires : goal.attach-requires
attach-requires g c = record {
  place_in = rw (← c.self.view_is) at c.requires.slot_in;
  next = rw (← c.self.view_is) at c.requires.next;
  before_in = c.self.invariant.made c.args.before (rw (← c.self.view_is) at c.requires.before_in);
  previous_in = c.self.invariant.made (previous_at c.self.inside.ring.cells.items c.args.before) (rw (← c.self.view_is) at c.requires.previous_in);
}

pub invariant_of-self : goal.invariant_of-self
invariant_of-self g c =
    slot_attached _ _ c.self.invariant c.write.ensures.flags c.attach.new.self (rw (← c.self.view_is) at c.requires.slot_in) c.attach.ensures.attached (sym c.requires.linked) c.attach.ensures.made c.write.ensures.made

pub returns-clause-cleared : goal.returns-clause-cleared
returns-clause-cleared g c =
    let i = c.self.inside in
    rw (← c.self.view_is) (bit_set _ _ c.self.invariant c.write.ensures.flags i.window i.inspections.total false (rw (← c.self.view_is) at c.requires.slot_in) refl)
