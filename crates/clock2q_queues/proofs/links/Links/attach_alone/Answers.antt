use Rattle.clock2q_queues.proofs.Names.{false, refl, sym, ap, arith, Record, CellsState}
use Rattle.clock2q_queues.proofs.Flagged.{bit_set, record_written}
use Rattle.clock2q_queues.proofs.links.Links.attach_alone.Goals as goal

pub write-requires : goal.write-requires
write-requires g c = record { slot_in = rw (c.self.invariant.as_many) (rw (← c.self.view_is) at c.requires.slot_in); next = rw (c.self.invariant.together) (rw (← c.self.view_is) at c.requires.next) }

pub invariant_of-self : goal.invariant_of-self
invariant_of-self g c =
    let made = c.write-2.ensures.made in
    record_written _ _ c.self.invariant c.write.ensures.flags c.write-2.new.self _ (rw (← c.self.view_is) at c.requires.slot_in) (sym c.requires.linked)
    (ap (λ (z : CellsState Record). z.items) c.write-2.ensures.written) (omega (arith, made)) (omega (arith, made)) (omega (arith, made, c.write.ensures.made, c.self.invariant.together))

pub returns-clause-cleared : goal.returns-clause-cleared
returns-clause-cleared g c =
    let i = c.self.inside in
    rw (← c.self.view_is) (bit_set _ _ c.self.invariant c.write.ensures.flags i.window i.inspections.total false (rw (← c.self.view_is) at c.requires.slot_in) refl)
