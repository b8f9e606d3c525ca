use Rattle.clock2q_queues.proofs.Names.{false, refl, sym, ap, ◌∙◌, arith, RingState}
use Rattle.clock2q_queues.proofs.AllRecords.{linked_within}
use Rattle.clock2q_queues.proofs.Flagged.{bit_set, flag_linked, record_written}
use Rattle.clock2q_queues.proofs.links.Links.relocate.Goals as goal

pub set-requires : goal.set-requires
set-requires g c = flag_linked c.self.invariant c.args.slot (rw (← c.self.view_is) at c.requires.slot_in)

pub set_location-requires : goal.set_location-requires
set_location-requires g c = c.self.invariant.made c.args.slot (rw (← c.self.view_is) at c.requires.slot_in)

pub invariant_of-self : goal.invariant_of-self
invariant_of-self g c =
    let made = ap (λ (z : RingState). z.made) c.set_location.ensures in
    record_written _ _ c.self.invariant c.set.ensures.flags c.set_location.new.self _ (linked_within c.self.inside.ring.cells.items c.args.slot (rw (← c.self.view_is) at c.requires.slot_in)) (sym c.requires.linked)
    (ap (λ (z : RingState). z.cells.items) c.set_location.ensures) (omega (arith, made)) (rw made (c.self.invariant.made c.args.slot (rw (← c.self.view_is) at c.requires.slot_in))) (c.set.ensures.made ∙ c.self.invariant.together ∙ sym made)

pub returns-clause-cleared : goal.returns-clause-cleared
returns-clause-cleared g c =
    let i = c.self.inside in
    let within = linked_within i.ring.cells.items c.args.slot (rw (← c.self.view_is) at c.requires.slot_in) in
    rw (← c.self.view_is, c.set_location.ensures) (bit_set _ _ c.self.invariant c.set.ensures.flags i.window i.inspections.total false within refl)
