use Rattle.std.proofs.Common.{false, refl}
use Rattle.clock2q_queues.proofs.AllRecords.{linked_within}
use Rattle.clock2q_queues.proofs.Flagged.{bit_set, flag_linked, flags_changed}
use Rattle.clock2q_queues.proofs.links.Links.inspect.Goals as goal

pub inspect-requires : goal.inspect-requires
inspect-requires g c = flag_linked c.self.invariant c.args.slot (rw (← c.self.view_is) at c.requires)

pub invariant_of-self : goal.invariant_of-self
invariant_of-self g c = flags_changed _ _ c.self.invariant c.inspect.ensures.flags (rw (← c.self.view_is) at c.requires) refl c.inspect.ensures.made

pub returns-clause-bits : goal.returns-clause-bits
returns-clause-bits g c =
    let i = c.self.inside in
    let within = linked_within i.ring.cells.items c.args.slot (rw (← c.self.view_is) at c.requires) in
    rw (← c.self.view_is) (bit_set _ _ c.self.invariant c.inspect.ensures.flags i.window i.inspections.total false within refl).bits
