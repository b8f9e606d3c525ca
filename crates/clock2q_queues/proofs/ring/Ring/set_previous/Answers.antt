use Rattle.clock2q_queues.proofs.Names.{refl, arith, record_of}
use Rattle.clock2q_queues.proofs.AllRecords.{ring-changed}
use Rattle.clock2q_queues.proofs.Attaching.{previous_is}
use Rattle.clock2q_queues.proofs.ring.Ring.set_previous.Goals as goal

pub returns : goal.returns
returns g c =
    let i = c.self.inside in
    ring-changed (record_of g.T.Held.location_of) i.entries.items i.places c.args.place i.accesses.total c.tick-2.new.self.total c.index_mut.result.now _ (previous_is c.args.previous)
    c.args.self.now c.self.view_is c.requires c.index_mut.ensures.value refl (omega (arith, c.tick.ensures.ticked, c.tick-2.ensures.ticked))
