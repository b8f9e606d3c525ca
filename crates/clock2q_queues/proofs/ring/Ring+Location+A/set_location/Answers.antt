use Rattle.clock2q_queues.proofs.Names.{refl, arith, Record, record_of}
use Rattle.clock2q_queues.proofs.AllRecords.{ring-changed}
use Rattle.clock2q_queues.proofs.ring.Ring+Location+A.set_location.Goals as goal

pub returns : goal.returns
returns g c =
    let i = c.self.inside in
    ring-changed (record_of (λ l. l)) i.entries.items i.places c.args.slot i.accesses.total c.tick-2.new.self.total c.index_mut.result.now _ (λ (r : Record). record r { held = c.args.location })
    c.args.self.now c.self.view_is c.requires c.index_mut.ensures.value refl (omega (arith, c.tick.ensures.ticked, c.tick-2.ensures.ticked))
