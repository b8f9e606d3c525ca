use Rattle.clock2q_queues.proofs.Names.{ap, arith, Record}
use Rattle.clock2q_queues.proofs.Attaching.{attaches}
use Rattle.clock2q_queues.proofs.ring.Ring.attach.Goals as goal

pub returns-clause-attached : goal.returns-clause-attached
returns-clause-attached g c =
    let now = c.args.self.now in
    let within = c.read-previous.ensures.within in
    rw (c.set_previous.ensures, c.set_next.ensures, c.write.ensures.written, ap (λ (r : Record). r.previous) c.read-previous.ensures.value, c.read-previous.ensures.counted)
    (attaches now.cells.items now.cells.accesses _ c.args.place c.args.before (g.T.Held.location_of c.args.held) c.requires.place_in
    (omega (arith, within, c.requires.before_in)) (omega (arith, within, c.requires.previous_in)) (omega arith))
