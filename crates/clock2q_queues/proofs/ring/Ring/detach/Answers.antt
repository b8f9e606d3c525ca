use Rattle.clock2q_queues.proofs.Names.{ap, arith, length-set, Record}
use Rattle.clock2q_queues.proofs.Attaching.{detaches}
use Rattle.clock2q_queues.proofs.ring.Ring.detach.Goals as goal

pub write-requires : goal.write-requires
write-requires g c = grind (arith, length-set, c.requires.place_in, c.read-was.ensures, c.set_next.ensures, c.set_previous.ensures)

pub returns-clause-detached : goal.returns-clause-detached
returns-clause-detached g c =
    let now = c.args.self.now in
    let rs = now.cells.items in
    let place = c.args.place in
    let within = c.read-was.ensures.within in
    let next = ap (λ (r : Record). r.next) c.read-was.ensures.value in
    let previous = ap (λ (r : Record). r.previous) c.read-was.ensures.value in
    rw (c.write.ensures.written, c.VACANT.ensures, g.T.Held.vacant, c.set_previous.ensures, c.set_next.ensures, next, previous, c.read-was.ensures.counted)
    (detaches rs now.cells.accesses _ place
    (omega (arith, within, c.requires.place_in)) (omega (arith, within, c.requires.next_in)) (omega (arith, within, c.requires.previous_in)) (omega (arith, c.requires.place_in)))
