use Rattle.clock2q_queues.proofs.Names.{◌≡◌, ◌<◌, length, map, refl, arith, length-map, record_of, vacant}
use Rattle.clock2q_queues.proofs.AllRecords.{entry-made, entry-written, length-all}
use Rattle.clock2q_queues.proofs.ring.Ring.write.Goals as goal

pub returns-then-place-len-clause-written : goal.returns-then-place-len-clause-written
returns-then-place-len-clause-written g c = grind (arith, entry-written, length-map, c.tick.ensures.ticked, c.self.view_is)

pub returns-else-place-len-clause-written : goal.returns-else-place-len-clause-written
returns-else-place-len-clause-written g c =
    let i = c.self.inside in
    let es = i.entries.items in
    let of = record_of g.T.Held.location_of in
    let place_in = rw (← c.self.view_is) at c.requires.place_in in
    let next = rw (← c.self.view_is) at c.requires.next in
    let within : c.args.place < i.places = omega (arith, place_in, length-map es of, length-all vacant (map of es) i.places (omega (arith, length-map es of, c.self.invariant.0))) in
    let is : c.args.place ≡ length es = omega (arith, next, length-map es of) in
    rw (← c.self.view_is, c.push_reserved.ensures.items, c.tick.ensures.ticked) (rw (entry-made of es i.places c.args.place c.args.entry is within) refl)
