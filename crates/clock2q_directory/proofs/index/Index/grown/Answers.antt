use Rattle.clock2q_directory.proofs.Names.{arith}
use Rattle.clock2q_directory.proofs.Larger.{new-slots, new-places, new-sizes, room-places, room-slots, sizes-chained, outgrows}
use Rattle.clock2q_directory.proofs.index.Index.grown.Goals as goal

pub add_places-requires-clause-empty : goal.add_places-requires-clause-empty
add_places-requires-clause-empty g c =
    let r = c.requires in
    new-places c.args.slots c.args.places r.some r.slots r.places c.args.keys.1.now.entries (rw c.in_ok-index.ensures.made at c.charge_as.ensures.charged)

pub add_places-requires-clause-alone : goal.add_places-requires-clause-alone
add_places-requires-clause-alone g c =
    let r = c.requires in
    (new-slots c.args.slots c.args.places r.some r.slots r.places c.args.keys.0.now.entries (rw c.in_ok-index.ensures.made at c.charge_as.ensures.charged)).counted

pub add_places-requires-clause-room : goal.add_places-requires-clause-room
add_places-requires-clause-room g c =
    let r = c.requires in
    let sizes = new-sizes c.args.slots c.args.places _ (rw c.in_ok-index.ensures.made at c.charge_as.ensures.charged) in
    room-places c.args.slots c.args.places r.some r.slots r.places sizes _ r.remembered

pub add_slots-requires : goal.add_slots-requires
add_slots-requires g c =
    let r = c.requires in
    let is = rw c.in_ok-index.ensures.made at c.charge_as.ensures.charged in
    let sizes = sizes-chained (new-sizes c.args.slots c.args.places _ is) c.add_places.ensures.added.sizes in
    let empty = new-slots c.args.slots c.args.places r.some r.slots r.places c.args.keys.0.now.entries is in
    let room = room-slots c.args.slots c.args.places r.some r.slots r.places sizes _ r.residents (omega (arith, c.add_places.ensures.added.few, r.remembered)) in
    record { empty = rw c.add_places.ensures.added.others empty; room = room.0; few = room.1 }

pub returns : goal.returns
returns g c = record { grown = outgrows c.args.slots c.args.places _ (rw c.in_ok-index.ensures.made at c.charge_as.ensures.charged) c.add_places.ensures.added c.add_slots.ensures.added }
