use Rattle.std.proofs.Common.{◌%◌}
use Rattle.clock2q_directory.specs.Index.{slots}
use Rattle.clock2q_directory.proofs.Indexes.{candidates_there}
use Rattle.tests_queues.proofs.Residents.{asked_resident, looked_resident, is-resident}
use Rattle.tests_queues.proofs.beside.look.Goals as goal

pub slot_of-slot-requires : goal.slot_of-slot-requires
slot_of-slot-requires g c =
    let d = c.args.directory.now in
    record { made = candidates_there (slots d.history.places.index) d.residents.entries _ (c.args.key % c.args.hashes) c.requires.resident.taken.indexed }

pub find_resident-again-requires : goal.find_resident-again-requires
find_resident-again-requires g c =
    let d = c.args.directory.now in
    record { made = candidates_there (slots d.history.places.index) d.residents.entries _ (c.args.key % c.args.hashes) c.requires.resident.taken.indexed }

pub key_equals-requires : goal.key_equals-requires
key_equals-requires g c =
    let e = c.find_resident-again.ensures in
    record { made = (is-resident (looked_resident (c.args.key % c.args.hashes) c.requires.resident e.kept e.counted)).made }

pub returns : goal.returns
returns g c =
    let e = c.find_resident-again.ensures in
    let n = c.key_equals.ensures in
    record { resident = asked_resident (looked_resident (c.args.key % c.args.hashes) c.requires.resident e.kept e.counted) n.kept n.counted }
