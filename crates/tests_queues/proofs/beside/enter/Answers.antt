use Rattle.std.proofs.Common.{ℕ, ◌%◌, refl, ap, arith}
use Rattle.clock2q_directory.specs.Keys.{KeyPlaces}
use Rattle.clock2q_directory.specs.History.{Remembered}
use Rattle.tests_queues.proofs.Residents.{fits, entered-resident}
use Rattle.tests_queues.proofs.beside.enter.Goals as goal

pub enter-requires : goal.enter-requires
enter-requires g c =
    let k = c.requires.alone in
    record { vacant = record { next = omega arith; had = tt; room = k.writable; few = k.short; below = omega arith; index_room = fits k }; gap = c.requires.gap }

pub returns-clause-resident : goal.returns-clause-resident
returns-clause-resident g c =
    entered-resident c.requires.alone (c.args.key % c.args.hashes) c.args.key _ c.args.directory.now.history.places.index c.enter.new.self.history c.enter.new.self.residents
    c.enter.ensures.entries.becomes (ap (λ (z : KeyPlaces ℕ (Unit {0})). z.room) c.enter.ensures.kept) c.enter.ensures.index refl

pub returns-clause-remembered : goal.returns-clause-remembered
returns-clause-remembered g c = ap (λ (z : Remembered ℕ). z.entries) c.enter.ensures.index
