use Rattle.std.proofs.Common.{ℕ, ◌%◌, sym, ap, subst}
use Rattle.clock2q_directory.specs.Index.{slots, IsGapFor}
use Rattle.clock2q_directory.specs.Keys.{KeyPlaces}
use Rattle.clock2q_directory.specs.History.{found_gap}
use Rattle.clock2q_directory.proofs.Hashed.{has_hash}
use Rattle.clock2q_directory.proofs.Indexes.{candidates_there}
use Rattle.tests_queues.specs.Beside.{nobody}
use Rattle.tests_queues.proofs.Gaps.{gap-kept}
use Rattle.tests_queues.proofs.Residents.{kept_resident, is-resident, within-room, renewed-resident}
use Rattle.tests_queues.proofs.beside.replace.Goals as goal

pub lookup-requires : goal.lookup-requires
lookup-requires g c =
    let k = c.requires.resident.taken in
    let d = c.args.directory.now in
    record {
      hash = has_hash nobody c.args.hashes d.history.entries k.hashed;
      made = candidates_there (slots d.history.places.index) d.residents.entries _ (nobody % c.args.hashes) k.indexed;
    }

pub replace-requires : goal.replace-requires
replace-requires g c =
    let f = c.lookup.ensures in
    let k = kept_resident (nobody % c.args.hashes) c.requires.resident f.kept f.residents in
    record {
      resident = is-resident k;
      gap = subst (λ o. IsGapFor o (nobody % c.args.hashes) c.lookup.new.self.history.places.index) (sym c.gap-gap.ensures.gap) (gap-kept (found_gap c.lookup.result) (nobody % c.args.hashes) c.args.directory.now.history c.lookup.new.self.history f.gap f.kept);
      room = within-room k;
    }

pub returns : goal.returns
returns g c =
    let f = c.lookup.ensures in
    let r = c.replace.ensures in
    let k = kept_resident (nobody % c.args.hashes) c.requires.resident f.kept f.residents in
    record { resident = renewed-resident _ k r.hash r.index r.entries (ap (λ (z : KeyPlaces ℕ (Unit {0})). z.room) r.kept) }
