use Rattle.std.proofs.Common.{ℕ, ◌%◌, sym, ap, subst}
use Rattle.clock2q_directory.specs.Index.{slots, IsGapFor}
use Rattle.clock2q_directory.specs.Keys.{KeyPlaces}
use Rattle.clock2q_directory.specs.History.{Remembered, found_gap}
use Rattle.clock2q_directory.proofs.Hashed.{has_hash}
use Rattle.clock2q_directory.proofs.Indexes.{candidates_there}
use Rattle.tests_queues.specs.Beside.{nobody}
use Rattle.tests_queues.proofs.Gaps.{gap-kept}
use Rattle.tests_queues.proofs.Residents.{kept_resident, is-resident, within-room, same_key, remembered-resident}
use Rattle.tests_queues.proofs.beside.remember.Goals as goal

pub lookup-found-requires : goal.lookup-found-requires
lookup-found-requires g c =
    let k = c.requires.resident.taken in
    let d = c.args.directory.now in
    record {
      hash = has_hash c.args.key c.args.hashes d.history.entries k.hashed;
      made = candidates_there (slots d.history.places.index) d.residents.entries _ (c.args.key % c.args.hashes) k.indexed;
    }

pub lookup-requires : goal.lookup-requires
lookup-requires g c =
    let e = c.lookup-found.ensures in
    let k = (kept_resident (c.args.key % c.args.hashes) c.requires.resident e.kept e.residents).taken in
    let d = c.lookup-found.new.self in
    record {
      hash = has_hash nobody c.args.hashes d.history.entries k.hashed;
      made = candidates_there (slots d.history.places.index) d.residents.entries _ (nobody % c.args.hashes) k.indexed;
    }

pub replace_remembering-requires : goal.replace_remembering-requires
replace_remembering-requires g c =
    let e = c.lookup-found.ensures in
    let f = c.lookup.ensures in
    let k = kept_resident (c.args.key % c.args.hashes) c.requires.resident e.kept e.residents in
    let l = kept_resident (nobody % c.args.hashes) k f.kept f.residents in
    record {
      resident = is-resident l;
      gap = subst (λ o. IsGapFor o (nobody % c.args.hashes) c.lookup.new.self.history.places.index) (sym c.gap-gap.ensures.gap) (gap-kept (found_gap c.lookup.result) (nobody % c.args.hashes) c.lookup-found.new.self.history c.lookup.new.self.history f.gap f.kept);
      room = within-room l;
      absent = λ old at. rw (same_key l at, ap (λ (z : Remembered ℕ). z.entries) f.kept, ap (λ (z : Remembered ℕ). z.entries) e.kept) c.requires.absent;
    }

pub returns : goal.returns
returns g c =
    let e = c.lookup-found.ensures in
    let f = c.lookup.ensures in
    let r = c.replace_remembering.ensures in
    let k = kept_resident (c.args.key % c.args.hashes) c.requires.resident e.kept e.residents in
    record { resident = remembered-resident (kept_resident (nobody % c.args.hashes) k f.kept f.residents) r.index r.entries (ap (λ (z : KeyPlaces ℕ (Unit {0})). z.room) r.kept) }
