use Rattle.std.proofs.Common.{◌≡◌, ℕ, ◌+◌, ◌%◌, None, eqb, sym, ap, ◌∙◌, subst}
use Rattle.std.specs.Prelude.{if◌then◌else◌}
use Rattle.std.specs.List.{AllByRecursion}
use Rattle.clock2q_directory.specs.Index.{is_shared, slots, IsGapFor}
use Rattle.clock2q_directory.specs.Keys.{KeyPlaces, is_key_at}
use Rattle.clock2q_directory.specs.History.{Remembered, Places, found_slot, found_place, found_gap, freed_place, most_beside}
use Rattle.clock2q_directory.proofs.Hashed.{has_hash, all-forgotten, absent-forgotten}
use Rattle.clock2q_directory.proofs.Remembering.{slots-freed, shared-freed}
use Rattle.tests_queues.proofs.Gaps.{gap-kept, gap-stays}
use Rattle.tests_queues.proofs.Residents.{no_candidates, finds_none, kept}
use Rattle.tests_queues.proofs.beside.forget.Goals as goal

pub lookup-found-requires : goal.lookup-found-requires
lookup-found-requires g c =
    let k = c.requires.alone in
    record { hash = has_hash c.args.key c.args.hashes c.args.directory.now.history.entries k.hashed; made = rw (no_candidates k (c.args.key % c.args.hashes)) tt }

pub forget-known-requires : goal.forget-known-requires
forget-known-requires g c =
    let k = c.requires.alone in
    let e = c.lookup-found.ensures in
    let none : found_slot c.lookup-found.result ≡ None =
    finds_none k (λ p. is_key_at eqb c.args.key c.args.directory.now.residents.entries p) (c.args.key % c.args.hashes) (found_slot c.lookup-found.result) e.slot in
    record { hash = rw e.kept (has_hash c.args.key c.args.hashes c.args.directory.now.history.entries k.hashed); place = rw e.kept (e.place none) }

pub returns : goal.returns
returns g c =
    let k = c.requires.alone in
    let e = c.lookup-found.ensures in
    let d = c.forget-known.ensures in
    let h = c.args.directory.now.history in
    let entries = ap (λ (z : Remembered ℕ). z.entries) d.forgotten in
    let before = ap (λ (z : Remembered ℕ). z.entries) e.kept in
    let limit : c.forget-known.new.self.history.limit ≡ h.limit = ap (λ (z : Remembered ℕ). z.limit) d.forgotten ∙ ap (λ (z : Remembered ℕ). z.limit) e.kept in
    let hashed : AllByRecursion (λ e. e.0 ≡ e.1 % c.args.hashes) c.forget-known.new.self.history.entries =
    rw entries (all-forgotten (λ e. e.0 ≡ e.1 % c.args.hashes) c.args.key c.lookup-found.new.self.history.entries (rw before k.hashed)) in
    let same : slots c.forget-known.new.self.history.places.index ≡ slots h.places.index =
    ap (λ (z : Places). slots z.index) d.places ∙ slots-freed _ _ c.lookup-found.new.self.history.places ∙ ap (λ (z : Remembered ℕ). slots z.places.index) e.kept in
    let shared : is_shared c.forget-known.new.self.history.places.index ≡ is_shared h.places.index =
    ap (λ (z : Places). is_shared z.index) d.places ∙ shared-freed _ _ c.lookup-found.new.self.history.places ∙ ap (λ (z : Remembered ℕ). is_shared z.places.index) e.kept in
    let beside : most_beside c.forget-known.new.self.history ≡ most_beside h =
    ap (λ b. if b then c.forget-known.new.self.history.limit + 1 else 0) shared ∙ ap (λ n. if is_shared h.places.index then n + 1 else 0) limit in
    let none : found_slot c.lookup-found.result ≡ None =
    finds_none k (λ p. is_key_at eqb c.args.key c.args.directory.now.residents.entries p) (c.args.key % c.args.hashes) (found_slot c.lookup-found.result) e.slot in
    let x = c.args.key % c.args.hashes in
    let old = c.lookup-found.new.self.history in
    let new = c.forget-known.new.self.history in
    let freed : new.places ≡ freed_place x (found_place c.lookup-found.result) old.places = d.places ∙ ap (λ o. freed_place x o old.places) (rw e.kept (sym (e.place none))) in
    record {
      alone = rw d.kept (kept k hashed same beside (ap (λ (z : KeyPlaces ℕ (Unit {0})). z.entries) e.residents) (ap (λ (z : KeyPlaces ℕ (Unit {0})). z.room) e.residents));
      absent = rw entries (absent-forgotten c.args.key c.lookup-found.new.self.history.entries);
      gap = subst (λ o. IsGapFor o x new.places.index) (sym c.gap.ensures.gap)
          (gap-stays c.lookup-found.result x old.places new.places (gap-kept (found_gap c.lookup-found.result) x h old e.gap e.kept) freed);
    }
