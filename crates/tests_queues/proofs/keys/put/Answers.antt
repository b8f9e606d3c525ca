use Rattle.std.proofs.Common.{◌≡◌, ℕ, suc, ◌<◌, ◌≤◌, true, false, eqb, Some, None, List, [], ◌∷◌, ◌++◌, length, refl, sym, ap, ◌∙◌, subst, arith}
use Rattle.std.specs.Prelude.{Result, Ok, Err, IsOk}
use Rattle.std.proofs.lemmas.Bool.{both_ways, eq-eqb}
use Rattle.std.proofs.lemmas.List.{length-append}
use Rattle.std.specs.List.{list_any, AllByRecursion}
use Rattle.clock2q_handles.specs.Homes.{with_handle}
use Rattle.clock2q_handles.specs.Changes.{PutIn}
use Rattle.clock2q_handles.specs.declared.error.TableError.{TableError}
use Rattle.clock2q_directory.specs.declared.keys.Entry.{Entry}
use Rattle.clock2q_directory.specs.Keys.{KeyPlaces, entry, written}
use Rattle.clock2q_directory.specs.Indexes.{IsIndex}
use Rattle.clock2q_queues.proofs.Rings.{differs}
use Rattle.clock2q_queues.proofs.Orders.{absent_below}
use Rattle.clock2q_directory.proofs.Entries.{slice_get-written, slice_get-written_other, written-push}
use Rattle.clock2q_directory.proofs.Indexes.{length-put, IsIndex-put}
use Rattle.tests_queues.proofs.keys.put.Goals as goal

below_more : (n m : ℕ) (ps : List ℕ) → n ≤ m → AllByRecursion (λ s. s < n) ps → AllByRecursion (λ s. s < m) ps
below_more n m [] h b = tt
below_more n m (p ∷ ps) h b = (omega (arith, b.0, h), below_more n m ps h b.1)

done : (old new : List (List (ℕ × ℕ))) (hash place : ℕ) (r : Result (Unit {0}) TableError) → PutIn old hash place r new → IsOk r → new ≡ with_handle old hash place
done old new hash place (Ok x) put ok = put.0
done old new hash place (Err e) put ok = cc

indexed_more : (index index' : List (List (ℕ × ℕ))) (keys : List (Entry ℕ Unit)) (ps : List ℕ) (hash key : ℕ)
    → IsIndex index keys ps → AllByRecursion (λ s. s < length keys) ps → length ps ≡ length keys → 0 < length index
    → index' ≡ with_handle index hash (length keys) → (places : List ℕ) × IsIndex index' (keys ++ entry hash key tt ∷ []) places
    × AllByRecursion (λ s. s < length (keys ++ entry hash key tt ∷ [])) places × (length places ≡ length (keys ++ entry hash key tt ∷ []))
indexed_more index index' keys ps hash key i below count some is =
    let place = length keys in
    let e = entry hash key tt in
    let pushed : written place e keys ≡ keys ++ e ∷ [] = written-push place e keys refl in
    let absent : list_any (eqb place) ps ≡ false = absent_below place ps below in
    let same =
    (λ (t : ℕ) (h : list_any (eqb t) ps ≡ true). ap (λ z. elim z [ None ↦ None | Some e ↦ Some e.hash ])
    (slice_get-written_other place t e keys (omega arith) (λ q. both_ways (eqb t place) (differs t place ps h absent) (eq-eqb t place q)))) in
    let at = ap (λ z. elim z [ None ↦ None | Some e ↦ Some e.hash ]) (slice_get-written place e keys (omega arith)) in
    let put : IsIndex (with_handle index hash place) (written place e keys) (place ∷ ps) = IsIndex-put index keys (written place e keys) ps place hash i some absent same at in
    let n : length (keys ++ e ∷ []) ≡ suc (length keys) = omega (arith, length-append keys (e ∷ [])) in (
      place ∷ ps,
      subst (λ z. IsIndex index' z (place ∷ ps)) pushed (subst (λ z. IsIndex z (written place e keys) (place ∷ ps)) (sym is) put),
      (omega (arith, n), below_more (length keys) (length (keys ++ e ∷ [])) ps (omega (arith, n)) below),
      omega (arith, n, count),
    )

pub insert_within_capacity-requires : goal.insert_within_capacity-requires
insert_within_capacity-requires c =
    let p = c.requires.indexed in
    record { room = omega (arith, p.1.counted, p.3, c.requires.room, c.requires.spacious) }

pub returns-clause-spacious : goal.returns-clause-spacious
returns-clause-spacious c =
    let p = c.requires.indexed in
    let e = c.insert_within_capacity.ensures in
    let index' : c.insert_within_capacity.new.self.homes ≡ with_handle c.args.index.now.homes c.args.hash c.len-place.result =
    done c.args.index.now.homes c.insert_within_capacity.new.self.homes c.args.hash c.len-place.result c.insert_within_capacity.result e.put
    (e.few (omega (arith, p.1.counted, p.3, c.requires.room, c.requires.short))) in
    let slots = ap (λ (z : List (List (ℕ × ℕ))). length z) index' ∙ length-put c.args.index.now.homes c.args.hash c.len-place.result in
    let room = ap (λ (z : KeyPlaces ℕ Unit). z.room) c.push.ensures.pushed in
    omega (arith, slots, room, c.requires.spacious)

pub returns-clause-indexed : goal.returns-clause-indexed
returns-clause-indexed c =
    let p = c.requires.indexed in
    let e = c.insert_within_capacity.ensures in
    let index' : c.insert_within_capacity.new.self.homes ≡ with_handle c.args.index.now.homes c.args.hash c.len-place.result =
    done c.args.index.now.homes c.insert_within_capacity.new.self.homes c.args.hash c.len-place.result c.insert_within_capacity.result e.put
    (e.few (omega (arith, p.1.counted, p.3, c.requires.room, c.requires.short))) in
    let some : 0 < length c.args.index.now.homes = omega (arith, c.requires.room, c.requires.spacious) in
    rw c.push.ensures.pushed
    (indexed_more c.args.index.now.homes c.insert_within_capacity.new.self.homes c.args.keys.now.entries p.0 c.args.hash c.args.key p.1 p.2 p.3 some
    (index' ∙ ap (λ n. with_handle c.args.index.now.homes c.args.hash n) c.len-place.ensures.len))
