-- Tables in which each handle was put in under the hash that one function gives it.
use Rattle.std.proofs.Common.{◌≡◌, ◌≢◌, inl, inr, ℕ, ◌<◌, ◌≤◌, zero, suc, Bool, List, [], ◌∷◌, Option, Some, None, Result, Ok, Err, refl, ap, ◌∙◌, arith, length, slice_get, OnOk, OnErr, ◌+◌, ◌*◌}
use Rattle.clock2q_handles.specs.declared.error.TableError.{TableError}
use Rattle.clock2q_handles.specs.declared.error.TableError.TheVariants.{Memory, Size, RunTooLong}
use Rattle.clock2q_handles.specs.Offers.{Settles, FindsOrPuts}
use Rattle.clock2q_handles.specs.Changes.{PutIn}
use Rattle.std.proofs.lemmas.Bool.Decides.{leb_tells}
use Rattle.std.specs.Fn.{Called, Takes, Mut}
use Rattle.clock2q_handles.specs.Homes.{top, capacity, total, with_handle, without_handle}
use Rattle.clock2q_handles.specs.TableStep.{TableValue, IsHashOf, IsFull, IsShortOf, doubled_until, grown, reserved, doubled, fit}
use Rattle.clock2q_handles.specs.Rehash.{GivesHashes, AnswersInTurn, AfterGrowth, IsHeld, held_handles}
use Rattle.clock2q_handles.proofs.rebuild.Held.{by_slot_held}
use Rattle.clock2q_handles.proofs.rebuild.Hashes.{grown-by, hashes-put_last, hashes-rebuilt, hashes-removed, rebuilt-length}

-- doubling leaves a count of slots that isn't 0
until_some : (e m k : ℕ) → 0 < m → 0 < doubled_until e m k
until_some e m zero some = some
until_some e m (suc k) some = grind (arith, until_some e (2 * m) k)

pub fit_some : (e : ℕ) → 0 < fit e
unfolding fit
fit_some e = until_some e 16 e (omega arith)

-- a table with no slots is full
some_slots : {H : Type 0} (homes : List (List (ℕ × H))) → (IsFull homes → ⊥) → 0 < length homes
some_slots [] not_full = absurd (not_full refl)
some_slots (es ∷ homes) not_full = omega arith

module _ {H : Type 0} (key : H → ℕ) where
  -- a table that grew if it was full
  pub keyed_grown : (homes : List (List (ℕ × H))) → IsHashOf key homes → (0 < length (grown key homes)) × IsHashOf key (grown key homes)
  keyed_grown homes hashes =
      grown-by key (λ hs. (0 < length hs) × IsHashOf key hs) homes
      (λ _. (omega (arith, rebuilt-length key homes (doubled (length homes))), hashes-rebuilt key homes (doubled (length homes)) (omega arith) hashes)) (λ not. (some_slots homes not, hashes))

  -- one more handle
  pub keyed_inserted : (homes : List (List (ℕ × H))) (v : H) → IsHashOf key homes → IsHashOf key (with_handle (grown key homes) (key v) v)
  keyed_inserted homes v hashes = hashes-put_last key (grown key homes) (key v) (top (key v), v) (keyed_grown homes hashes).0 (keyed_grown homes hashes).1 refl refl

  keyed_into : (homes new : List (List (ℕ × H))) (h : ℕ) (v : H) (result : Result (Unit {0}) TableError) → h ≡ key v → PutIn (grown key homes) h v result new → IsHashOf key homes → IsHashOf key new
  keyed_into homes new h v (Ok r) is put hashes = rw (put.0, is) (keyed_inserted homes v hashes)
  keyed_into homes new h v (Err e) is put hashes = rw put.1 (keyed_grown homes hashes).1

  keyed_settled : (homes new : List (List (ℕ × H))) (h : ℕ) (v : H) (found : Option H) (result : Result (H × Bool) TableError)
      → h ≡ key v → Settles (grown key homes) h v found result new → IsHashOf key homes → IsHashOf key new
  keyed_settled homes new h v (Some c) result is s hashes = rw s.1 (keyed_grown homes hashes).1
  keyed_settled homes new h v None (Ok r) is s hashes = rw (s.1, is) (keyed_inserted homes v hashes)
  keyed_settled homes new h v None (Err e) is s hashes = rw s.1 (keyed_grown homes hashes).1

  -- what a call results in that changes nothing if it runs out of memory
  keyed_unless : {X : Type 0} (homes new : List (List (ℕ × H))) (result : Result X TableError)
      → (result ≢ Err Memory → IsHashOf key new) → (result ≡ Err Memory → new ≡ homes) → IsHashOf key homes → IsHashOf key new
  keyed_unless homes new (Ok r) others memory hashes = others (λ e. absurd (cc))
  keyed_unless homes new (Err Memory) others memory hashes = rw (memory refl) hashes
  keyed_unless homes new (Err Size) others memory hashes = others (λ e. absurd (cc))
  keyed_unless homes new (Err RunTooLong) others memory hashes = others (λ e. absurd (cc))

  module _ {F : Type 0} (g : Mut F (H × Unit {0}) ℕ) (f : F) (homes new : List (List (ℕ × H))) (h : ℕ) (v : H) where
    -- what an insertion results in, however it ends
    pub keyed_put : (result : Result (Unit {0}) TableError) → (result ≢ Err Memory → AfterGrowth g f homes (λ hs. PutIn hs h v result new)) → (result ≡ Err Memory → new ≡ homes)
        → h ≡ key v → IsHashOf key homes → GivesHashes g key homes f → IsHashOf key new
    keyed_put result put memory is hashes gives = keyed_unless homes new result (λ not. keyed_into homes new h v result is (put not key (λ _. gives)) hashes) memory hashes

    -- what a handle that is found or put in results in
    pub keyed_found : {M : Type 0} (m : Mut M (H × Unit {0}) Bool) (matches : M) (result : Result (H × Bool) TableError)
        → (result ≢ Err Memory → (last : M) × AfterGrowth g f homes (λ hs. FindsOrPuts m matches hs h v result new last))
        → (result ≡ Err Memory → new ≡ homes) → h ≡ key v → IsHashOf key homes → GivesHashes g key homes f → IsHashOf key new
    keyed_found m matches result settles memory is hashes gives =
        keyed_unless homes new result (λ not. let s = (settles not).1 key (λ _. gives) in keyed_settled homes new h v s.0 result is s.2 hashes) memory hashes

    -- what a reservation results in
    pub keyed_reserved : (before after : TableValue H) (n : ℕ) (result : Result (Unit {0}) TableError)
        → OnOk result ((k : H → ℕ) → (IsShortOf homes n → GivesHashes g k homes f) → new ≡ reserved k homes n)
        → OnErr result (after ≡ before) → new ≡ after.homes → before.homes ≡ homes → total homes ≤ capacity (length homes) → IsHashOf key homes → GivesHashes g key homes f → IsHashOf key new
    keyed_reserved before after n (Ok r) ok err to from room hashes gives =
        rw (ok key (λ _. gives)) (elim (leb_tells (total homes + n) (capacity (length homes))) [ inl fits ↦ rw fits.0 hashes | inr past ↦ rw past.0 (hashes-rebuilt key homes _ (fit_some _) hashes) ])
    keyed_reserved before after n (Err e) ok err to from room hashes gives = rw (to ∙ ap (λ t. t.homes) err ∙ from) hashes

  -- one handle less
  pub keyed_removed : (eq : H → H → Bool) (homes : List (List (ℕ × H))) (x : ℕ) (v : H) → IsHashOf key homes → IsHashOf key (without_handle eq homes x v)
  keyed_removed eq [] x v hashes = hashes
  keyed_removed eq (es ∷ homes) x v hashes = hashes-removed key eq (es ∷ homes) x v (omega arith) hashes

  module _ {F : Type 0} (g : Mut F (H × Unit {0}) ℕ) (homes : List (List (ℕ × H))) (I : F → Type 0) (takes : (f : F) (h : H) → I f → IsHeld homes h → Takes g f (h, tt))
      (says : (f : F) (h : H) (r : ℕ) (next : F) → I f → IsHeld homes h → Called g f (h, tt) r next → (r ≡ key h) × I next) where
    in_turn_by : (hs : List H) (f : F) → I f → ((i : ℕ) (h : H) → slice_get hs i ≡ Some h → IsHeld homes h) → AnswersInTurn g key f hs
    in_turn_by [] f i held = tt
    in_turn_by (h ∷ hs) f i held =
        (takes f h i (held 0 h refl), λ r next called. let s = says f h r next i (held 0 h refl) called in (s.0, in_turn_by hs next s.1 (λ k v is. held (suc k) v is)))

    -- if what a closure needs survives its calls on held handles, and it returns its key, it returns the hash of each held handle
    pub keyed_given_by : (f : F) → I f → IsHashOf key homes → GivesHashes g key homes f
    keyed_given_by f i hashes = record { in_turn = in_turn_by (held_handles homes) f i (by_slot_held homes); hashes = hashes }

  -- a closure that returns its key returns the hash of each held handle
  pub keyed_given : {F : Type 0} (g : Mut F (H × Unit {0}) ℕ) (homes : List (List (ℕ × H))) (f : F) → IsHashOf key homes
      → ((f' : F) (h : H) → Takes g f' (h, tt)) → ((f' : F) (h : H) (r : ℕ) (next : F) → Called g f' (h, tt) r next → r ≡ key h) → GivesHashes g key homes f
  keyed_given g homes f hashes takes answers = keyed_given_by g homes (λ _. Unit {0}) (λ f' h _ _. takes f' h) (λ f' h r next _ _ called. (answers f' h r next called, tt)) f tt hashes
