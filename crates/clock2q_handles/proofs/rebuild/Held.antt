-- Held handles stay held: through growth and insertions, and as what a lookup yields.
use Rattle.std.proofs.Common.{◌≡◌, ℕ, suc, ◌+◌, ◌%◌, ◌<◌, ◌≤◌, ◌⊎◌, inl, inr, ◌==◌, refl, ap, sym, ◌∙◌, arith, Bool, List, [], ◌∷◌, ◌++◌, length, get_or, map, take, drop, Some, slice_get, filter}
use Rattle.std.proofs.lemmas.Bool.{eq-eqb}
use Rattle.std.proofs.lemmas.List.{length-append, length-replicate, map-append, get_or_append_left}
use Rattle.std.proofs.lemmas.List.Elements.{All-map, All-filter, filter-append}
use Rattle.std.proofs.lemmas.List.Sums.{fold-append}
use Rattle.std.proofs.lemmas.Option.{slice_get_within, slice_get-get_or, get_or_from_slice_get}
use Rattle.std.proofs.Math.Seq.{split_at}
use Rattle.clock2q_handles.specs.Homes.{top, capacity, listed, total, candidates, no_entries, put_last}
use Rattle.clock2q_handles.specs.Layout.{placed, layout, entries, spill_of}
use Rattle.clock2q_handles.specs.TableStep.{put_all, rebuilt, grown, doubled, IsHashOf}
use Rattle.clock2q_handles.specs.Rehash.{IsHeld, held_handles}
use Rattle.clock2q_handles.proofs.layout.Reading.{get_or-same, length-layout}
use Rattle.clock2q_handles.proofs.layout.TidyLayout.{layout-standing, capacity-lt}
use Rattle.clock2q_handles.proofs.shifts.Changes.{listed-with_other}
use Rattle.clock2q_handles.proofs.layout.FewerEntries.{listed-put_last, length-put_all}
use Rattle.clock2q_handles.proofs.rebuild.Hashes.{IsEntry, some_homes, entries-split, entry_laid, all-got, hash-at, grown-by, put_some, put_all-keeps, slice_get-push}

pub slice_get-left : {E : Type 0} (xs ys : List E) (i : ℕ) (e : E) → slice_get xs i ≡ Some e → slice_get (xs ++ ys) i ≡ Some e
slice_get-left xs ys i e is = grind (arith, slice_get_within xs i e is, get_or_from_slice_get xs i e e is, get_or_append_left xs ys e i, slice_get-get_or (xs ++ ys) i e, length-append xs ys)

pub slice_get-seam : {E : Type 0} (xs ys : List E) (e : E) → slice_get (xs ++ e ∷ ys) (length xs) ≡ Some e
slice_get-seam [] ys e = refl
slice_get-seam (x ∷ xs) ys e = slice_get-seam xs ys e

pub slice_get-last : {E : Type 0} (xs : List E) (e : E) → slice_get (xs ++ e ∷ []) (length xs) ≡ Some e
slice_get-last xs e = slice_get-seam xs [] e

module _ {H : Type 0} where
  pub entry_held : (homes : List (List (ℕ × H))) (e : ℕ × H) (v : H) → e.1 ≡ v → IsEntry homes e → IsHeld homes v
  entry_held homes e v is at = (at.0, at.1, e, at.2, is)

  abbrev pub held_entry : (homes : List (List (ℕ × H))) (v : H) → IsHeld homes v → (e : ℕ × H) × IsEntry homes e × (e.1 ≡ v)
  held_entry homes v at = (at.2, (at.0, at.1, at.3), at.4)

  module _ (homes : List (List (ℕ × H))) (x : ℕ) (e f : ℕ × H) (some : 0 < length homes) where
    -- an entry stays when one is put in
    pub entry_kept : IsEntry homes f → IsEntry (put_last homes x e) f
    entry_kept at = grind (arith, listed-put_last, slice_get-left, listed-with_other)

    -- the new one is there
    pub entry_new : IsEntry (put_last homes x e) e
    entry_new = (x, length (listed homes x), ap (λ es. slice_get es (length (listed homes x))) (listed-put_last homes x x e some refl) ∙ slice_get-last (listed homes x) e)

    -- and no other
    pub entry_from : IsEntry (put_last homes x e) f → IsEntry homes f ⊎ (f ≡ e)
    entry_from at = grind (arith, slice_get-push, listed-put_last, listed-with_other)

module _ {H : Type 0} (key : H → ℕ) (homes : List (List (ℕ × H))) (v : H) where
  module _ (m : ℕ) (some : 0 < m) where
    fresh : 0 < length (no_entries {E = ℕ × H} m)
    fresh = omega (arith, some, length-replicate {A = List (ℕ × H)} m [])

    -- a rebuild keeps each handle held
    rebuilt_kept : total homes ≤ capacity (length homes) → IsHeld homes v → IsHeld (rebuilt key m homes) v
    rebuilt_kept room at =
        let e : ℕ × H = at.2 in
        let slots = layout homes in
        let n : ℕ = at.0 + spill_of homes at.0 + at.1 in
        let less : total homes < length homes = omega (arith, room, capacity-lt (length homes) (some_homes homes at.0 at.1 e at.3)) in
        let split = entries-split slots n (placed (spill_of homes at.0 + at.1) e) (omega (arith, less, length-layout homes)) (layout-standing homes less at.0 at.1 e at.3) in
        let before = put_all key (no_entries m) (entries (take (n % length slots) slots)) in
        let there : 0 < length before = omega (arith, fresh, length-put_all key (no_entries m) (entries (take (n % length slots) slots))) in
        let kept = put_all-keeps key (λ hs. IsEntry hs e) (entries (drop (suc (n % length slots)) slots)) (put_last before (key e.1) e) (put_some key before e there)
        (λ hs i s some _. entry_kept hs (key s.entry.1) s.entry e some) (entry_new before (key e.1) e e there) in
        entry_held (rebuilt key m homes) e v at.4 (rw (split, fold-append) kept)

    -- and brings in no other
    rebuilt_from : IsHeld (rebuilt key m homes) v → IsHeld homes v
    rebuilt_from at =
        entry_held homes at.2 v at.4 (put_all-keeps key (λ hs. IsEntry hs at.2 → IsEntry homes at.2) (entries (layout homes)) (no_entries m) fresh
        (λ hs i s there is from now. elim (entry_from hs (key s.entry.1) s.entry at.2 there now) [ inl old ↦ from old | inr new ↦ rw new (entry_laid homes i s is) ])
        (λ now. let no = rw (get_or-same {X = List (ℕ × H)} m (now.0 % length (no_entries {E = ℕ × H} m)) []) at now.2 in absurd (cc)) (at.0, at.1, at.3))

  -- so an insertion finds the same handles held as before the table grew
  pub grown_kept : IsHeld homes v → IsHeld (grown key homes) v
  grown_kept at = grown-by key (λ hs. IsHeld hs v) homes (λ full. rebuilt_kept (doubled (length homes)) (omega arith) (omega (arith, full)) at) (λ _. at)

  pub grown_from : IsHeld (grown key homes) v → IsHeld homes v
  grown_from = grown-by key (λ hs. IsHeld hs v → IsHeld homes v) homes (λ _. rebuilt_from (doubled (length homes)) (omega arith)) (λ _ at. at)

module _ {H : Type 0} where
  -- each candidate is held
  pub candidate_held : (homes : List (List (ℕ × H))) (x i : ℕ) (v : H) → slice_get (candidates homes x) i ≡ Some v → IsHeld homes v
  candidate_held homes x i v = all-got (IsHeld homes) (candidates homes x) i v (All-map (IsHeld homes) (λ e. e.1) (filter (λ e. e.0 == top x) (listed homes x))
      (All-filter (λ e. e.0 == top x) (λ e. IsHeld homes e.1) (listed homes x) (λ k d within. (x, k, get_or (listed homes x) k d, slice_get-get_or (listed homes x) k d within, refl))))

  -- and a held handle is a candidate of the hash that it was put in under
  pub held_candidate : (key : H → ℕ) (homes : List (List (ℕ × H))) (v : H) → IsHashOf key homes → IsHeld homes v → (i : ℕ) × (slice_get (candidates homes (key v)) i ≡ Some v)
  held_candidate key homes v hashes at =
      let hashed = hash-at key homes hashes (some_homes homes at.0 at.1 at.2 at.3) at.0 at.1 at.2 at.3 in
      let es : List (ℕ × H) = listed homes (key at.2.1) in
      let test : ℕ × H → Bool = λ e. e.0 == top (key at.2.1) in
      let here : slice_get es at.1 ≡ Some at.2 = grind (arith, hashed.0, at.3) in
      let split = split_at es at.1 at.2 (slice_get_within es at.1 at.2 here) in
      let before : List H = map (λ e. e.1) (filter test (take at.1 es)) in
      let one : candidates homes (key at.2.1) ≡ before ++ at.2.1 ∷ map (λ e. e.1) (filter test (drop (suc at.1) es)) =
      ap (λ xs. map (λ e. e.1) (filter test xs)) split
      ∙ rw (get_or_from_slice_get es at.1 at.2 at.2 here, filter-append test (take at.1 es), eq-eqb at.2.0 (top (key at.2.1)) (sym hashed.1), map-append) refl in
      (length before, rw (← at.4, one) (slice_get-seam before (map (λ e. e.1) (filter test (drop (suc at.1) es))) at.2.1))

  -- each handle by slot is one that is held
  pub by_slot_held : (homes : List (List (ℕ × H))) (i : ℕ) (v : H) → slice_get (held_handles homes) i ≡ Some v → IsHeld homes v
  by_slot_held homes i v = all-got (IsHeld homes) (held_handles homes) i v (All-map (IsHeld homes) (λ s. s.entry.1) (entries (layout homes))
      (λ k d within. entry_held homes _ _ refl (entry_laid homes k _ (slice_get-get_or (entries (layout homes)) k d within))))
