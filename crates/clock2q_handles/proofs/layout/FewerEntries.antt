-- Fewer entries push less, in as many homes or in a multiple: what that means for a removal and a rebuild. And what a rebuild does to the lists.
use Rattle.std.proofs.Common.{◌≡◌, ℕ, zero, suc, ◌+◌, ◌-◌, ◌*◌, ◌%◌, ◌<◌, ◌≤◌, refl, ap, sym, ◌∙◌, arith, cond, eqb, eq-eqb, ne_eqb, List, [], ◌∷◌, ◌++◌, length}
use Rattle.std.proofs.Common.{take, drop, get_or, take-append-drop, sum_by, length-append, Option, Some, slice_get}
use Rattle.std.proofs.lemmas.Bool.{cases_lt}
use Rattle.std.proofs.lemmas.List.{length-replicate}
use Rattle.std.proofs.lemmas.List.Elements.{filter_map-append}
use Rattle.std.proofs.lemmas.List.Folds.{sum_by-replicate}
use Rattle.std.proofs.lemmas.List.Sums.{fold_push, sum_by-cons, sum_by-append, sum_by-le-sum_by}
use Rattle.std.proofs.Math.Nat.{add-mul-mod_self_right}
use Rattle.clock2q_handles.specs.Homes.{capacity, listed, count, total, no_entries, with_list, put_last}
use Rattle.clock2q_handles.specs.Layout.{Placed, window, spill, spill_of, walk, layout, entries}
use Rattle.clock2q_handles.specs.TableStep.{put_all, IsHashOf}
use Rattle.clock2q_handles.proofs.layout.Spill.{Roomy, spill-again, spill-found, spill-step, window-le}
use Rattle.clock2q_handles.proofs.layout.Periods.{again-times, rem-same}
use Rattle.clock2q_handles.proofs.layout.Reading.{get_or-same, listed-again, count-again}
use Rattle.clock2q_handles.proofs.layout.TidyLayout.{capacity-lt, roomy-of, layout-sum, sum_by_one}
use Rattle.clock2q_handles.proofs.shifts.Changes.{length-with_list, listed-with_same, listed-with_other, total-with_list}

-- a window of any length holds no more than its slots and what is spilled after it
pub spill-any : (c : ℕ → ℕ) (m : ℕ) → Roomy c m → (a k : ℕ) → window c a k ≤ spill c m (a + k) + k
spill-any c m roomy a zero = omega arith
spill-any c m roomy a (suc k) = grind (arith, spill-any c m roomy a k, spill-step c m roomy (a + k))

-- fewer entries, in homes that are a multiple of those before, push no home further than it was pushed before
pub spill-fewer : (c d : ℕ → ℕ) (m k : ℕ) → Roomy c m → 0 < k * m → ((n : ℕ) → d n ≤ c n) → (h : ℕ) → spill d (k * m) h ≤ spill c m h
spill-fewer c d m k roomy some fewer h = let r = spill-found d (k * m) h some in
    grind (arith, r, window-le d c (h + k * m - r.0) r.0, fewer, spill-any c m roomy (h + k * m - r.0) r.0, again-times (spill c m) m (spill-again c m roomy.again) h k)

module _ {E : Type 0} where
  pub walk-is : (homes : List (List E)) (x : ℕ) → 0 < length homes → walk homes x ≡ spill_of homes x + count homes x + 1
  walk-is [] x some = absurd (omega arith)
  walk-is (es ∷ homes) x some = refl

  -- a table without homes has no walk
  pub walk-none : (homes : List (List E)) (x : ℕ) → length homes ≡ 0 → walk homes x ≡ 0
  walk-none [] x none = refl
  walk-none (es ∷ homes) x none = absurd (omega arith)

  -- a walk for a home counted past the last
  pub walk-again : (homes : List (List E)) (n : ℕ) → walk homes (n + length homes) ≡ walk homes n
  walk-again [] n = refl
  walk-again (es ∷ homes) n = grind (arith, spill-again, count-again (es ∷ homes))

  -- an entry put last is last in the list of its home
  pub listed-put_last : (homes : List (List E)) (x n : ℕ) (e : E) → 0 < length homes → n % length homes ≡ x % length homes → listed (put_last homes x e) n ≡ listed homes n ++ e ∷ []
  listed-put_last homes x n e some same = listed-with_same homes x n (listed homes x ++ e ∷ []) some same ∙ ap (λ k. get_or homes k [] ++ e ∷ []) (sym same)

  pub total-put_last : (homes : List (List E)) (x : ℕ) (e : E) → 0 < length homes → total (put_last homes x e) ≡ suc (total homes)
  total-put_last homes x e some = omega (arith, total-with_list homes x (listed homes x ++ e ∷ []) some, length-append (listed homes x) (e ∷ []))

  pub count-with_list : (homes : List (List E)) (x n : ℕ) (es : List E) → 0 < length homes → length es ≤ count homes x → count (with_list homes x es) n ≤ count homes n
  count-with_list homes x n es some l = grind (arith, listed-with_same, listed-with_other)

  -- as many homes, none of which has more entries, push no home further
  pub spill_of-fewer : (homes fewer : List (List E)) → total homes < length homes → length fewer ≡ length homes → ((n : ℕ) → count fewer n ≤ count homes n) → (n : ℕ) → spill_of fewer n ≤ spill_of homes n
  spill_of-fewer homes fewer room as_many below n = grind (arith, as_many, spill-fewer (count homes) (count fewer) (length homes) 1 (roomy-of homes room) (omega (arith, room)) below n)

  -- a list that is no longer than before lengthens no walk
  pub shorter-walk : (homes : List (List E)) (x y : ℕ) (es : List E) → total homes ≤ capacity (length homes) → length es ≤ count homes x → walk (with_list homes x es) y ≤ walk homes y
  shorter-walk homes x y es room l =
      grind (arith, cases_lt 0 (length homes), count-with_list homes x, walk-is, walk-none, capacity-lt (length homes), length-with_list homes x es, spill_of-fewer homes (with_list homes x es))

-- a sum with at most one nonzero term, and before that term
window_one : (f : ℕ → ℕ) (g k : ℕ) → ((j : ℕ) → j < k → (j ≡ g → ⊥) → f j ≡ 0) → (window f 0 k ≤ f g) × (k ≤ g → window f 0 k ≡ 0)
window_one f g zero none = (omega arith, λ _. refl)
window_one f g (suc k) none = grind (arith, window_one f g k (λ j l. none j (omega arith)))

sum_by_none : {X : Type 0} (w : X → ℕ) (xs : List X) → ((i : ℕ) (x : X) → slice_get xs i ≡ Some x → w x ≡ 0) → sum_by w xs ≡ 0
sum_by_none w [] none = refl
sum_by_none w (x ∷ xs) none = omega (arith, sum_by-cons w x xs, none 0 x refl, sum_by_none w xs (λ i. none (suc i)))

module _ {H : Type 0} (key : H → ℕ) where
  -- whether e belongs in the home of n among m
  abbrev shares : ℕ → ℕ → ℕ × H → ℕ
  shares m n e = cond (eqb (n % m) (key e.1 % m)) 1 0

  pub length-put_all : (homes : List (List (ℕ × H))) (es : List (Placed (ℕ × H))) → length (put_all key homes es) ≡ length homes
  length-put_all homes [] = refl
  length-put_all homes (s ∷ es) = grind (arith, length-put_all (put_last homes (key s.entry.1) s.entry) es, length-with_list homes (key s.entry.1))

  pub total-put_all : (homes : List (List (ℕ × H))) (es : List (Placed (ℕ × H))) → 0 < length homes → total (put_all key homes es) ≡ total homes + length es
  total-put_all homes [] some = omega arith
  total-put_all homes (s ∷ es) some = grind (arith, length-with_list, total-put_last, total-put_all (put_last homes (key s.entry.1) s.entry) es)

  pub put_all-push : (homes : List (List (ℕ × H))) (es : List (Placed (ℕ × H))) (s : Placed (ℕ × H)) → put_all key homes (es ++ s ∷ []) ≡ put_last (put_all key homes es) (key s.entry.1) s.entry
  put_all-push homes es s = fold_push (λ hs s. put_last hs (key s.entry.1) s.entry) homes es s

  count-put_all : (homes : List (List (ℕ × H))) (m n : ℕ) (es : List (Placed (ℕ × H))) → length homes ≡ m → 0 < m → count (put_all key homes es) n ≡ count homes n + sum_by (λ s. shares m n s.entry) es
  count-put_all homes m n [] len some = omega arith
  count-put_all homes m n (s ∷ es) len some =
      grind (
        arith,
        count-put_all (put_last homes (key s.entry.1) s.entry) m n es,
        length-with_list,
        eq-eqb,
        listed-put_last,
        length-append,
        ne_eqb,
        listed-with_other,
        sum_by-cons (λ s. shares m n s.entry) s es,
      )

  pub total-no_entries : (m : ℕ) → total (no_entries {E = ℕ × H} m) ≡ 0
  total-no_entries m = omega (arith, sum_by-replicate {X = List (ℕ × H)} length m [])

  -- a home's entries come from the home that its number selects among fewer
  shares_below : (homes : List (List (ℕ × H))) (k n : ℕ) → total homes < length homes → IsHashOf key homes → sum_by (λ s. shares (k * length homes) n s.entry) (entries (layout homes)) ≤ count homes n
  shares_below homes k n room hashes =
      let m : ℕ = length homes in
      let w : ℕ × H → ℕ = shares (k * m) n in
      let rem : (x : ℕ) → x % (k * m) % m ≡ x % m = rem-same (λ x. x % m) (k * m) (λ x. add-mul-mod_self_right x k m) in
      let one = window_one (λ h. sum_by w (listed homes h)) (n % m) m (λ h l other. sum_by_none w (listed homes h) (λ i e is.
      grind (arith, (hashes h i e l is).0, ne_eqb (n % (k * m)) (key e.1 % (k * m)), rem (key e.1), rem n))) in
      grind (arith, layout-sum homes room w, one.0, sum_by-le-sum_by w (λ _. 1) (listed homes (n % m)) (λ e. grind arith), sum_by_one, rem-same (listed homes) m (listed-again homes) n)

  sum_by_front : (w : Placed (ℕ × H) → ℕ) (slots : List (Option (Placed (ℕ × H)))) (i : ℕ) → sum_by w (entries (take i slots)) ≤ sum_by w (entries slots)
  sum_by_front w slots i = grind (arith, sum_by-append w (entries (take i slots)) (entries (drop i slots)), filter_map-append (λ s. s) (take i slots) (drop i slots), take-append-drop i slots)

  -- while a table is rebuilt to k times its slots, no home has more entries than the home that they came from
  pub rebuilding-count : (homes : List (List (ℕ × H))) (k i n : ℕ) → total homes < length homes → 0 < k * length homes
      → IsHashOf key homes → count (put_all key (no_entries (k * length homes)) (entries (take i (layout homes)))) n ≤ count homes n
  rebuilding-count homes k i n room some hashes =
      let made = count-put_all (no_entries (k * length homes)) (k * length homes) n (entries (take i (layout homes))) (length-replicate (k * length homes) []) some in
      let none = ap (length {A = ℕ × H}) (get_or-same (k * length homes) (n % length (no_entries {E = ℕ × H} (k * length homes))) []) in
      omega (arith, made, none, sum_by_front (λ s. shares (k * length homes) n s.entry) (layout homes) i, shares_below homes k n room hashes)

  -- nor a longer walk
  pub rebuilding-reach : (homes : List (List (ℕ × H))) (k i n : ℕ) → total homes < length homes → 0 < k * length homes → IsHashOf key homes
      → spill_of (put_all key (no_entries (k * length homes)) (entries (take i (layout homes)))) n
      + count (put_all key (no_entries (k * length homes)) (entries (take i (layout homes)))) n ≤ spill_of homes n + count homes n
  rebuilding-reach homes k i n room some hashes = grind (arith, length-put_all, length-replicate, rebuilding-count, spill-fewer, roomy-of)
