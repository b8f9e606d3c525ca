-- Tables whose entries were all put in under one hash: each is a candidate, and a walk reads one slot more than there are entries.
use Rattle.std.proofs.Common.{◌≡◌, ℕ, zero, suc, ◌+◌, ◌%◌, ◌<◌, ◌≤◌, ◌==◌, inl, inr, refl, ap, sym, ◌∙◌, arith, eq-eqb, List, [], ◌∷◌, map, filter, length, slice_get, Some, mod-eq_of_lt}
use Rattle.std.proofs.lemmas.Bool.{cases_eq}
use Rattle.clock2q_handles.specs.Homes.{top, capacity, home, listed, count, total, candidates}
use Rattle.clock2q_handles.specs.Layout.{window, walk}
use Rattle.clock2q_handles.specs.TableStep.{IsHashOf}
use Rattle.clock2q_handles.proofs.FewerEntries.{walk-is}
use Rattle.clock2q_handles.proofs.Hashes.{hash-at}
use Rattle.clock2q_handles.proofs.Periods.{rem-same}
use Rattle.clock2q_handles.proofs.Reading.{listed-again}
use Rattle.clock2q_handles.proofs.TidyLayout.{capacity-lt, sum-window}
use Rattle.clock2q_handles.proofs.TooLong.{reach-total}

-- a sum with at most one nonzero term
one_term : (f : ℕ → ℕ) (g k : ℕ) → ((j : ℕ) → j < k → (j ≡ g → ⊥) → f j ≡ 0) → (k ≤ g → window f 0 k ≡ 0) × (window f 0 k ≤ f g)
one_term f g zero none = (λ _. refl, omega arith)
one_term f g (suc k) none =
    let before = one_term f g k (λ j l. none j (omega arith)) in
    let e : 0 + k ≡ k = omega arith in
    elim (cases_eq k g) [
      | inl same ↦ (λ l. absurd (omega (arith, same, l)), omega (arith, before.0 (omega (arith, same)), ap f e, ap f same))
      | inr other ↦ (λ l. omega (arith, before.0 (omega (arith, l)), none k (omega arith) other, ap f e), omega (arith, before.1, none k (omega arith) other, ap f e))
    ]

module _ {H : Type 0} (x : ℕ) where
  -- entries that all have the fingerprint are all candidates
  all_pass : (es : List (ℕ × H)) → ((i : ℕ) (e : ℕ × H) → slice_get es i ≡ Some e → top x ≡ e.0) → length (map {A = ℕ × H} (λ e. e.1) (filter (λ e. e.0 == top x) es)) ≡ length es
  all_pass [] all = refl
  all_pass (e ∷ es) all = rw (eq-eqb e.0 (top x) (sym (all 0 e refl))) (ap suc (all_pass es (λ i f is. all (suc i) f is)))

  module _ (homes : List (List (ℕ × H))) (some : 0 < length homes) (hashes : IsHashOf (λ _. x) homes) where
    none_listed : (n : ℕ) → (home homes x ≡ home homes n → ⊥) → (es : List (ℕ × H)) → listed homes n ≡ es → length es ≡ 0
    none_listed n other [] is = refl
    none_listed n other (e ∷ es) is = absurd (other (hash-at (λ _. x) homes hashes some n 0 e (ap (λ l. slice_get l 0) is)).0)

    -- no other home has an entry
    all_here : total homes ≤ count homes x
    all_here = omega (
      arith,
      sum-window length homes,
      (one_term (count homes) (x % length homes) (length homes) (λ j l other. none_listed j (λ q. other (sym (mod-eq_of_lt l) ∙ sym q)) (listed homes j) refl)).1,
      ap length (rem-same (listed homes) (length homes) (listed-again homes) x),
    )

    module _ (room : total homes ≤ capacity (length homes)) where
      reached : count homes x ≤ total homes
      reached = omega (arith, reach-total homes (omega (arith, room, capacity-lt (length homes) some)) x)

      candidates_of_all : length (candidates homes x) ≡ total homes
      candidates_of_all = omega (arith, all_pass (listed homes x) (λ i e is. (hash-at (λ _. x) homes hashes some x i e is).1), all_here, reached)

      walk_of_each : walk homes x ≡ total homes + 1
      walk_of_each = omega (arith, walk-is homes x some, reach-total homes (omega (arith, room, capacity-lt (length homes) some)) x, all_here)

  -- there are as many candidates as entries
  pub all_candidates : (homes : List (List (ℕ × H))) → IsHashOf (λ _. x) homes → total homes ≤ capacity (length homes) → length (candidates homes x) ≡ total homes
  all_candidates [] hashes room = refl
  all_candidates (es ∷ homes) hashes room = candidates_of_all (es ∷ homes) (omega arith) hashes room

  -- and a walk has one more slot to read, if there are any
  pub walk_of_all : (homes : List (List (ℕ × H))) → IsHashOf (λ _. x) homes → total homes ≤ capacity (length homes) → 0 < total homes → walk homes x ≡ total homes + 1
  walk_of_all [] hashes room some = absurd (omega (arith, some))
  walk_of_all (es ∷ homes) hashes room some = walk_of_each (es ∷ homes) (omega arith) hashes room
