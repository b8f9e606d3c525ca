-- The outcomes of a trace: how many are hits, and those of its first keys.
use Rattle.std.proofs.Common.{◌≡◌, ℕ, zero, suc, ◌+◌, ◌<◌, ◌≤◌, Bool, true, false, cond, List, [], ◌∷◌, ◌++◌, length, take, drop, drop-cons, get_or, refl, sym, ap, ◌∙◌, arith, add-one}
use Rattle.std.specs.Prelude.{if◌then◌else◌}
use Rattle.std.proofs.lemmas.List.{append_assoc}
use Rattle.clock2q_machine.specs.Hits.{hits, outcomes, hit_count}
use Rattle.clock2q_machine.specs.Optimum.{optimal_after, optimal_outcomes_from}

module _ {Cache : Type 0} (holds : ℕ → Cache → Bool) (after : ℕ → Cache → Cache) where
  -- there is one for each access
  pub one_each : (trace : List ℕ) (cache : Cache) → length (outcomes holds after trace cache) ≡ length trace
  one_each [] cache = refl
  one_each (key ∷ trace) cache = ap suc (one_each trace (after key cache))

  -- the hits of the first accesses are those of a trace that ends after them
  pub first_hits : (n : ℕ) (trace : List ℕ) (cache : Cache) → hit_count (take n (outcomes holds after trace cache)) ≡ hits holds after (take n trace) cache
  first_hits zero trace cache = refl
  first_hits (suc n) [] cache = refl
  first_hits (suc n) (key ∷ trace) cache = ap (λ more. (if holds key cache then 1 else 0) + more) (first_hits n trace (after key cache))

  -- the outcomes so far and those to come, one access further
  pub one_further : (trace : List ℕ) (i : ℕ) (before now total : List Bool) (cache : Cache) → i < length trace → before ++ outcomes holds after (drop i trace) cache ≡ total
      → now ≡ before ++ holds (get_or trace i 0) cache ∷ [] → now ++ outcomes holds after (drop (i + 1) trace) (after (get_or trace i 0) cache) ≡ total
  one_further trace i before now total cache within so_far more =
      let rest : outcomes holds after (drop i trace) cache ≡
      holds (get_or trace i 0) cache ∷ outcomes holds after (drop (i + 1) trace) (after (get_or trace i 0) cache) =
      rw add-one (ap (λ keys. outcomes holds after keys cache) (drop-cons trace i 0 within)) in
      ap (λ seen. seen ++ outcomes holds after (drop (i + 1) trace) (after (get_or trace i 0) cache)) more
      ∙ append_assoc before (holds (get_or trace i 0) cache ∷ []) (outcomes holds after (drop (i + 1) trace) (after (get_or trace i 0) cache))
      ∙ sym (ap (λ ahead. before ++ ahead) rest) ∙ so_far

pub one_optimal_each : (capacity : ℕ) (trace held : List ℕ) → length (optimal_outcomes_from capacity trace held) ≡ length trace
one_optimal_each capacity [] held = refl
one_optimal_each capacity (key ∷ rest) held = ap suc (one_optimal_each capacity rest (optimal_after capacity key rest held))

-- The hits among the first outcomes.

pub one_counted : (xs : List Bool) (i : ℕ) (d : Bool) → i < length xs → hit_count (take (i + 1) xs) ≡ hit_count (take i xs) + cond (get_or xs i d) 1 0
one_counted xs i d within = rw add-one (counted_next xs i within) where
  counted_next : (xs : List Bool) (i : ℕ) → i < length xs → hit_count (take (suc i) xs) ≡ hit_count (take i xs) + cond (get_or xs i d) 1 0
  counted_next [] i within = absurd (omega (arith, within))
  counted_next (x ∷ xs) zero within = omega arith
  counted_next (x ∷ xs) (suc i) within = omega (arith, counted_next xs i (omega (arith, within)))

pub first_counted_most : (xs : List Bool) (n : ℕ) → hit_count (take n xs) ≤ n
first_counted_most xs zero = omega arith
first_counted_most [] (suc n) = omega arith
first_counted_most (x ∷ xs) (suc n) = omega (arith, at_most_one x, first_counted_most xs n) where
  at_most_one : (b : Bool) → cond b 1 0 ≤ 1
  at_most_one b = elim b as (λ b. cond b 1 0 ≤ 1) [ true ↦ omega arith | false ↦ omega arith ]
