-- Small's keys that are promoted to Main: an admission makes and takes away none, and a hit one at most.
use Rattle.std.proofs.Common.{◌≡◌, ℕ, ◌+◌, ◌-◌, ◌<◌, Bool, true, false, ◌&&◌, List, [], ◌∷◌, map, length, take, Some, None, refl, ap, arith}
use Rattle.std.specs.Prelude.{if◌then◌else◌, nat_lt}
use Rattle.std.specs.List.{count_by, last_or}
use Rattle.std.proofs.lemmas.List.Sums.{sum_by-cons}
use Rattle.clock2q_machine.specs.Ages.{Age, Young, Old, touched, grown_older, is_promoted}
use Rattle.clock2q_machine.specs.Entries.{SmallEntry, small_hit, small_admitted, with_age}
use Rattle.clock2q_machine.specs.Turnover.{becomes_promoted}
use Rattle.clock2q_machine.proofs.Weights.{weight-last}
use Rattle.clock2q_machine.proofs.Whole.{one_if}

pub grown_alike : (window : ℕ) (age : Age) → is_promoted (grown_older window age) ≡ is_promoted age
grown_alike window (Young age) = elim (nat_lt (age + 1) window) as (λ b. is_promoted (if b then Young (age + 1) else Old false) ≡ false) [ true ↦ refl | false ↦ refl ]
grown_alike window (Old bit) = refl

module _ {K : Type 0} where
  abbrev pub promoted_count : List (SmallEntry K) → ℕ
  promoted_count small = count_by (λ e. is_promoted e.age) small

  -- of those whose key passes a test
  module _ (is : K → Bool) where
    abbrev pub promoted_of : List (SmallEntry K) → ℕ
    promoted_of small = count_by (λ e. is_promoted e.age && is e.key) small

    promoted_grown : (window : ℕ) (small : List (SmallEntry K)) → promoted_of (map (λ e. with_age e (grown_older window e.age)) small) ≡ promoted_of small
    promoted_grown window [] = refl
    promoted_grown window (e ∷ small) =
        omega (
          arith,
          sum_by-cons (λ x. one_if (is_promoted x.age && is x.key)) (with_age e (grown_older window e.age)) (map (λ x. with_age x (grown_older window x.age)) small),
          sum_by-cons (λ x. one_if (is_promoted x.age && is x.key)) e small,
          ap (λ b. one_if (b && is e.key)) (grown_alike window e.age),
          promoted_grown window small,
        )

    pub promoted_admitted : (window : ℕ) (key : K) (slot : ℕ) (small : List (SmallEntry K)) → promoted_of (small_admitted window key slot small) ≡ promoted_of small
    promoted_admitted window key slot small =
        omega (
          arith,
          sum_by-cons (λ x. one_if (is_promoted x.age && is x.key)) (record { key = key; slot = slot; age = Young 0 }) (map (λ x. with_age x (grown_older window x.age)) small),
          promoted_grown window small,
        )

    one_hit : (e : SmallEntry K) → one_if (is_promoted (if is e.key then with_age e (touched e.age) else e).age) ≡ one_if (is_promoted e.age) + one_if (is e.key && becomes_promoted e.age)
    one_hit e = by_age e.age (is e.key) where
      by_age : (age : Age) (b : Bool) → one_if (is_promoted (if b then with_age e (touched age) else with_age e age).age) ≡ one_if (is_promoted age) + one_if (b && becomes_promoted age)
      by_age (Young age) true = refl
      by_age (Young age) false = refl
      by_age (Old true) true = refl
      by_age (Old false) true = refl
      by_age (Old true) false = refl
      by_age (Old false) false = refl

    pub promoted_hit : (small : List (SmallEntry K)) → promoted_count (small_hit is small) ≡ promoted_count small + count_by (λ e. is e.key && becomes_promoted e.age) small
    promoted_hit [] = refl
    promoted_hit (e ∷ small) =
        omega (
          arith,
          sum_by-cons (λ x. one_if (is_promoted x.age)) (if is e.key then with_age e (touched e.age) else e) (small_hit is small),
          sum_by-cons (λ x. one_if (is_promoted x.age)) e small,
          sum_by-cons (λ x. one_if (is x.key && becomes_promoted x.age)) e small,
          one_hit e,
          promoted_hit small,
        )

  grown_count : (window : ℕ) (small : List (SmallEntry K)) → promoted_count (map (λ e. with_age e (grown_older window e.age)) small) ≡ promoted_count small
  grown_count window [] = refl
  grown_count window (e ∷ small) =
      omega (
        arith,
        sum_by-cons (λ x. one_if (is_promoted x.age)) (with_age e (grown_older window e.age)) (map (λ x. with_age x (grown_older window x.age)) small),
        sum_by-cons (λ x. one_if (is_promoted x.age)) e small,
        ap one_if (grown_alike window e.age),
        grown_count window small,
      )

  pub admitted_count : (window : ℕ) (key : K) (slot : ℕ) (small : List (SmallEntry K)) → promoted_count (small_admitted window key slot small) ≡ promoted_count small
  admitted_count window key slot small =
      omega (
        arith,
        sum_by-cons (λ x. one_if (is_promoted x.age)) (record { key = key; slot = slot; age = Young 0 }) (map (λ x. with_age x (grown_older window x.age)) small),
        grown_count window small,
      )

  -- Small without its tail
  pub promoted_without : (small : List (SmallEntry K)) (tail : SmallEntry K) → 0 < length small → last_or None small ≡ Some tail
      → promoted_count (take (length small - 1) small) + one_if (is_promoted tail.age) ≡ promoted_count small
  promoted_without small tail some last = (weight-last (λ e. one_if (is_promoted e.age)) None small tail some last).0
