-- How many keys of Main are no longer resident, by counting those that are still in Main.
use Rattle.std.proofs.Common.{◌≡◌, ℕ, ◌+◌, ◌≤◌, Bool, not, List, [], ◌∷◌, length, Option, Some, None, refl, ap, arith}
use Rattle.std.specs.Prelude.{is_some}
use Rattle.std.specs.Cmp.{IsEquivalence}
use Rattle.std.specs.List.{sum_by, count_by}
use Rattle.std.proofs.lemmas.List.Sums.{sum_by-cons, sum_by-le-sum_by}
use Rattle.clock2q_machine.specs.Entries.{MainEntry, main_hit, from_victim, behind_hand}
use Rattle.clock2q_machine.specs.Machine.{Machine, slot_of}
use Rattle.clock2q_machine.specs.Whole.{IsWhole}
use Rattle.clock2q_machine.specs.Scans.{left_main}
use Rattle.clock2q_machine.proofs.Weights.{sum_by-same, weight-from_victim, weight-behind, weight-main_hit}
use Rattle.clock2q_machine.proofs.Whole.{one_if}
use Rattle.clock2q_machine.proofs.Standing.{none_counted}

module _ {X : Type 0} where
  two_sums : (f g h : X → ℕ) → ((x : X) → f x ≤ g x + h x) → (xs : List X) → sum_by f xs ≤ sum_by g xs + sum_by h xs
  two_sums f g h less [] = omega arith
  two_sums f g h less (x ∷ xs) = omega (arith, less x, sum_by-cons f x xs, sum_by-cons g x xs, sum_by-cons h x xs, two_sums f g h less xs)

  one_each : (f g : X → ℕ) → ((x : X) → f x + g x ≤ 1) → (xs : List X) → sum_by f xs + sum_by g xs ≤ length xs
  one_each f g one [] = omega arith
  one_each f g one (x ∷ xs) = omega (arith, one x, sum_by-cons f x xs, sum_by-cons g x xs, one_each f g one xs)

module _ {K : Type 0} (eq : K → K → Bool) where
  -- the number of pairs of one of these entries and an entry of Main with its key
  abbrev pub shared : List (MainEntry K) → List (MainEntry K) → ℕ
  shared entries main = sum_by (λ e. count_by (λ x. eq e.key x.key) main) entries

  -- no two of these entries have the same key
  abbrev pub AreApart : List (MainEntry K) → Type 0
  AreApart entries = (k : K) → count_by (λ e. eq e.key k) entries ≤ 1

  module _ (entries : List (MainEntry K)) where
    pub shared_hit : (is : K → Bool) (main : List (MainEntry K)) → shared entries (main_hit is main) ≡ shared entries main
    shared_hit is main =
        sum_by-same (λ (e : MainEntry K). count_by (λ x. eq e.key x.key) (main_hit is main)) (λ e. count_by (λ x. eq e.key x.key) main)
        (λ e. weight-main_hit (λ (x : MainEntry K). one_if (eq e.key x.key)) (λ x bit. refl) is main) entries

    pub shared_behind : (main : List (MainEntry K)) (key : K) (slot : ℕ) → shared entries main ≤ shared entries (behind_hand key slot main)
    shared_behind main key slot =
        sum_by-le-sum_by (λ (e : MainEntry K). count_by (λ x. eq e.key x.key) main) (λ e. count_by (λ x. eq e.key x.key) (behind_hand key slot main)) entries
        (λ e. omega (arith, weight-behind (λ (x : MainEntry K). one_if (eq e.key x.key)) (λ x bit. refl) key slot main))

    -- Main loses its victim
    pub lost_victim : AreApart entries → (main others : List (MainEntry K)) (victim : MainEntry K) → from_victim main ≡ victim ∷ others → shared entries main ≤ shared entries others + 1
    lost_victim apart main others victim choice =
        omega (
          arith,
          apart victim.key,
          two_sums
              (λ (e : MainEntry K). count_by (λ x. eq e.key x.key) main)
              (λ e. count_by (λ x. eq e.key x.key) others)
              (λ e. one_if (eq e.key victim.key))
              (λ e. one_less (eq e.key))
              entries,
        ) where
          one_less : (is : K → Bool) → count_by (λ x. is x.key) main ≤ count_by (λ x. is x.key) others + one_if (is victim.key)
          one_less is =
              let g : MainEntry K → ℕ = λ x. one_if (is x.key) in
              omega (arith, sum_by-cons g victim others, ap (sum_by g) choice, weight-from_victim g (λ e bit. refl) main)

    -- and gets another key
    pub lost_one : AreApart entries → (main others : List (MainEntry K)) (victim : MainEntry K) → from_victim main ≡ victim ∷ others → (key : K) (slot : ℕ)
        → shared entries main ≤ shared entries (behind_hand key slot others) + 1
    lost_one apart main others victim choice key slot = omega (arith, lost_victim apart main others victim choice, shared_behind others key slot)

  -- entries that are in Main are counted there
  each_there : IsEquivalence eq → (main entries : List (MainEntry K)) → ((is : K → Bool) → count_by (λ x. is x.key) entries ≤ count_by (λ x. is x.key) main) → length entries ≤ shared entries main
  each_there laws main [] among = omega arith
  each_there laws main (e ∷ entries) among =
      let others : (is : K → Bool) → count_by (λ x. is x.key) entries ≤ count_by (λ x. is x.key) main =
      λ is. omega (arith, among is, sum_by-cons (λ (x : MainEntry K). one_if (is x.key)) e entries) in
      omega (
        arith,
        among (eq e.key),
        sum_by-cons (λ (x : MainEntry K). one_if (eq e.key x.key)) e entries,
        ap one_if (laws.refl e.key),
        sum_by-cons (λ (x : MainEntry K). count_by (λ y. eq x.key y.key) main) e entries,
        each_there laws main entries others,
      )

module _ {K V : Type 0} (eq : K → K → Bool) where
  -- a key that left isn't in Main, and any other is there at most once
  pub gone_or_there : (n : Machine K V) → IsWhole eq n → (k : K) → one_if (not (is_some (slot_of (eq k) n))) + count_by (λ x. eq k x.key) n.main ≤ 1
  gone_or_there n whole k = by_slot (slot_of (eq k) n) refl where
    by_slot : (o : Option ℕ) → slot_of (eq k) n ≡ o → one_if (not (is_some o)) + count_by (λ x. eq k x.key) n.main ≤ 1
    by_slot None gone = omega (arith, none_counted (eq k) n gone)
    by_slot (Some slot) found = omega (arith, whole.keys_once k)

  module _ (laws : IsEquivalence eq) where
    module _ (m : Machine K V) (h : IsWhole eq m) where
      pub main_apart : AreApart eq m.main
      main_apart k =
          omega (arith, h.keys_once k, sum_by-same (λ (e : MainEntry K). one_if (eq e.key k)) (λ e. one_if (eq k e.key)) (λ e. ap one_if (laws.symm e.key k)) m.main)

      -- those that left and those that are still in Main are no more than were there
      pub left_or_shared : (later : Machine K V) → IsWhole eq later → left_main eq m later + shared eq m.main later.main ≤ shared eq m.main m.main
      left_or_shared later whole =
          omega (
            arith,
            one_each
                (λ (e : MainEntry K). one_if (not (is_some (slot_of (eq e.key) later))))
                (λ e. count_by (λ x. eq e.key x.key) later.main)
                (λ e. gone_or_there later whole e.key)
                m.main,
            each_there eq laws m.main m.main (λ is. omega arith),
          )
