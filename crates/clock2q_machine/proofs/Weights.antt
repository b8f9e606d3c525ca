-- Sums over the entries of the queues, and what a change of a queue does to them.
use Rattle.std.proofs.Common.{◌≡◌, ℕ, suc, ◌+◌, ◌-◌, ◌<◌, ◌≤◌, Bool, true, false, not, cond, List, [], ◌∷◌, map, length, take, drop, Option, Some, None, refl, ap, ◌∙◌, arith, length-append, length-drop}
use Rattle.std.specs.Prelude.{if◌then◌else◌}
use Rattle.std.specs.List.{sum_by, count_by, filter, find, last_or}
use Rattle.std.proofs.lemmas.List.{length-map, length-take}
use Rattle.std.proofs.lemmas.List.Sums.{sum_by-cons, sum_by-append, sum_by_push, sum_by-take-drop, prefix_len-le-length}
use Rattle.clock2q_machine.specs.Ages.{Age, Young, touched, grown_older}
use Rattle.clock2q_machine.specs.Entries.{SmallEntry, MainEntry, small_hit, main_hit, small_admitted, from_victim, behind_hand, set_front, with_age, with_bit}

-- a change of each element that keeps its weight keeps the sum
sum_by-kept : {X : Type 0} (g : X → ℕ) (f : X → X) → ((x : X) → g (f x) ≡ g x) → (xs : List X) → sum_by g (map f xs) ≡ sum_by g xs
sum_by-kept g f keeps [] = refl
sum_by-kept g f keeps (x ∷ xs) = omega (arith, sum_by-cons g (f x) (map f xs), sum_by-cons g x xs, keeps x, sum_by-kept g f keeps xs)

-- two weights that are equal for each element
pub sum_by-same : {X : Type 0} (f g : X → ℕ) → ((x : X) → f x ≡ g x) → (xs : List X) → sum_by f xs ≡ sum_by g xs
sum_by-same f g same [] = refl
sum_by-same f g same (x ∷ xs) = omega (arith, sum_by-cons f x xs, sum_by-cons g x xs, same x, sum_by-same f g same xs)

-- some of the elements weigh no more than all
pub sum_by-filter-le : {X : Type 0} (g : X → ℕ) (p : X → Bool) (xs : List X) → sum_by g (filter p xs) ≤ sum_by g xs
sum_by-filter-le g p [] = omega arith
sum_by-filter-le g p (x ∷ xs) =
    elim (p x) as (λ b. sum_by g (cond b (x ∷ filter p xs) (filter p xs)) ≤ sum_by g (x ∷ xs))
    [ true ↦ omega (arith, sum_by-cons g x (filter p xs), sum_by-cons g x xs, sum_by-filter-le g p xs) | false ↦ omega (arith, sum_by-cons g x xs, sum_by-filter-le g p xs) ]

module _ {X : Type 0} (p : X → Bool) where
  -- none of the removed elements is left
  pub count_by-filtered : (xs : List X) → count_by p (filter (λ x. not (p x)) xs) ≡ 0
  count_by-filtered [] = refl
  count_by-filtered (x ∷ xs) =
      let rest = count_by-filtered xs in
      (elim (p x) as (λ b. p x ≡ b → count_by p (cond (not b) (x ∷ filter (λ y. not (p y)) xs) (filter (λ y. not (p y)) xs)) ≡ 0)
      [ true ↦ λ _. rest | false ↦ λ no. omega (arith, sum_by-cons (λ y. cond (p y) 1 0) x (filter (λ y. not (p y)) xs), ap {B = ℕ} (λ b. cond b 1 0) no, rest) ]) refl

  -- if none is found, none passes
  pub count_by-not_found : (xs : List X) → find p xs ≡ None → count_by p xs ≡ 0
  count_by-not_found [] none = refl
  count_by-not_found (x ∷ xs) none =
      (elim (p x) as (λ b. p x ≡ b → cond b (Some x) (find p xs) ≡ None → count_by p (x ∷ xs) ≡ 0)
      [ true ↦ λ _ some. cc | false ↦ λ no rest. omega (arith, sum_by-cons (λ y. cond (p y) 1 0) x xs, ap {B = ℕ} (λ b. cond b 1 0) no, count_by-not_found xs rest) ]) refl none

module _ {K : Type 0} where
  -- what depends on no age
  module _ (g : SmallEntry K → ℕ) (ageless : (e : SmallEntry K) (age : Age) → g (with_age e age) ≡ g e) where
    pub weight-small_hit : (is : K → Bool) (small : List (SmallEntry K)) → sum_by g (small_hit is small) ≡ sum_by g small
    weight-small_hit is =
        sum_by-kept g _ (λ e. elim (is e.key) as (λ b. g (if b then with_age e (touched e.age) else e) ≡ g e) [ true ↦ ageless e (touched e.age) | false ↦ refl ])

    pub weight-admitted : (window : ℕ) (key : K) (slot : ℕ) (small : List (SmallEntry K))
        → sum_by g (small_admitted window key slot small) ≡ g (record { key = key; slot = slot; age = Young 0 }) + sum_by g small
    weight-admitted window key slot small =
        sum_by-cons g _ (map (λ e. with_age e (grown_older window e.age)) small)
        ∙ ap (λ n. g (record { key = key; slot = slot; age = Young 0 }) + n) (sum_by-kept g _ (λ e. ageless e (grown_older window e.age)) small)

  module _ (g : MainEntry K → ℕ) (bitless : (e : MainEntry K) (bit : Bool) → g (with_bit e bit) ≡ g e) where
    pub weight-main_hit : (is : K → Bool) (main : List (MainEntry K)) → sum_by g (main_hit is main) ≡ sum_by g main
    weight-main_hit is = sum_by-kept g _ (λ e. elim (is e.key) as (λ b. g (if b then with_bit e true else e) ≡ g e) [ true ↦ bitless e true | false ↦ refl ])

    pub weight-from_victim : (main : List (MainEntry K)) → sum_by g (from_victim main) ≡ sum_by g main
    weight-from_victim main =
        omega (
          arith,
          sum_by-append g (drop (set_front main) main) (map (λ e. with_bit e false) (take (set_front main) main)),
          sum_by-kept g (λ e. with_bit e false) (λ e. bitless e false) (take (set_front main) main),
          sum_by-take-drop g main (set_front main),
        )

    pub weight-behind : (key : K) (slot : ℕ) (main : List (MainEntry K)) → sum_by g (behind_hand key slot main) ≡ sum_by g main + g (record { key = key; slot = slot; bit = false })
    weight-behind key slot main = sum_by_push g main (record { key = key; slot = slot; bit = false })

module _ {K : Type 0} where
  pub length-admitted : (window : ℕ) (key : K) (slot : ℕ) (small : List (SmallEntry K)) → length (small_admitted window key slot small) ≡ suc (length small)
  length-admitted window key slot small = ap suc (length-map small _)

  -- a sweep of the hand leaves as many entries
  pub length-from_victim : (main : List (MainEntry K)) → length (from_victim main) ≡ length main
  length-from_victim main =
      let front : set_front main ≤ length main = prefix_len-le-length (λ e. e.bit) main in
      simp (length-append, length-map, length-drop, length-take) (omega arith)

-- a list without its last element
pub weight-last : {X : Type 0} (g : X → ℕ) (o : Option X) (xs : List X) (x : X) → 0 < length xs → last_or o xs ≡ Some x
    → (sum_by g (take (length xs - 1) xs) + g x ≡ sum_by g xs) × (length (take (length xs - 1) xs) + 1 ≡ length xs)
weight-last g o [] x some last = absurd (omega arith)
weight-last g o (y ∷ []) x some last = (omega (arith, ap g (some_is last)), refl) where
  some_is : Some y ≡ Some x → y ≡ x
  some_is e = cc
weight-last g o (y ∷ z ∷ zs) x some last =
    let n : suc (suc (length zs)) - 1 ≡ suc (suc (length zs) - 1) = omega arith in
    let rest = weight-last g (Some y) (z ∷ zs) x (omega arith) last in (
      ap (λ k. sum_by g (take k (y ∷ z ∷ zs)) + g x) n ∙ omega (arith, sum_by-cons g y (take (suc (length zs) - 1) (z ∷ zs)), sum_by-cons g y (z ∷ zs), rest.0),
      omega (arith, ap (λ k. length (take k (y ∷ z ∷ zs))) n, rest.1),
    )
