-- Sums of numbers in a row: one more of them, halves, blocks, and one that changes.
use Rattle.std.proofs.Common.{◌≡◌, ◌≢◌, ℕ, zero, suc, ◌+◌, ◌*◌, ◌<◌, ◌≤◌, refl, sym, ap, arith, inl, inr}
use Rattle.std.proofs.lemmas.Bool.{cases_eq}
use Rattle.simulator_policies.specs.CountTree.{sum_in}

-- the same numbers have the same sum
pub sum_same : (f g : ℕ → ℕ) (first n : ℕ) → ((i : ℕ) → first ≤ i → i < first + n → f i ≡ g i) → sum_in f first n ≡ sum_in g first n
sum_same f g first zero same = refl
sum_same f g first (suc n) same =
    let rest : sum_in f first n ≡ sum_in g first n = sum_same f g first n (λ i from below. same i from (omega (arith, below))) in
    omega (arith, rest, same (first + n) (omega arith) (omega arith))

-- numbers that are all 0 have the sum 0
pub sum_none : (f : ℕ → ℕ) (first n : ℕ) → ((i : ℕ) → first ≤ i → i < first + n → f i ≡ 0) → sum_in f first n ≡ 0
sum_none f first zero none = refl
sum_none f first (suc n) none =
    let rest : sum_in f first n ≡ 0 = sum_none f first n (λ i from below. none i from (omega (arith, below))) in
    omega (arith, rest, none (first + n) (omega arith) (omega arith))

pub sum_split : (f : ℕ → ℕ) (first m n : ℕ) → sum_in f first (m + n) ≡ sum_in f first m + sum_in f (first + m) n
sum_split f first m zero =
    let all : m + 0 ≡ m = omega arith in
    omega (arith, ap (sum_in f first) all)
sum_split f first m (suc n) =
    let more : m + suc n ≡ suc (m + n) = omega arith in
    let place : first + (m + n) ≡ first + m + n = omega arith in
    omega (arith, ap (sum_in f first) more, sum_split f first m n, ap f place)

-- the first of them
pub sum_first : (f : ℕ → ℕ) (first n : ℕ) → sum_in f first (suc n) ≡ f first + sum_in f (suc first) n
sum_first f first n =
    let more : suc n ≡ 1 + n = omega arith in
    let here : first + 0 ≡ first = omega arith in
    let next : first + 1 ≡ suc first = omega arith in
    omega (arith, ap (sum_in f first) more, sum_split f first 1 n, ap f here, ap (λ m. sum_in f m n) next)

-- numbers that are each the sum of a row of others
pub sum_rows : (f g : ℕ → ℕ) (long first n : ℕ) → ((i : ℕ) → first ≤ i → i < first + n → g i ≡ sum_in f (long * i) long) → sum_in f (long * first) (long * n) ≡ sum_in g first n
sum_rows f g long first zero each =
    let none : long * 0 ≡ 0 = omega arith in
    ap (sum_in f (long * first)) none
sum_rows f g long first (suc n) each =
    let more : long * suc n ≡ long * n + long = omega arith in
    let place : long * first + long * n ≡ long * (first + n) = omega arith in
    let rest : sum_in f (long * first) (long * n) ≡ sum_in g first n = sum_rows f g long first n (λ i from below. each i from (omega (arith, below))) in
    omega (
      arith,
      ap (sum_in f (long * first)) more,
      sum_split f (long * first) (long * n) long,
      ap (λ m. sum_in f m long) place,
      rest,
      each (first + n) (omega arith) (omega arith),
    )

-- one number is more by one
pub sum_more : (f g : ℕ → ℕ) (place first n : ℕ) → first ≤ place → place < first + n → g place ≡ f place + 1 → ((i : ℕ) → i ≢ place → g i ≡ f i) → sum_in g first n ≡ sum_in f first n + 1
sum_more f g place first zero from below more others = absurd (omega (arith, from, below))
sum_more f g place first (suc n) from below more others = elim (cases_eq place (first + n)) [
  | inl last ↦
      let rest : sum_in g first n ≡ sum_in f first n = sum_same g f first n (λ i after before. others i (omega (arith, before, last))) in
      omega (arith, rest, ap g last, ap f last, more)
  | inr earlier ↦
      let rest : sum_in g first n ≡ sum_in f first n + 1 = sum_more f g place first n from (omega (arith, below, earlier)) more others in
      let same : first + n ≢ place = λ e. earlier (sym e) in
      omega (arith, rest, others (first + n) same)
]
