-- What repeats every m slots is determined by any lap of it.
use Rattle.std.proofs.Common.{◌≡◌, ℕ, zero, suc, ◌+◌, ◌-◌, ◌*◌, ◌/◌, ◌%◌, ◌^◌, ◌<◌, ◌≤◌, ap, sym, ◌∙◌, arith, div-add-mod', le-mul_of_pos_right, mul-le-mul_right}
use Rattle.std.proofs.lemmas.Bool.{cases_lt}
use Rattle.std.proofs.lemmas.Nat.{pow-add, pow_below}
use Rattle.std.proofs.Math.Nat.{add-mod_right}

pub again-at : {X : Type 0} (f : ℕ → X) (m : ℕ) → ((n : ℕ) → f (n + m) ≡ f n) → (n k : ℕ) → n ≡ k + m → f n ≡ f k
again-at f m again n k e = ap f e ∙ again k

pub again-times : {X : Type 0} (f : ℕ → X) (m : ℕ) → ((n : ℕ) → f (n + m) ≡ f n) → (n k : ℕ) → f (n + k * m) ≡ f n
again-times f m again n zero = grind arith
again-times f m again n (suc k) = grind (arith, again-times f m again n k)

-- how far past h, by less than a lap, the slot with the contents of n is
pub lap : ℕ → ℕ → ℕ → ℕ
lap m h n = (n + h * m - h) % m

pub lap-lt : (m h n : ℕ) → 0 < m → lap m h n < m
unfolding lap
lap-lt m h n some = omega arith

pub lap-same : {X : Type 0} (f : ℕ → X) (m : ℕ) → ((n : ℕ) → f (n + m) ≡ f n) → 0 < m → (h n : ℕ) → f (h + lap m h n) ≡ f n
unfolding lap
lap-same f m again some h n =
    let e : h + lap m h n + ((n + h * m - h) / m) * m ≡ n + h * m = omega (arith, div-add-mod' (n + h * m - h) m, le-mul_of_pos_right h some) in
    sym (again-times f m again (h + lap m h n) ((n + h * m - h) / m)) ∙ ap f e ∙ again-times f m again n h

pub rem-same : {X : Type 0} (f : ℕ → X) (m : ℕ) → ((n : ℕ) → f (n + m) ≡ f n) → (n : ℕ) → f (n % m) ≡ f n
rem-same f m again n = grind (arith, div-add-mod' n m, again-times f m again (n % m) (n / m))

-- slots less than a lap apart are not the same
pub rems-differ : (m a b : ℕ) → a < b → b < a + m → a % m ≡ b % m → ⊥
rems-differ m a b l u e = grind (arith, div-add-mod', mul-le-mul_right)

-- no home of the lap after h + v but h + m is the home of h
pub other_home : (m h v j : ℕ) → v < m → j < m → (j ≡ m - suc v → ⊥) → (h + suc v + j) % m ≡ h % m → ⊥
other_home m h v j l u other e = grind (arith, rems-differ, add-mod_right h m)

-- a power of two is a multiple of each smaller one
pub powers-divide : (a b : ℕ) → 2 ^ a ≤ 2 ^ b → (k : ℕ) × (2 ^ b ≡ k * 2 ^ a)
powers-divide a b l = grind (arith, cases_lt b a, pow_below, pow-add 2 (b - a) a)
