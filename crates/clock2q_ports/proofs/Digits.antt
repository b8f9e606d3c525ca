-- A word of digits, read byte by byte.
use Rattle.std.proofs.Common.{◌≡◌, ℕ, zero, suc, ◌+◌, ◌-◌, ◌*◌, ◌<◌, Bool, true, false, ◌&&◌, List, [], ◌∷◌, length, take, get_or, refl, ap, subst, arith, rules, tests}
use Rattle.std.specs.Char.{is_ascii_digit}
use Rattle.std.specs.Str.{all_ascii_digits}
use Rattle.std.specs.Str.Parse.{digits_value}
use Rattle.std.proofs.lemmas.Str.{digit_value_digit}
use Rattle.std.proofs.lemmas.Int.Digits.{digits_value_more}

-- a byte that isn't a digit
pub other-at : (word : List ℕ) (i : ℕ) → i < length word → is_ascii_digit (get_or word i 0) ≡ false → all_ascii_digits word ≡ false
other-at [] i h e = absurd (omega (arith, h))
other-at (c ∷ cs) zero h e = ap (λ b. b && all_ascii_digits cs) e
other-at (c ∷ cs) (suc i) h e = rest (is_ascii_digit c) (other-at cs i (omega (arith, h)) e) where
  rest : (b : Bool) → all_ascii_digits cs ≡ false → b && all_ascii_digits cs ≡ false
  rest true r = r
  rest false r = refl

-- one more digit
digits-next : (word : List ℕ) (i : ℕ) → i < length word → all_ascii_digits (take i word) ≡ true → is_ascii_digit (get_or word i 0) ≡ true → all_ascii_digits (take (suc i) word) ≡ true
digits-next [] i h all e = absurd (omega (arith, h))
digits-next (c ∷ cs) zero h all e = ap (λ b. b && true) e
digits-next (c ∷ cs) (suc i) h all e = rest (is_ascii_digit c) all (λ r. digits-next cs i (omega (arith, h)) r e) where
  rest : (b : Bool) → b && all_ascii_digits (take i cs) ≡ true → (all_ascii_digits (take i cs) ≡ true → all_ascii_digits (take (suc i) cs) ≡ true) → b && all_ascii_digits (take (suc i) cs) ≡ true
  rest true r k = k r
  rest false r k = cc

pub digits-more : (word : List ℕ) (i : ℕ) → i < length word → all_ascii_digits (take i word) ≡ true → is_ascii_digit (get_or word i 0) ≡ true → all_ascii_digits (take (i + 1) word) ≡ true
digits-more word i h all e = let one : suc i ≡ i + 1 = omega arith in subst (λ n. all_ascii_digits (take n word) ≡ true) one (digits-next word i h all e)

-- and the value of the digits with it
pub value-more : (word : List ℕ) (i : ℕ) → i < length word → is_ascii_digit (get_or word i 0) ≡ true → digits_value 10 (take (i + 1) word) ≡ digits_value 10 (take i word) * 10 + (get_or word i 0 - 48)
value-more word i h e = omega (arith, digits_value_more 10 word i h, digit_value_digit (get_or word i 0) (search (rules, tests, e)))
