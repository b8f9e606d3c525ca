-- What a word of digits reads as.
use Rattle.std.proofs.Common.{◌≡◌, ℕ, ◌+◌, ◌-◌, ◌*◌, ◌<◌, ◌≤◌, ◌^◌, Bool, true, false, cond, ◌&&◌, List, [], ◌∷◌, length, take, get_or, Some, None, ltb, refl, arith}
use Rattle.std.specs.Char.{is_ascii_digit}
use Rattle.std.specs.Str.{all_ascii_digits}
use Rattle.std.specs.Str.Parse.{digits_value}
use Rattle.std.proofs.lemmas.Bool.{lt-ltb, le-ltb}
use Rattle.std.proofs.lemmas.Str.Parse.{digits_value-take-le}
use Rattle.clock2q_ports.proofs.Digits.{value-more}
use Rattle.clock2q_text.specs.Text.{number_of}

-- an empty word isn't a number
pub number_of-empty : (word : List ℕ) → length word ≡ 0 → number_of word ≡ None
unfolding number_of
number_of-empty [] e = refl
number_of-empty (c ∷ cs) e = absurd (omega (arith, e))

-- a word with a byte that isn't a digit isn't a number
pub number_of-other : (word : List ℕ) → all_ascii_digits word ≡ false → number_of word ≡ None
unfolding number_of
number_of-other word h = other (ltb 0 (length word)) (ltb (digits_value 10 word) (2 ^ 64)) (all_ascii_digits word) h where
  other : (b d c : Bool) → c ≡ false → cond (b && c && d) (Some (digits_value 10 word)) None ≡ None
  other b d true e = cc
  other true d false e = refl
  other false d false e = refl

-- digits whose value is too large aren't a number
pub number_of-large : (word : List ℕ) → 2 ^ 64 ≤ digits_value 10 word → number_of word ≡ None
unfolding number_of
number_of-large word h = large (ltb 0 (length word)) (all_ascii_digits word) (ltb (digits_value 10 word) (2 ^ 64)) (le-ltb (digits_value 10 word) (2 ^ 64) h) where
  large : (b c d : Bool) → d ≡ false → cond (b && c && d) (Some (digits_value 10 word)) None ≡ None
  large b c true e = cc
  large true true false e = refl
  large true false false e = refl
  large false c false e = refl

-- other digits are one
pub number_of-digits : (word : List ℕ) → 0 < length word → all_ascii_digits word ≡ true → digits_value 10 word < 2 ^ 64 → number_of word ≡ Some (digits_value 10 word)
unfolding number_of
number_of-digits word some digits small = rw (lt-ltb 0 (length word) some, digits, lt-ltb (digits_value 10 word) (2 ^ 64) small) refl

-- a word with a prefix that is too large is too large
pub large-more : (word : List ℕ) (i : ℕ) → i < length word → is_ascii_digit (get_or word i 0) ≡ true → 2 ^ 64 ≤ digits_value 10 (take i word) * 10 + (get_or word i 0 - 48) → number_of word ≡ None
large-more word i h e large = number_of-large word (omega (arith, large, value-more word i h e, digits_value-take-le 10 word (i + 1) (omega arith)))
