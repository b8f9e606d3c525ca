-- The first word of a line whose bytes are digits so far.
use Rattle.std.proofs.Common.{◌≡◌, ℕ, zero, suc, ◌+◌, ◌-◌, ◌*◌, ◌<◌, ◌≤◌, ◌^◌, Bool, true, false, not, ◌&&◌, cond, eqb, ltb, List, [], ◌∷◌, ◌++◌, length, take, drop, get_or, Option, Some, None, refl, sym, ap, ◌∙◌, subst, arith}
use Rattle.std.specs.Borrow.{Bor}
use Rattle.std.specs.Bool.{then_some}
use Rattle.std.specs.Char.{is_ascii_digit}
use Rattle.std.specs.List.{slice_split, onto_first}
use Rattle.std.specs.Option.{option_map}
use Rattle.std.specs.Str.{all_ascii_digits}
use Rattle.std.specs.Str.Parse.{digits_value}
use Rattle.std.proofs.lemmas.Bool.{ne_eqb, lt-ltb}
use Rattle.clock2q_text.specs.Cut.{words_after, number_first}
use Rattle.clock2q_text.specs.Text.{words_of, number_of}
use Rattle.clock2q_ports.proofs.Lines.{parts_are_some}
use Rattle.clock2q_ports.proofs.Digits.{other-at}
use Rattle.clock2q_text.proofs.Numbers.{number_of-empty, number_of-digits, number_of-other, large-more}

abbrev is_space : ℕ → Bool
is_space b = eqb b 32

-- a digit isn't a space
digit_is_no_space : (b : ℕ) → is_ascii_digit b ≡ true → b ≡ 32 → ⊥
digit_is_no_space b e space = not_digit (subst (λ x. is_ascii_digit x ≡ true) space e) where
  not_digit : is_ascii_digit 32 ≡ true → ⊥
  not_digit h = cc

-- both sides of a conjunction
both : (a b : Bool) → a && b ≡ true → (a ≡ true) × (b ≡ true)
both true b e = (refl, e)
both false b e = cc

-- the parts if the first byte isn't a space
parts_on : (b : ℕ) (bytes : List ℕ) (parts : List (List ℕ)) → is_space b ≡ false → slice_split is_space bytes ≡ parts → slice_split is_space (b ∷ bytes) ≡ onto_first b parts
parts_on b bytes parts other e = ap (λ t. cond t ([] ∷ slice_split is_space bytes) (onto_first b (slice_split is_space bytes))) other ∙ ap (onto_first b) e

-- digits up to a space are the first word
split-digits : (front rest : List ℕ) → all_ascii_digits front ≡ true → slice_split is_space (front ++ 32 ∷ rest) ≡ front ∷ slice_split is_space rest
split-digits [] rest e = refl
split-digits (b ∷ front) rest e =
    let h = both (is_ascii_digit b) (all_ascii_digits front) e in
    parts_on b (front ++ 32 ∷ rest) (front ∷ slice_split is_space rest) (ne_eqb b 32 (digit_is_no_space b h.0)) (split-digits front rest h.1)

-- digits alone are the only word
split-whole : (bytes : List ℕ) → all_ascii_digits bytes ≡ true → slice_split is_space bytes ≡ bytes ∷ []
split-whole [] e = refl
split-whole (b ∷ bytes) e =
    let h = both (is_ascii_digit b) (all_ascii_digits bytes) e in
    parts_on b bytes (bytes ∷ []) (ne_eqb b 32 (digit_is_no_space b h.0)) (split-whole bytes h.1)

-- the first word extends over the byte at i, after the same bytes
record GoesOver (bytes : List ℕ) (i : ℕ) : Type 0 where
  word : List ℕ
  others : List (List ℕ)
  split : slice_split is_space bytes ≡ word ∷ others
  longer : i < length word
  front : take i word ≡ take i bytes
  byte : get_or word i 0 ≡ get_or bytes i 0

goes_over : (bytes : List ℕ) (i : ℕ) → i < length bytes → all_ascii_digits (take i bytes) ≡ true → (get_or bytes i 0 ≡ 32 → ⊥) → GoesOver bytes i
goes_over [] i h all other = absurd (omega (arith, h))
goes_over (b ∷ bytes) zero h all other = begun (slice_split is_space bytes) refl where
  begun : (parts : List (List ℕ)) → slice_split is_space bytes ≡ parts → GoesOver (b ∷ bytes) zero
  begun [] e = absurd (parts_are_some is_space bytes e)
  begun (part ∷ parts) e = record { word = b ∷ part; others = parts; split = parts_on b bytes (part ∷ parts) (ne_eqb b 32 other) e; longer = omega arith; front = refl; byte = refl }
goes_over (b ∷ bytes) (suc i) h all other =
    let digits = both (is_ascii_digit b) (all_ascii_digits (take i bytes)) all in
    let rest : GoesOver bytes i = goes_over bytes i (omega (arith, h)) digits.1 other in
    record {
      word = b ∷ rest.word;
      others = rest.others;
      split = parts_on b bytes (rest.word ∷ rest.others) (ne_eqb b 32 (digit_is_no_space b digits.0)) rest.split;
      longer = omega (arith, rest.longer);
      front = ap (λ xs. b ∷ xs) rest.front;
      byte = rest.byte;
    }

-- no number if the first word has another byte
pub first-other : (words : List ℕ) (i : ℕ) → i < length words → all_ascii_digits (take i words) ≡ true
    → (get_or words i 0 ≡ 32 → ⊥) → is_ascii_digit (get_or words i 0) ≡ false → number_first (words_of words) ≡ None
unfolding words_of
first-other words i h all unspaced other =
    let over = goes_over words i h all unspaced in
    ap number_first over.split ∙ ap (option_map (λ n. (n, over.others))) (number_of-other over.word (other-at over.word i over.longer (ap is_ascii_digit over.byte ∙ other)))

-- nor if it has a digit too many
pub first-large : (words : List ℕ) (i : ℕ) → i < length words → all_ascii_digits (take i words) ≡ true → is_ascii_digit (get_or words i 0) ≡ true
    → 2 ^ 64 ≤ digits_value 10 (take i words) * 10 + (get_or words i 0 - 48) → number_first (words_of words) ≡ None
unfolding words_of
first-large words i h all digit large =
    let over = goes_over words i h all (λ space. digit_is_no_space _ digit space) in
    ap number_first over.split ∙ ap (option_map (λ n. (n, over.others))) (large-more over.word i over.longer (ap is_ascii_digit over.byte ∙ digit)
    (subst (λ xs. 2 ^ 64 ≤ digits_value 10 xs * 10 + (get_or over.word i 0 - 48)) (sym over.front) (subst (λ b. 2 ^ 64 ≤ digits_value 10 (take i words) * 10 + (b - 48)) (sym over.byte) large)))

-- digits as a number, if there is one
number-of-some : (word : List ℕ) (value : ℕ) → all_ascii_digits word ≡ true → value ≡ digits_value 10 word → value < 2 ^ 64 → number_of word ≡ then_some (ltb 0 (length word)) value
number-of-some [] value all e small = number_of-empty [] refl
number-of-some (b ∷ word) value all e small = rw (lt-ltb 0 (length (b ∷ word)) (omega arith)) (number_of-digits (b ∷ word) (omega arith) all (omega (arith, e, small)) ∙ ap Some (sym e))

-- what was read, seen as contracts do
mapped : {X Y : Type 0} (f : X → Y) (b : Bool) (x : X) → option_map f (then_some b x) ≡ then_some b (f x)
mapped f true x = refl
mapped f false x = refl

-- a list split around one of its elements
around : (xs : List ℕ) (i : ℕ) → i < length xs → xs ≡ take i xs ++ get_or xs i 0 ∷ drop (suc i) xs
around [] i h = absurd (omega (arith, h))
around (x ∷ xs) zero h = refl
around (x ∷ xs) (suc i) h = ap (λ ys. x ∷ ys) (around xs i (omega (arith, h)))

-- whether a prefix is empty
test_begun : (xs : List ℕ) (i : ℕ) → i < length xs → ltb 0 (length (take i xs)) ≡ ltb 0 i
test_begun [] i h = absurd (omega (arith, h))
test_begun (x ∷ xs) zero h = refl
test_begun (x ∷ xs) (suc i) h = rw (lt-ltb 0 (suc (length (take i xs))) (omega arith), lt-ltb 0 (suc i) (omega arith)) refl

-- what was read, as contracts see it
abbrev pub read_as : ℕ × Option (Bor (List ℕ)) → ℕ × List (List ℕ)
read_as read = (read.0, words_after read.1)

-- the number before a space
pub first-spaced : (words : List ℕ) (i value : ℕ) (rest : Bor (List ℕ)) → i < length words → all_ascii_digits (take i words) ≡ true
    → value ≡ digits_value 10 (take i words) → value < 2 ^ 64 → get_or words i 0 ≡ 32 → rest.now ≡ drop (i + 1) words
    → option_map read_as (then_some (ltb 0 i) (value, Some rest)) ≡ number_first (words_of words)
unfolding words_of
first-spaced words i value rest h all e small space r =
    let next : i + 1 ≡ suc i = omega arith in
    let here : words ≡ take i words ++ 32 ∷ rest.now =
    subst (λ b. words ≡ take i words ++ b ∷ rest.now) space (subst (λ xs. words ≡ take i words ++ get_or words i 0 ∷ xs) (sym (r ∙ ap (λ n. drop n words) next)) (around words i h)) in
    let split : slice_split is_space words ≡ take i words ∷ slice_split is_space rest.now = ap (slice_split is_space) here ∙ split-digits (take i words) rest.now all in
    mapped read_as (ltb 0 i) (value, Some rest)
    ∙ sym (ap number_first split ∙ ap (option_map (λ n. (n, slice_split is_space rest.now))) (number-of-some (take i words) value all e small)
    ∙ mapped (λ n. (n, slice_split is_space rest.now)) (ltb 0 (length (take i words))) value
    ∙ ap (λ b. then_some b (value, slice_split is_space rest.now)) (test_begun words i h))

-- the number that is the only word
pub first-whole : (words : List ℕ) (value : ℕ) → all_ascii_digits words ≡ true → value ≡ digits_value 10 words
    → value < 2 ^ 64 → option_map read_as (then_some (not (eqb (length words) 0)) (value, None)) ≡ number_first (words_of words)
unfolding words_of
first-whole words value all e small =
    mapped read_as (not (eqb (length words) 0)) (value, None)
    ∙ sym (ap number_first (split-whole words all) ∙ ap (option_map (λ n. (n, []))) (number-of-some words value all e small) ∙ mapped (λ n. (n, [])) (ltb 0 (length words)) value
    ∙ ap (λ b. then_some b (value, [])) (some words)) where
      some : (xs : List ℕ) → ltb 0 (length xs) ≡ not (eqb (length xs) 0)
      some [] = refl
      some (x ∷ xs) = rw (lt-ltb 0 (length (x ∷ xs)) (omega arith), ne_eqb (length (x ∷ xs)) 0 (λ z. omega (arith, z))) refl
