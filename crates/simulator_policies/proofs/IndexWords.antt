-- The words of a set of indices: what one more index or one less changes, and the last one.
use Rattle.std.proofs.Common.{◌≡◌, ◌≢◌, ℕ, zero, suc, ◌+◌, ◌*◌, ◌-◌, ◌/◌, ◌%◌, ◌^◌, ◌<◌, ◌≤◌, w64, Bool, nat_lt, bit_and, bit_or, refl, sym, ap, ◌∙◌, arith, inl, inr, List, length, set}
use Rattle.std.proofs.Common.{get_or, get_or-set_same, get_or-set_other}
use Rattle.std.specs.Int.{bit_at, bit_not, trailing_zeros}
use Rattle.std.proofs.lemmas.Bool.{cases_eq, cases_lt}
use Rattle.std.proofs.lemmas.List.{get_or_past}
use Rattle.std.proofs.lemmas.Nat.Bits.{bit_at-zero, bit_at_set_same, bit_at_set_other, bit_at_clear_same, bit_at_clear_other, bit_at-trailing_zeros}

-- the word of an index, and its bit there
abbrev pub word_at : List ℕ → ℕ → ℕ
word_at words word = get_or words word 0

abbrev pub bit : List ℕ → ℕ → ℕ
bit words index = bit_at (word_at words (index / 64)) (63 - index % 64)

-- a word that isn't 0 is in the list
pub within_words : (words : List ℕ) (word : ℕ) → 0 < word_at words word → word < length words
within_words words word some = elim (cases_lt word (length words)) [
  | inl within ↦ within
  | inr past ↦ absurd (let none : word_at words word ≡ 0 = get_or_past words word 0 past in omega (arith, none, some))
]

-- different indices of one word have different places
apart_there : (i j : ℕ) → i ≢ j → i / 64 ≡ j / 64 → 63 - i % 64 ≢ 63 - j % 64
apart_there i j apart one same = apart (omega (arith, one, same))

-- a bit is 1 only in a word that isn't 0
pub some_bit : (n i : ℕ) → bit_at n i ≡ 1 → 0 < n
some_bit zero i is = absurd (let none : bit_at 0 i ≡ 0 = bit_at-zero i in omega (arith, none, is))
some_bit (suc n) i is = omega arith

-- one word is replaced
module _ (words : List ℕ) (index new : ℕ) (within : index / 64 < length words) where
  same_word : (other : ℕ) → other / 64 ≡ index / 64 → bit (set words (index / 64) new) other ≡ bit_at new (63 - other % 64)
  same_word other is =
      ap (λ w. bit_at (word_at (set words (index / 64) new) w) (63 - other % 64)) is
      ∙ ap (λ n. bit_at n (63 - other % 64)) (get_or-set_same words (index / 64) new 0 within)

  other_word : (other : ℕ) → other / 64 ≢ index / 64 → bit (set words (index / 64) new) other ≡ bit words other
  other_word other apart = ap (λ n. bit_at n (63 - other % 64)) (get_or-set_other words (index / 64) (other / 64) new 0 apart)

  -- if the other places of the word keep their bits, all other indices do
  pub others_kept : ((place : ℕ) → place < 64 → place ≢ 63 - index % 64 → bit_at new place ≡ bit_at (word_at words (index / 64)) place)
      → (other : ℕ) → other ≢ index → bit (set words (index / 64) new) other ≡ bit words other
  others_kept kept other apart = elim (cases_eq (other / 64) (index / 64)) [
    | inl is ↦
        same_word other is ∙ kept (63 - other % 64) (omega arith) (apart_there other index apart is)
        ∙ ap (λ w. bit_at (word_at words w) (63 - other % 64)) (sym is)
    | inr else ↦ other_word other else
  ]

  pub own_bit : bit (set words (index / 64) new) index ≡ bit_at new (63 - index % 64)
  own_bit = same_word index refl

  -- the words that aren't 0, after the one is replaced
  pub marked_words : (old marks : ℕ → Bool) → ((word : ℕ) → old word ≡ nat_lt 0 (word_at words word))
      → ((word : ℕ) → word ≢ index / 64 → marks word ≡ old word) → marks (index / 64) ≡ nat_lt 0 new
      → (word : ℕ) → marks word ≡ nat_lt 0 (word_at (set words (index / 64) new) word)
  marked_words old marks each others own word = elim (cases_eq word (index / 64)) [
    | inl is ↦
        ap marks is ∙ own ∙ ap (nat_lt 0) (sym (get_or-set_same words (index / 64) new 0 within))
        ∙ ap (λ w. nat_lt 0 (word_at (set words (index / 64) new) w)) (sym is)
    | inr else ↦
        others word else ∙ each word ∙ ap (nat_lt 0) (sym (get_or-set_other words (index / 64) word new 0 else))
  ]

-- a bit that is set, and one that is cleared
module _ (n index : ℕ) where
  pub set_own : bit_at (bit_or n (1 * 2 ^ (63 - index % 64) % 2 ^ 64)) (63 - index % 64) ≡ 1
  set_own = bit_at_set_same w64 n (63 - index % 64) (omega arith)

  pub set_others : (place : ℕ) → place < 64 → place ≢ 63 - index % 64
      → bit_at (bit_or n (1 * 2 ^ (63 - index % 64) % 2 ^ 64)) place ≡ bit_at n place
  set_others place low apart = bit_at_set_other w64 n (63 - index % 64) (omega arith) place apart

  pub clear_own : bit_at (bit_and n (bit_not w64 (1 * 2 ^ (63 - index % 64) % 2 ^ 64))) (63 - index % 64) ≡ 0
  clear_own = bit_at_clear_same w64 n (63 - index % 64) (omega arith)

  pub clear_others : (place : ℕ) → place < 64 → place ≢ 63 - index % 64
      → bit_at (bit_and n (bit_not w64 (1 * 2 ^ (63 - index % 64) % 2 ^ 64))) place ≡ bit_at n place
  clear_others place low apart = bit_at_clear_other w64 n (63 - index % 64) (omega arith) place low apart

-- an index is added to its word, which was read, or removed
module _ (words : List ℕ) (index n place : ℕ) (within : index / 64 < length words)
    (read : n ≡ word_at words (index / 64)) (at : place ≡ 63 - index % 64) where
  abbrev pub added : ℕ
  added = bit_or n (1 * 2 ^ place % 2 ^ 64)

  abbrev pub removed : ℕ
  removed = bit_and n (bit_not w64 (1 * 2 ^ place % 2 ^ 64))

  pub added_own : bit (set words (index / 64) added) index ≡ 1
  added_own =
      own_bit words index added within
      ∙ ap (λ k. bit_at (bit_or n (1 * 2 ^ k % 2 ^ 64)) (63 - index % 64)) at ∙ set_own n index

  pub added_some : 0 < added
  added_some = some_bit added (63 - index % 64) (sym (own_bit words index added within) ∙ added_own)

  pub added_others : (other : ℕ) → other ≢ index → bit (set words (index / 64) added) other ≡ bit words other
  added_others = others_kept words index added within (λ other low apart.
      ap (λ k. bit_at (bit_or n (1 * 2 ^ k % 2 ^ 64)) other) at ∙ set_others n index other low apart
      ∙ ap (λ m. bit_at m other) read)

  pub removed_own : bit (set words (index / 64) removed) index ≡ 0
  removed_own =
      own_bit words index removed within
      ∙ ap (λ k. bit_at (bit_and n (bit_not w64 (1 * 2 ^ k % 2 ^ 64))) (63 - index % 64)) at ∙ clear_own n index

  pub removed_others : (other : ℕ) → other ≢ index → bit (set words (index / 64) removed) other ≡ bit words other
  removed_others = others_kept words index removed within (λ other low apart.
      ap (λ k. bit_at (bit_and n (bit_not w64 (1 * 2 ^ k % 2 ^ 64))) other) at ∙ clear_others n index other low apart
      ∙ ap (λ m. bit_at m other) read)

-- the last index is that of the lowest bit of the last word that isn't 0
module _ (words : List ℕ) (word : ℕ) (some : 0 < word_at words word) (fits : word_at words word < 2 ^ 64)
    (last : (other : ℕ) → 0 < word_at words other → other ≤ word) where
  abbrev lowest : ℕ
  lowest = trailing_zeros w64 (word_at words word)

  pub lowest_below : lowest < 64
  lowest_below = (bit_at-trailing_zeros w64 (word_at words word) some fits).0

  pub last_bit : bit words (word * 64 + (63 - lowest)) ≡ 1
  last_bit =
      let here : (word * 64 + (63 - lowest)) / 64 ≡ word = omega (arith, lowest_below) in
      let place : 63 - (word * 64 + (63 - lowest)) % 64 ≡ lowest = omega (arith, lowest_below) in
      ap (λ w. bit_at (word_at words w) (63 - (word * 64 + (63 - lowest)) % 64)) here
      ∙ ap (bit_at (word_at words word)) place ∙ (bit_at-trailing_zeros w64 (word_at words word) some fits).1

  pub none_later : (other : ℕ) → bit words other ≡ 1 → other ≤ word * 64 + (63 - lowest)
  none_later other is =
      let before : other / 64 ≤ word = last (other / 64) (some_bit (word_at words (other / 64)) (63 - other % 64) is) in
      elim (cases_eq (other / 64) word) [
        | inl same ↦
            let there : bit_at (word_at words word) (63 - other % 64) ≡ 1 = ap (λ w. bit_at (word_at words w) (63 - other % 64)) (sym same) ∙ is in
            elim (cases_lt (63 - other % 64) lowest) [
              | inl below ↦
                  absurd (let none : bit_at (word_at words word) (63 - other % 64) ≡ 0 = (bit_at-trailing_zeros w64 (word_at words word) some fits).2 (63 - other % 64) below in omega (arith, none, there))
              | inr above ↦ omega (arith, same, above, lowest_below)
            ]
        | inr else ↦ omega (arith, before, else, lowest_below)
      ]
