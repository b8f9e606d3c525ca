-- A list read element by element; memory may run out on the way.
use Rattle.std.proofs.Common.{◌≡◌, ℕ, Bool, true, false, cond, eqb, List, [], ◌∷◌, ◌++◌, length, Option, Some, None, refl, sym, ap, ◌∙◌, subst, append_assoc, append-nil, arith, rules}
use Rattle.std.specs.Prelude.{IsSome}
use Rattle.std.specs.List.{slice_split, onto_first}
use Rattle.std.specs.Option.{option_and_then, option_map}
use Rattle.std.proofs.lemmas.Bool.{eqb-true}
use Rattle.clock2q_text.specs.Cut.{number_first}
use Rattle.clock2q_text.specs.Text.{words_of, number_of, bit_of, all_read, some_read, with_one}
use Rattle.clock2q_text.proofs.Calling.{word_alone, words_are_some}

module _ {Y : Type 0} where
  -- what was read before, in front of what the others read as
  abbrev pub read_before : List Y → Option (List Y) → Option (List Y)
  read_before front rest = option_map (λ ys. front ++ ys) rest

  nothing_before : (o : Option (List Y)) → read_before [] o ≡ o
  nothing_before None = refl
  nothing_before (Some ys) = refl

  -- one more read before
  one_before : (front : List Y) (y : Y) (o : Option (List Y)) → read_before front (option_map (λ ys. y ∷ ys) o) ≡ read_before (front ++ y ∷ []) o
  one_before front y None = refl
  one_before front y (Some ys) = ap Some (sym (append_assoc front (y ∷ []) ys))

  some_before : (y : Y) (o : Option (List Y)) → IsSome o → IsSome (option_map (λ ys. y ∷ ys) o)
  some_before y None h = h
  some_before y (Some ys) h = h

module _ {X Y : Type 0} where
  -- all but the rest was read; the list has it, unless memory ran out
  pub record IsReadUpTo (read : X → Option Y) (whole rest : List X) (refused : Bool) (items : List Y) : Type 0 where
    pub kept : refused ≡ false → read_before items (all_read read rest) ≡ all_read read whole
    pub good : IsSome (all_read read rest) → IsSome (all_read read whole)
    pub bad : all_read read rest ≡ None → all_read read whole ≡ None

  pub IsReadUpTo-begun : (read : X → Option Y) (whole : List X) → IsReadUpTo read whole whole false []
  IsReadUpTo-begun read whole = record { kept = λ e. nothing_before (all_read read whole); good = λ h. h; bad = λ h. h }

  -- what is read of a list whose first element is read
  read-first : (read : X → Option Y) (x : X) (xs : List X) (y : Y) → read x ≡ Some y → all_read read (x ∷ xs) ≡ option_map (λ ys. y ∷ ys) (all_read read xs)
  read-first read x xs y e = ap (option_and_then (λ z. option_map (λ ys. z ∷ ys) (all_read read xs))) e

  -- one more was read
  pub IsReadUpTo-more : (read : X → Option Y) (whole : List X) (x : X) (rest : List X) (y : Y) (refused refuses : Bool) (items others : List Y)
      → IsReadUpTo read whole (x ∷ rest) refused items → read x ≡ Some y → (refuses ≡ false → (refused ≡ false) × (others ≡ items ++ y ∷ []))
      → IsReadUpTo read whole rest refuses others
  IsReadUpTo-more read whole x rest y refused refuses items others so e pushed = record {
    kept = λ h.
        let p = pushed h in
        ap (λ front. read_before front (all_read read rest)) p.1 ∙ sym (one_before items y (all_read read rest)) ∙ ap (read_before items) (sym (read-first read x rest y e)) ∙ so.kept p.0;
    good = λ h. so.good (subst (λ o. IsSome o) (sym (read-first read x rest y e)) (some_before y (all_read read rest) h));
    bad = λ h. so.bad (read-first read x rest y e ∙ ap (option_map (λ ys. y ∷ ys)) h);
  }

  -- the next isn't read
  pub IsReadUpTo-bad : (read : X → Option Y) (whole : List X) (x : X) (rest : List X) (refused : Bool) (items : List Y)
      → IsReadUpTo read whole (x ∷ rest) refused items → read x ≡ None → all_read read whole ≡ None
  IsReadUpTo-bad read whole x rest refused items so e = so.bad (ap (option_and_then (λ z. option_map (λ ys. z ∷ ys) (all_read read rest))) e)

  -- all was read
  pub IsReadUpTo-all : (read : X → Option Y) (whole : List X) (refused : Bool) (items : List Y) → IsReadUpTo read whole [] refused items → refused ≡ false → all_read read whole ≡ Some items
  IsReadUpTo-all read whole refused items so e = sym (so.kept e) ∙ ap Some (append-nil items)

  -- one or more
  pub some_read-all : (read : X → Option Y) (xs : List X) → (xs ≡ [] → ⊥) → some_read read xs ≡ all_read read xs
  some_read-all read [] h = absurd (h refl)
  some_read-all read (x ∷ xs) h = refl

-- nothing is read if the others aren't
nothing_after : (o : Option Bool) → option_and_then (λ y. option_map (λ ys. y ∷ ys) None) o ≡ None
nothing_after None = refl
nothing_after (Some y) = refl

-- a space isn't a bit
bits-spaced : (bytes part other : List ℕ) (others : List (List ℕ)) → slice_split (λ b. eqb b 32) bytes ≡ part ∷ other ∷ others → all_read bit_of bytes ≡ None
bits-spaced [] part other others e = cc
bits-spaced (b ∷ bytes) part other others e = byte (eqb b 32) refl (λ p q qs s. bits-spaced bytes p q qs s) where
  rest : (parts : List (List ℕ)) → slice_split (λ c. eqb c 32) bytes ≡ parts → onto_first b parts ≡ part ∷ other ∷ others
      → ((p q : List ℕ) (qs : List (List ℕ)) → slice_split (λ c. eqb c 32) bytes ≡ p ∷ q ∷ qs → all_read bit_of bytes ≡ None) → all_read bit_of (b ∷ bytes) ≡ None
  rest [] s h before = cc
  rest (p ∷ []) s h before = cc
  rest (p ∷ q ∷ qs) s h before = ap (λ o. option_and_then (λ y. option_map (λ ys. y ∷ ys) o) (bit_of b)) (before p q qs s) ∙ nothing_after (bit_of b)

  byte : (space : Bool) → eqb b 32 ≡ space → ((p q : List ℕ) (qs : List (List ℕ)) → slice_split (λ c. eqb c 32) bytes ≡ p ∷ q ∷ qs → all_read bit_of bytes ≡ None) → all_read bit_of (b ∷ bytes) ≡ None
  byte true s before = subst (λ x. all_read bit_of (x ∷ bytes) ≡ None) (sym (eqb-true b 32 s)) refl
  byte false s before =
      rest (slice_split (λ c. eqb c 32) bytes) refl (subst (λ t. cond t ([] ∷ slice_split (λ c. eqb c 32) bytes) (onto_first b (slice_split (λ c. eqb c 32) bytes)) ≡ part ∷ other ∷ others) s e) before

words-spaced : (text word other : List ℕ) (others : List (List ℕ)) → words_of text ≡ word ∷ other ∷ others → all_read bit_of text ≡ None
unfolding words_of
words-spaced text word other others e = bits-spaced text word other others e

-- the bits of the only word are those of the whole text
pub bits-one : (text : List ℕ) → with_one (some_read bit_of) (λ bits. bits) (words_of text) ≡ some_read bit_of text
bits-one text = one (words_of text) refl where
  same : (o : Option (List Bool)) → option_map (λ bits. bits) o ≡ o
  same None = refl
  same (Some bits) = refl

  none : (bytes : List ℕ) → all_read bit_of bytes ≡ None → None ≡ some_read bit_of bytes
  none [] e = refl
  none (b ∷ bytes) e = sym e

  one : (words : List (List ℕ)) → words_of text ≡ words → with_one (some_read bit_of) (λ bits. bits) words ≡ some_read bit_of text
  one [] e = absurd (words_are_some text e)
  one (word ∷ []) e = same (some_read bit_of word) ∙ ap (some_read bit_of) (word_alone text word e)
  one (word ∷ other ∷ others) e = none text (words-spaced text word other others e)

-- what `bits` returns: none, an error for lack of memory, or all
pub bits-none : (text : List ℕ) → all_read bit_of text ≡ None → with_one (some_read bit_of) (λ bits. bits) (words_of text) ≡ None
bits-none [] e = bits-one []
bits-none (b ∷ bytes) e = bits-one (b ∷ bytes) ∙ e

pub bits-empty : (text : List ℕ) → length text ≡ 0 → with_one (some_read bit_of) (λ bits. bits) (words_of text) ≡ None
bits-empty [] e = bits-one []
bits-empty (b ∷ bytes) e = absurd (omega (arith, e))

pub bits-refused : (text : List ℕ) (refused : Bool) (items : List Bool) → IsReadUpTo bit_of text [] refused items
    → (length text ≡ 0 → ⊥) → IsSome (with_one (some_read bit_of) (λ bits. bits) (words_of text))
bits-refused [] refused items so some = absurd (some refl)
bits-refused (b ∷ bytes) refused items so some = subst (λ o. IsSome o) (sym (bits-one (b ∷ bytes))) (so.good (search rules))

pub bits-all : (text : List ℕ) (refused : Bool) (items : List Bool) → IsReadUpTo bit_of text [] refused items
    → (length text ≡ 0 → ⊥) → refused ≡ false → with_one (some_read bit_of) (λ bits. bits) (words_of text) ≡ Some items
bits-all [] refused items so some e = absurd (some refl)
bits-all (b ∷ bytes) refused items so some e = bits-one (b ∷ bytes) ∙ IsReadUpTo-all bit_of (b ∷ bytes) refused items so e

-- what `numbers` returns, likewise
not_first : (o : Option ℕ) (words : List (List ℕ)) → option_map {U = ℕ × List (List ℕ)} (λ n. (n, words)) o ≡ None → o ≡ None
not_first None words e = refl
not_first (Some n) words e = cc

pub numbers-none : (text rest : List ℕ) (refused : Bool) (items : List ℕ) → IsReadUpTo number_of (words_of text) (words_of rest) refused items
    → number_first (words_of rest) ≡ None → some_read number_of (words_of text) ≡ None
numbers-none text rest refused items so e = none (words_of rest) refl so e where
  none : (words : List (List ℕ)) → words_of rest ≡ words → IsReadUpTo number_of (words_of text) words refused items → number_first words ≡ None → some_read number_of (words_of text) ≡ None
  none [] is h k = absurd (words_are_some rest is)
  none (word ∷ words) is h k = some_read-all number_of (words_of text) (words_are_some text) ∙ IsReadUpTo-bad number_of (words_of text) word words refused items h (not_first (number_of word) words k)

pub numbers-refused : (text : List ℕ) (refused : Bool) (items : List ℕ) → IsReadUpTo number_of (words_of text) [] refused items → IsSome (some_read number_of (words_of text))
numbers-refused text refused items so = subst (λ o. IsSome o) (sym (some_read-all number_of (words_of text) (words_are_some text))) (so.good (search rules))

pub numbers-all : (text : List ℕ) (refused : Bool) (items : List ℕ) → IsReadUpTo number_of (words_of text) [] refused items → refused ≡ false → some_read number_of (words_of text) ≡ Some items
numbers-all text refused items so e = some_read-all number_of (words_of text) (words_are_some text) ∙ IsReadUpTo-all number_of (words_of text) refused items so e
