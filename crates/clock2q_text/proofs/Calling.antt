-- Which call a command's name and its arguments spell.
use Rattle.std.proofs.Common.{◌≡◌, ℕ, Bool, true, false, cond, eqb, List, [], ◌∷◌, Option, Some, None, refl, sym, ap, ◌∙◌, subst}
use Rattle.std.specs.Prelude.{codes}
use Rattle.std.specs.Borrow.{Bor}
use Rattle.std.specs.List.{slice_split}
use Rattle.std.specs.Option.{option_and_then, option_map, option_or}
use Rattle.std.specs.Str.{bytes_eq}
use Rattle.std.specs.List.{join_with_byte}
use Rattle.std.proofs.lemmas.List.Splits.{join_with_byte-slice_split}
use Rattle.std.proofs.lemmas.Slice.Eq.{bytes_eq-Decides}
use Rattle.clock2q_machine.specs.Calls.{Call, Put, Get, Peek, Contains, GetAt, Set, With, Try, SlotFor, Remove, Retain, Clear, Prefill, Len, IsEmpty, Capacity}
use Rattle.clock2q_text.specs.Cut.{parts_after, words_after, number_first}
use Rattle.clock2q_text.specs.Text.{words_of, number_of, tried_of, bit_of, some_read, with_one, with_two, numbers_call, list_call, lone_call, call_in}
use Rattle.clock2q_ports.proofs.Lines.{parts_are_some}

-- a line's first word, and those of the rest after a cut
pub words_of-cut : (line word : List ℕ) (after : Option (Bor (List ℕ))) → slice_split (λ b. eqb b 32) line ≡ word ∷ parts_after 32 after → words_of line ≡ word ∷ words_after after
unfolding words_of
words_of-cut line word None e = e
words_of-cut line word (Some rest) e = e

-- a line has at least one word
pub words_are_some : (line : List ℕ) → words_of line ≡ [] → ⊥
unfolding words_of
words_are_some line e = parts_are_some (λ b. eqb b 32) line e

-- an argument that is read and then mapped
pub with_one-mapped : {X Y : Type 0} (read : List ℕ → Option Y) (make : Y → X) (words : List (List ℕ)) → with_one read make words ≡ option_map make (with_one read (λ y. y) words)
with_one-mapped read make [] = refl
with_one-mapped {Y = Y} read make (word ∷ []) = mapped (read word) where
  mapped : (o : Option Y) → option_map make o ≡ option_map make (option_map (λ y. y) o)
  mapped None = refl
  mapped (Some y) = refl
with_one-mapped read make (word ∷ other ∷ words) = refl

-- a number that was read, if no word follows it
abbrev pub last_number : ℕ × List (List ℕ) → Option ℕ
last_number (n, []) = Some n
last_number (n, word ∷ words) = None

-- one number, as the first of the words
pub with_one-first : (words : List (List ℕ)) → with_one number_of (λ n. n) words ≡ option_and_then last_number (number_first words)
with_one-first [] = refl
with_one-first (word ∷ []) = same (number_of word) where
  same : (o : Option ℕ) → option_map (λ n. n) o ≡ option_and_then last_number (option_map (λ n. (n, [])) o)
  same None = refl
  same (Some n) = refl
with_one-first (word ∷ other ∷ words) = none (number_of word) where
  none : (o : Option ℕ) → None ≡ option_and_then last_number (option_map (λ n. (n, other ∷ words)) o)
  none None = refl
  none (Some n) = refl

-- more than one
pub one_number-more : (words : List (List ℕ)) (n : ℕ) (after : Option (Bor (List ℕ))) (rest : Bor (List ℕ))
    → Some (n, words_after after) ≡ number_first words → after ≡ Some rest → with_one number_of (λ n. n) words ≡ None
one_number-more words n after rest e some =
    with_one-first words ∙ ap (option_and_then last_number) (sym e) ∙ ap (λ o. last_number (n, words_after o)) some ∙ none (words_of rest.now) (words_are_some rest.now) where
      none : (others : List (List ℕ)) → (others ≡ [] → ⊥) → last_number (n, others) ≡ None
      none [] h = absurd (h refl)
      none (word ∷ others) h = refl

-- two arguments, the number first
pub with_two-first : {X Y : Type 0} (read : List ℕ → Option Y) (make : ℕ → Y → X) (words : List (List ℕ))
    → with_two read make words ≡ option_and_then (λ p. with_one read (make p.0) p.1) (number_first words)
with_two-first read make [] = refl
with_two-first {X = X} read make (word ∷ words) = same (number_of word) where
  same : (o : Option ℕ) → option_and_then (λ n. with_one read (make n) words) o ≡ option_and_then (λ (p : ℕ × List (List ℕ)). with_one read (make p.0) p.1) (option_map (λ n. (n, words)) o)
  same None = refl
  same (Some n) = refl

-- words that are equal as bytes
pub same_word : (name text : List ℕ) → bytes_eq name text ≡ true → name ≡ text
same_word name text e = (bytes_eq-Decides name text).0 e

-- a number with a value or the word `fail`
abbrev pub tried : ℕ → Option ℕ → ℕ × Option ℕ
tried n value = (n, value)

-- the words after the number
tried-after : (words : List (List ℕ)) (n : ℕ) (rest : List ℕ) → Some (n, words_of rest) ≡ number_first words → with_two tried_of tried words ≡ with_one tried_of (tried n) (words_of rest)
tried-after words n rest e = with_two-first tried_of tried words ∙ ap (option_and_then (λ p. with_one tried_of (tried p.0) p.1)) (sym e)

pub tried-fail : (words : List (List ℕ)) (n : ℕ) (rest : List ℕ) → Some (n, words_of rest) ≡ number_first words → bytes_eq rest (codes "fail") ≡ true → Some (n, None) ≡ with_two tried_of tried words
unfolding words_of
tried-fail words n rest e fail =
    sym (tried-after words n rest e ∙ ap (λ xs. with_one tried_of (tried n) (words_of xs)) (same_word rest (codes "fail") fail))

-- a word alone is the whole text
pub word_alone : (rest word : List ℕ) → words_of rest ≡ word ∷ [] → word ≡ rest
unfolding words_of
word_alone rest word e = sym (ap (join_with_byte 32) e) ∙ join_with_byte-slice_split 32 rest

pub tried-number : (words : List (List ℕ)) (n : ℕ) (rest : List ℕ) → Some (n, words_of rest) ≡ number_first words
    → bytes_eq rest (codes "fail") ≡ false → with_two tried_of tried words ≡ option_map (λ m. (n, Some m)) (with_one number_of (λ m. m) (words_of rest))
tried-number words n rest e other = tried-after words n rest e ∙ by_words (words_of rest) refl where
  as_number : (o : Option ℕ) → option_map (tried n) (option_map Some o) ≡ option_map (λ m. (n, Some m)) (option_map (λ m. m) o)
  as_number None = refl
  as_number (Some m) = refl

  by_words : (others : List (List ℕ)) → words_of rest ≡ others → with_one tried_of (tried n) others ≡ option_map (λ m. (n, Some m)) (with_one number_of (λ m. m) others)
  by_words [] is = refl
  by_words (word ∷ []) is =
      let unlike : bytes_eq word (codes "fail") ≡ false = ap (λ w. bytes_eq w (codes "fail")) (word_alone rest word is) ∙ other in
      rw unlike (as_number (number_of word))
  by_words (word ∷ more ∷ others) is = refl

-- two arguments that are read and then mapped
pub with_two-mapped : {X Y : Type 0} (read : List ℕ → Option Y) (make : ℕ → Y → X) (words : List (List ℕ))
    → with_two read make words ≡ option_map (λ (p : ℕ × Y). make p.0 p.1) (with_two read (λ n y. (n, y)) words)
with_two-mapped read make [] = refl
with_two-mapped {X = X} {Y = Y} read make (word ∷ words) = first (number_of word) where
  joined : (n : ℕ) (o : Option Y) → option_map (make n) o ≡ option_map (λ (p : ℕ × Y). make p.0 p.1) (option_map (λ y. (n, y)) o)
  joined n None = refl
  joined n (Some y) = refl

  first : (o : Option ℕ) → option_and_then (λ n. with_one read (make n) words) o ≡ option_map (λ (p : ℕ × Y). make p.0 p.1) (option_and_then (λ n. with_one read (λ y. (n, y)) words) o)
  first None = refl
  first (Some n) = with_one-mapped read (make n) words ∙ joined n (with_one read (λ y. y) words) ∙ ap (option_map (λ (p : ℕ × Y). make p.0 p.1)) (sym (with_one-mapped read (λ y. (n, y)) words))

-- the call by its name: two numbers
module _ (name : List ℕ) (words : List (List ℕ)) where
  abbrev SpellsTwo : (ℕ → ℕ → Call ℕ ℕ) → List ℕ → Type 0
  SpellsTwo make x = numbers_call x words ≡ option_map (λ (p : ℕ × ℕ). make p.0 p.1) (with_two number_of (λ n m. (n, m)) words)

  pub call-put : bytes_eq name (codes "put") ≡ true → SpellsTwo Put name
  call-put e = subst (SpellsTwo Put) (sym (same_word name (codes "put") e)) (with_two-mapped number_of Put words)

  pub call-get_at : bytes_eq name (codes "get_at") ≡ true → SpellsTwo GetAt name
  call-get_at e = subst (SpellsTwo GetAt) (sym (same_word name (codes "get_at") e)) (with_two-mapped number_of GetAt words)

  pub call-set : bytes_eq name (codes "set") ≡ true → SpellsTwo Set name
  call-set e = subst (SpellsTwo Set) (sym (same_word name (codes "set") e)) (with_two-mapped number_of Set words)

  pub call-with : bytes_eq name (codes "with") ≡ true → SpellsTwo With name
  call-with e = subst (SpellsTwo With) (sym (same_word name (codes "with") e)) (with_two-mapped number_of With words)

  pub call-slot : bytes_eq name (codes "slot") ≡ true → SpellsTwo SlotFor name
  call-slot e = subst (SpellsTwo SlotFor) (sym (same_word name (codes "slot") e)) (with_two-mapped number_of SlotFor words)

  -- a number and a value, or the word `fail`
  abbrev SpellsTried : List ℕ → Type 0
  SpellsTried x = numbers_call x words ≡ option_map (λ (p : ℕ × Option ℕ). Try p.0 p.1) (with_two tried_of (λ n v. (n, v)) words)

  pub call-try : bytes_eq name (codes "try") ≡ true → SpellsTried name
  call-try e = subst SpellsTried (sym (same_word name (codes "try") e)) (with_two-mapped tried_of Try words)

  -- one number
  abbrev SpellsOne : (ℕ → Call ℕ ℕ) → List ℕ → Type 0
  SpellsOne make x = numbers_call x words ≡ option_map make (with_one number_of (λ n. n) words)

  pub call-get : bytes_eq name (codes "get") ≡ true → SpellsOne Get name
  call-get e = subst (SpellsOne Get) (sym (same_word name (codes "get") e)) (with_one-mapped number_of Get words)

  pub call-peek : bytes_eq name (codes "peek") ≡ true → SpellsOne Peek name
  call-peek e = subst (SpellsOne Peek) (sym (same_word name (codes "peek") e)) (with_one-mapped number_of Peek words)

  pub call-contains : bytes_eq name (codes "contains") ≡ true → SpellsOne Contains name
  call-contains e = subst (SpellsOne Contains) (sym (same_word name (codes "contains") e)) (with_one-mapped number_of Contains words)

  pub call-remove : bytes_eq name (codes "remove") ≡ true → SpellsOne Remove name
  call-remove e = subst (SpellsOne Remove) (sym (same_word name (codes "remove") e)) (with_one-mapped number_of Remove words)

  -- a list
  abbrev SpellsBits : List ℕ → Type 0
  SpellsBits x = list_call x words ≡ option_map Retain (with_one (some_read bit_of) (λ bits. bits) words)

  pub call-retain : bytes_eq name (codes "retain") ≡ true → SpellsBits name
  call-retain e = subst SpellsBits (sym (same_word name (codes "retain") e)) (with_one-mapped (some_read bit_of) Retain words)

  abbrev SpellsValues : List ℕ → Type 0
  SpellsValues x = list_call x words ≡ option_map Prefill (some_read number_of words)

  pub call-prefill : bytes_eq name (codes "prefill") ≡ true → SpellsValues name
  call-prefill e = subst SpellsValues (sym (same_word name (codes "prefill") e)) refl

-- a name alone
module _ (name : List ℕ) where
  abbrev SpellsAlone : Call ℕ ℕ → List ℕ → Type 0
  SpellsAlone call x = lone_call x [] ≡ Some call

  pub call-len : bytes_eq name (codes "len") ≡ true → SpellsAlone Len name
  call-len e = subst (SpellsAlone Len) (sym (same_word name (codes "len") e)) refl

  pub call-is_empty : bytes_eq name (codes "is_empty") ≡ true → SpellsAlone IsEmpty name
  call-is_empty e = subst (SpellsAlone IsEmpty) (sym (same_word name (codes "is_empty") e)) refl

  pub call-capacity : bytes_eq name (codes "capacity") ≡ true → SpellsAlone Capacity name
  call-capacity e = subst (SpellsAlone Capacity) (sym (same_word name (codes "capacity") e)) refl

  pub call-clear : bytes_eq name (codes "clear") ≡ true → SpellsAlone Clear name
  call-clear e = subst (SpellsAlone Clear) (sym (same_word name (codes "clear") e)) refl

-- tests that all lead to none
abbrev nones : List Bool → Option (Call ℕ ℕ)
nones [] = None
nones (test ∷ tests) = cond test None (nones tests)

all_none : (tests : List Bool) → nones tests ≡ None
all_none [] = refl
all_none (true ∷ tests) = refl
all_none (false ∷ tests) = all_none tests

-- no name spells numbers or a list alone
numbers-alone : (name : List ℕ) → numbers_call name [] ≡ None
numbers-alone name =
    all_none (bytes_eq name (codes "put") ∷ bytes_eq name (codes "get") ∷ bytes_eq name (codes "peek") ∷ bytes_eq name (codes "contains") ∷ bytes_eq name (codes "get_at")
    ∷ bytes_eq name (codes "set") ∷ bytes_eq name (codes "with") ∷ bytes_eq name (codes "try") ∷ bytes_eq name (codes "slot") ∷ bytes_eq name (codes "remove") ∷ [])

list-alone : (name : List ℕ) → list_call name [] ≡ None
list-alone name = all_none (bytes_eq name (codes "retain") ∷ bytes_eq name (codes "prefill") ∷ [])

-- what a name spells alone
pub call_in-alone : (name : List ℕ) → call_in (name ∷ []) ≡ lone_call name []
unfolding call_in
call_in-alone name = ap (λ o. option_or o (option_or (list_call name []) (lone_call name []))) (numbers-alone name) ∙ ap (λ o. option_or o (lone_call name [])) (list-alone name)

-- what a name spells with numbers
pub call_in-numbers : (name : List ℕ) (words : List (List ℕ)) (call : Call ℕ ℕ) → numbers_call name words ≡ Some call → call_in (name ∷ words) ≡ Some call
unfolding call_in
call_in-numbers name words call e = ap (λ o. option_or o (option_or (list_call name words) (lone_call name words))) e

-- no name that spells a call alone spells one with words
lone-words : (name word : List ℕ) (words : List (List ℕ)) → lone_call name (word ∷ words) ≡ None
lone-words name word words = all_none (bytes_eq name (codes "len") ∷ bytes_eq name (codes "is_empty") ∷ bytes_eq name (codes "capacity") ∷ bytes_eq name (codes "clear") ∷ [])

or_none : (o : Option (Call ℕ ℕ)) → option_or o None ≡ o
or_none None = refl
or_none (Some call) = refl

-- what a name spells with other words, of which there is at least one
pub call_in-list : (name : List ℕ) (words : List (List ℕ)) → (words ≡ [] → ⊥) → numbers_call name words ≡ None → call_in (name ∷ words) ≡ list_call name words
unfolding call_in
call_in-list name [] some e = absurd (some refl)
call_in-list name (word ∷ words) some e = ap (λ o. option_or o (option_or (list_call name (word ∷ words)) (lone_call name (word ∷ words)))) e
    ∙ ap (option_or (list_call name (word ∷ words))) (lone-words name word words) ∙ or_none (list_call name (word ∷ words))
