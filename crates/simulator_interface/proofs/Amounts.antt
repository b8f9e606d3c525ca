-- Which words are amounts.
use Rattle.std.proofs.Common.{◌≡◌, ℕ, zero, suc, ◌+◌, ◌-◌, ◌<◌, ◌≤◌, Bool, true, false, cond, ◌&&◌, List, [], ◌∷◌, ◌++◌, length, length-append, map, take, drop, get_or, Option, None, Some, min}
use Rattle.std.proofs.Common.{ltb, eqb, refl, sym, ap, ◌∙◌, append_assoc, arith}
use Rattle.std.specs.Option.{MatchOption, option_map}
use Rattle.std.specs.Str.Pattern.{FindsText}
use denote.Ref.{Bor}
use Rattle.std.specs.Str.{all_ascii_digits}
use Rattle.std.specs.Str.Parse.{digits_value}
use Rattle.std.proofs.lemmas.Bool.{lt-ltb, le-leb, ltb-true, eqb-true, eq-eqb}
use Rattle.std.proofs.lemmas.List.{take-append-drop, drop_more, drop_all, map-append}
use Rattle.std.proofs.lemmas.List.Elements.{filter_more}
use Rattle.std.proofs.Math.Seq.{get_or-append_seam, take-append_seam}
use Rattle.simulator_interface.specs.declared.amount.Amount.{Amount}
use Rattle.simulator_interface.specs.declared.amount.Unit.{Unit as Counted}
use Rattle.simulator_interface.specs.declared.amount.Unit.TheVariants.{Keys, Millionths}
use Rattle.simulator_interface.specs.Amounts.{amount, amount_in, asked_by, between, count_in, ends_in, ends_of, front, is_dot, is_same, joined, number_in, range, range_between, round_numbers}
use Rattle.simulator_interface.specs.ByteAmounts.{bytes_in, joined_bytes, one_more}

-- a word that ends with a byte
pub ends-some : (byte : ℕ) (word start : List ℕ) → word ≡ start ++ byte ∷ [] → (ends_in byte word ≡ true) × (front word ≡ start)
ends-some byte word start e =
    let long : length word ≡ length start + 1 = ap length e ∙ length-append start (byte ∷ []) in
    let at : length word - 1 ≡ length start = omega (arith, long) in
    let last : get_or word (length word - 1) 0 ≡ byte = ap (λ n. get_or word n 0) at ∙ ap (λ xs. get_or xs (length start) 0) e ∙ get_or-append_seam start byte [] 0 in (
      rw (lt-ltb 0 (length word) (omega (arith, long)), eq-eqb (get_or word (length word - 1) 0) byte last) refl,
      ap (λ n. take n word) at ∙ ap (take (length start)) e ∙ take-append_seam start (byte ∷ []),
    )

-- a word is what is before its last byte, and that byte
last-off : (word : List ℕ) → 0 < length word → word ≡ take (length word - 1) word ++ get_or word (length word - 1) 0 ∷ []
last-off word some =
    let rest : drop (length word - 1) word ≡ get_or word (length word - 1) 0 ∷ drop (length word - 1 + 1) word = drop_more word (length word - 1) 0 (omega (arith, some)) in
    let none : drop (length word - 1 + 1) word ≡ [] = drop_all (length word - 1 + 1) word (omega (arith, some)) in
    sym (take-append-drop (length word - 1) word) ∙ ap (λ xs. take (length word - 1) word ++ xs) (rest ∙ ap (λ xs. get_or word (length word - 1) 0 ∷ xs) none)

-- one that doesn't
pub ends-none : (byte : ℕ) (word : List ℕ) → ((start : List ℕ) → word ≡ start ++ byte ∷ [] → ⊥) → ends_in byte word ≡ false
ends-none byte word h = cases (ltb 0 (length word)) (eqb (get_or word (length word - 1) 0) byte) refl refl where
  cases : (a b : Bool) → ltb 0 (length word) ≡ a → eqb (get_or word (length word - 1) 0) byte ≡ b → a && b ≡ false
  cases false b l e = refl
  cases true false l e = refl
  cases true true l e =
      absurd (h (take (length word - 1) word) (last-off word (ltb-true 0 (length word) l) ∙ ap (λ n. take (length word - 1) word ++ n ∷ []) (eqb-true _ _ e)))

-- a word with a byte that isn't a digit
pub number_in-other : (word : List ℕ) → all_ascii_digits word ≡ false → number_in word ≡ None
number_in-other word e = cases (ltb 0 (length word)) (all_ascii_digits word) e where
  cases : (a b : Bool) → b ≡ false → cond (a && b) (Some (min (digits_value 10 word) 18446744073709551615)) None ≡ None
  cases true true e = cc
  cases true false e = refl
  cases false b e = refl

-- a word that ends with no letter of a unit
pub count-plain : (word : List ℕ) → ends_in 107 word ≡ false → ends_in 77 word ≡ false → count_in word ≡ number_in word
count-plain word thousands millions = rw (thousands, millions) refl

-- a word without a percent sign
pub amount-plain : (word : List ℕ) → ends_in 37 word ≡ false → amount_in word ≡ option_map (amount Keys) (count_in word)
amount-plain word e = rw e refl

-- a unit is the same as itself
same-unit : (unit : Counted) → is_same unit unit ≡ true
same-unit Keys = refl
same-unit Millionths = refl

-- the first two dots of a word that begins with two
ends-here : (byte : ℕ) (bytes rest : List ℕ) → byte ∷ bytes ≡ 46 ∷ 46 ∷ rest → ends_of (byte ∷ bytes) ≡ Some ([], rest)
ends-here byte bytes rest e =
    let one : byte ≡ 46 = cc in
    let more : bytes ≡ 46 ∷ rest = cc in
    rw (one, more) refl

-- of one that doesn't
ends-later : (byte : ℕ) (bytes : List ℕ) → ((rest : List ℕ) → byte ∷ bytes ≡ 46 ∷ 46 ∷ rest → ⊥) → is_dot byte && is_dot (get_or bytes 0 0) ≡ false
ends-later byte bytes h = cases bytes (eqb byte 46) h refl where
  cases : (bytes : List ℕ) (a : Bool) → ((rest : List ℕ) → byte ∷ bytes ≡ 46 ∷ 46 ∷ rest → ⊥) → eqb byte 46 ≡ a → a && eqb (get_or bytes 0 0) 46 ≡ false
  cases bytes false h e = refl
  cases [] true h e = refl
  cases (other ∷ rest) true h e = second (eqb other 46) refl where
    second : (b : Bool) → eqb other 46 ≡ b → b ≡ false
    second false f = refl
    second true f = absurd (h rest (let one : byte ≡ 46 = eqb-true byte 46 e in let two : other ≡ 46 = eqb-true other 46 f in cc))

-- the first two dots of a word are the first that a search finds
pub ends-at : (word : List ℕ) (i : ℕ) (rest : List ℕ)
    → ((k : ℕ) → k < i → (after : List ℕ) → drop k word ≡ 46 ∷ 46 ∷ after → ⊥)
    → drop i word ≡ 46 ∷ 46 ∷ rest → ends_of word ≡ Some (take i word, rest)
ends-at [] zero rest h e = absurd (cc)
ends-at [] (suc i) rest h e = absurd (cc)
ends-at (byte ∷ bytes) zero rest h e = ends-here byte bytes rest e
ends-at (byte ∷ bytes) (suc i) rest h e =
    rw (ends-later byte bytes (λ after. h 0 (omega arith) after), ends-at bytes i rest (λ k below. h (suc k) (omega (arith, below))) e) refl

-- a word in which a search finds no two dots
pub ends-nowhere : (word : List ℕ) → ((k : ℕ) → k ≤ length word → (after : List ℕ) → drop k word ≡ 46 ∷ 46 ∷ after → ⊥) → ends_of word ≡ None
ends-nowhere [] h = refl
ends-nowhere (byte ∷ bytes) h =
    rw (ends-later byte bytes (λ after. h 0 (omega arith) after), ends-nowhere bytes (λ k below. h (suc k) (omega (arith, below)))) refl

-- what `split_once` at two dots returns
pub split-ends : (word : List ℕ) (r : Option (Bor (List ℕ) × Bor (List ℕ)))
    → MatchOption r (FindsText (46 ∷ 46 ∷ []) word None) (λ x. (i : ℕ) × (j : ℕ)
    × FindsText (46 ∷ 46 ∷ []) word (Some (i, j)) × (x.0.now ≡ take i word)
    × (x.1.now ≡ drop j word) × (i ≤ j) × (length x.0.now ≡ i)
    × (length x.1.now + j ≡ length word))
    → MatchOption r (ends_of word ≡ None) (λ x. ends_of word ≡ Some (x.0.now, x.1.now))
split-ends word None h = ends-nowhere word h
split-ends word (Some x) h = ends-at word h.0 (drop h.1 word) h.2.0 h.2.1.split ∙ (λ k. Some (sym h.3 k, sym h.4 k))

-- a word with two dots between two amounts of one unit asks for a range, if they are the right way round
pub asked-range : (word : List ℕ) (ends : List ℕ × List ℕ) (first to : Amount) → ends_of word ≡ Some ends → amount_in ends.0 ≡ Some first → amount_in ends.1 ≡ Some to
    → to.unit ≡ first.unit → first.number ≤ to.number → asked_by word ≡ Some (range round_numbers first to.number)
asked-range word ends first to e f t same order = rw (e, f, t) (in_range first to same order) where
  in_range : (first to : Amount) → to.unit ≡ first.unit → first.number ≤ to.number → range_between (Some first) (Some to) ≡ Some (range round_numbers first to.number)
  in_range first to same order = rw (same, same-unit first.unit, le-leb first.number to.number order) refl

-- capacities after others, and more after them
pub joined_more : (some more : List Amount) (rest : Option (List Amount)) → joined (Some (some ++ more)) rest ≡ joined (Some some) (joined (Some more) rest)
joined_more some more None = refl
joined_more some more (Some rest) = ap Some (append_assoc some more rest)

-- a number of bytes after others, and more after it
pub joined_bytes_more : (some : List ℕ) (bytes : ℕ) (more : Option (List ℕ)) → joined_bytes (some ++ bytes ∷ []) more ≡ joined_bytes some (joined_bytes (bytes ∷ []) more)
joined_bytes_more some bytes None = refl
joined_bytes_more some bytes (Some rest) = ap Some (append_assoc some (bytes ∷ []) rest)

-- that one is what a word spells
pub one_more_after : (word old new : List ℕ) (bytes : ℕ) (more : Option (List ℕ))
    → bytes_in word ≡ Some bytes → new ≡ old ++ bytes ∷ []
    → joined_bytes new more ≡ joined_bytes old (one_more (bytes_in word) more)
one_more_after word old new bytes more spelled items =
    ap (λ all. joined_bytes all more) items ∙ joined_bytes_more old bytes more ∙ sym (ap (λ found. joined_bytes old (one_more found more)) spelled)

-- one number more may be between the ends of a range
pub between_more : (some : List Amount) (unit : Counted) (others : List ℕ) (i first to : ℕ) → i < length others
    → (some ++ map (amount unit) (between (take i others) first to)) ++ map (amount unit) (between (get_or others i 0 ∷ []) first to)
    ≡ some ++ map (amount unit) (between (take (i + 1) others) first to)
between_more some unit others i first to within =
    let before = between (take i others) first to in
    let here = between (get_or others i 0 ∷ []) first to in
    append_assoc some (map (amount unit) before) (map (amount unit) here)
    ∙ ap (λ more. some ++ more) (sym (map-append (amount unit) before here))
    ∙ ap (λ numbers. some ++ map (amount unit) numbers) (sym (filter_more (λ n. ltb first n && ltb n to) others i 0 within))
