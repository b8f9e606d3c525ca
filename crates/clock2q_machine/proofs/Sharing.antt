-- Lists of different keys, and how many keys two lists share.
use Rattle.std.proofs.Common.{◌≡◌, inl, inr, ℕ, ◌+◌, ◌≤◌, ◌==◌, true, false, ◌||◌, eqb, List, [], ◌∷◌, length, refl, sym, ap, ◌∙◌, arith}
use Rattle.std.specs.Prelude.{if◌then◌else◌}
use Rattle.std.specs.Cmp.{nat_eq_equiv}
use Rattle.std.specs.List.{AllByRecursion, IsDistinct}
use Rattle.std.proofs.lemmas.Bool.{cases_Bool, eqb-true, eq-eqb, or_from, or_left, or_parts, or_right, true≢false}
use Rattle.std.proofs.lemmas.Map.Keys.{IsDistinct-head, IsDistinct-tail, IsDistinct-cons}
use Rattle.clock2q_machine.specs.Hits.{is_in, without}

-- Distinct keys: the first isn't among the others.

pub distinct_none : IsDistinct eqb []
unfolding IsDistinct
distinct_none = tt

pub distinct_first : (key : ℕ) (keys : List ℕ) → IsDistinct eqb (key ∷ keys) → is_in key keys ≡ false
distinct_first key keys distinct = absent keys (IsDistinct-head eqb key keys distinct) where
  absent : (keys : List ℕ) → AllByRecursion (λ other. eqb key other ≡ false) keys → is_in key keys ≡ false
  absent [] differ = refl
  absent (first ∷ keys) differ = or_from (first == key) (is_in key keys) (nat_eq_equiv.symm first key ∙ differ.0) (absent keys differ.1)

pub distinct_more : (key : ℕ) (keys : List ℕ) → is_in key keys ≡ false → IsDistinct eqb keys → IsDistinct eqb (key ∷ keys)
distinct_more key keys absent distinct = IsDistinct-cons eqb key keys (differ keys absent) distinct where
  differ : (keys : List ℕ) → is_in key keys ≡ false → AllByRecursion (λ other. eqb key other ≡ false) keys
  differ [] absent = tt
  differ (first ∷ keys) absent =
      let parts = or_parts (first == key) (is_in key keys) absent in
      (nat_eq_equiv.symm key first ∙ parts.0, differ keys parts.1)

-- each key of a list once
abbrev pub different : List ℕ → List ℕ
different [] = []
different (key ∷ keys) = key ∷ without key (different keys)

-- how many of the keys are held
abbrev pub shared : List ℕ → List ℕ → ℕ
shared [] held = 0
shared (key ∷ keys) held = (if is_in key held then 1 else 0) + shared keys held

-- A key that is removed.

-- removing a key that isn't in a list changes nothing
pub without-absent : (key : ℕ) (held : List ℕ) → is_in key held ≡ false → without key held ≡ held
without-absent key [] absent = refl
without-absent key (first ∷ held) absent =
    let parts = or_parts (first == key) (is_in key held) absent in
    rw parts.0 (ap (λ rest. first ∷ rest) (without-absent key held parts.1))

pub absent_without : (key : ℕ) (keys : List ℕ) → is_in key (without key keys) ≡ false
absent_without key [] = refl
absent_without key (first ∷ keys) = elim (cases_Bool (first == key)) [
  | inl same ↦ rw same (absent_without key keys)
  | inr other ↦ rw other (or_from (first == key) (is_in key (without key keys)) other (absent_without key keys))
]

pub others_without : (key other : ℕ) (keys : List ℕ) → (key == other) ≡ false → is_in other (without key keys) ≡ is_in other keys
others_without key other [] differ = refl
others_without key other (first ∷ keys) differ = elim (cases_Bool (first == key)) [
  | inl same ↦
      let gone : (first == other) ≡ false = ap (λ k. k == other) (eqb-true first key same) ∙ differ in
      rw same (rw gone (others_without key other keys differ))
  | inr apart ↦ rw apart (ap (λ b. (first == other) || b) (others_without key other keys differ))
]

-- a remaining key was there before, and isn't that key
pub left_without : (key other : ℕ) (keys : List ℕ) → is_in other (without key keys) ≡ true → ((key == other) ≡ false) × (is_in other keys ≡ true)
left_without key other keys left = elim (cases_Bool (key == other)) [
  | inl same ↦ absurd (true≢false (sym left ∙ ap (λ k. is_in k (without key keys)) (sym (eqb-true key other same)) ∙ absent_without key keys))
  | inr apart ↦ (apart, sym (others_without key other keys apart) ∙ left)
]

pub different_without : (key : ℕ) (keys : List ℕ) → IsDistinct eqb keys → IsDistinct eqb (without key keys)
different_without key [] differ = distinct_none
different_without key (first ∷ keys) differ =
    let rest = different_without key keys (IsDistinct-tail eqb first keys differ) in
    elim (cases_Bool (first == key)) [
      | inl same ↦ rw same rest
      | inr apart ↦ rw apart (distinct_more first (without key keys) (others_without key first keys (nat_eq_equiv.symm key first ∙ apart) ∙ distinct_first first keys differ) rest)
    ]

-- at most one key is removed
pub length_without : (key : ℕ) (keys : List ℕ) → IsDistinct eqb keys → length keys ≤ 1 + length (without key keys)
length_without key [] differ = omega arith
length_without key (first ∷ keys) differ = elim (cases_Bool (first == key)) [
  | inl same ↦
      let absent : is_in key keys ≡ false = ap (λ k. is_in k keys) (sym (eqb-true first key same)) ∙ distinct_first first keys differ in
      rw same (omega (arith, ap length (without-absent key keys absent)))
  | inr apart ↦ rw apart (omega (arith, length_without key keys (IsDistinct-tail eqb first keys differ)))
]

-- Each key once.

pub different_are : (keys : List ℕ) → IsDistinct eqb (different keys)
different_are [] = distinct_none
different_are (key ∷ keys) = distinct_more key (without key (different keys)) (absent_without key (different keys)) (different_without key (different keys) (different_are keys))

pub in_different : (key : ℕ) (keys : List ℕ) → is_in key (different keys) ≡ is_in key keys
in_different key [] = refl
in_different key (first ∷ keys) = elim (cases_Bool (first == key)) [
  | inl same ↦ rw same refl
  | inr apart ↦ rw apart (others_without first key (different keys) apart ∙ in_different key keys)
]

-- The keys that two lists share.

pub shared_more : (keys held more : List ℕ) → ((key : ℕ) → is_in key keys ≡ true → is_in key held ≡ true → is_in key more ≡ true) → shared keys held ≤ shared keys more
shared_more [] held more each = omega arith
shared_more (key ∷ keys) held more each =
    let rest : shared keys held ≤ shared keys more = shared_more keys held more (λ other there. each other (or_right (key == other) (is_in other keys) there)) in
    elim (cases_Bool (is_in key held)) [
      | inl is ↦
          let also : is_in key more ≡ true = each key (or_left (key == key) (is_in key keys) (eq-eqb key key refl)) is in
          rw is (rw also (omega (arith, rest)))
      | inr not_held ↦ rw not_held (omega (arith, rest))
    ]

pub shared_all : (keys held : List ℕ) → ((key : ℕ) → is_in key keys ≡ true → is_in key held ≡ true) → shared keys held ≡ length keys
shared_all [] held each = refl
shared_all (key ∷ keys) held each =
    let rest : shared keys held ≡ length keys = shared_all keys held (λ other there. each other (or_right (key == other) (is_in other keys) there)) in
    let is : is_in key held ≡ true = each key (or_left (key == key) (is_in key keys) (eq-eqb key key refl)) in
    rw is (omega (arith, rest))

pub shared_within : (keys held : List ℕ) → shared keys held ≤ length keys
shared_within [] held = omega arith
shared_within (key ∷ keys) held = elim (cases_Bool (is_in key held)) [
  | inl is ↦ rw is (omega (arith, shared_within keys held))
  | inr not_held ↦ rw not_held (omega (arith, shared_within keys held))
]

-- a held key among different ones counts once
pub shared_without : (key : ℕ) (keys held : List ℕ) → IsDistinct eqb keys → is_in key held ≡ true
    → shared keys held ≡ (if is_in key keys then 1 else 0) + shared (without key keys) held
shared_without key [] held differ is = refl
shared_without key (first ∷ keys) held differ is = elim (cases_Bool (first == key)) [
  | inl same ↦
      let here : first ≡ key = eqb-true first key same in
      let absent : is_in key keys ≡ false = ap (λ k. is_in k keys) (sym here) ∙ distinct_first first keys differ in
      let first_is : is_in first held ≡ true = ap (λ k. is_in k held) here ∙ is in
      rw same (rw first_is (rw (without-absent key keys absent) refl))
  | inr apart ↦ rw apart (omega (arith, shared_without key keys held (IsDistinct-tail eqb first keys differ) is))
]

-- one more key is at most one more shared
shared_first : (keys : List ℕ) (first : ℕ) (held : List ℕ) → IsDistinct eqb keys → shared keys (first ∷ held) ≤ (if is_in first keys then 1 else 0) + shared keys held
shared_first [] first held differ = omega arith
shared_first (key ∷ keys) first held differ =
    let rest : shared keys (first ∷ held) ≤ (if is_in first keys then 1 else 0) + shared keys held = shared_first keys first held (IsDistinct-tail eqb key keys differ) in
    elim (cases_Bool (key == first)) [
      | inl same ↦
          let here : key ≡ first = eqb-true key first same in
          let absent : is_in first keys ≡ false = ap (λ k. is_in k keys) (sym here) ∙ distinct_first key keys differ in
          let found : (first == key) ≡ true = eq-eqb first key (sym here) in
          rw same (rw found (omega (arith, rw absent at rest)))
      | inr apart ↦ rw apart (rw (nat_eq_equiv.symm first key ∙ apart) (omega (arith, rest)))
    ]

-- different keys share at most as many with a list as the list with them
pub shared_turned : (keys held : List ℕ) → IsDistinct eqb keys → shared keys held ≤ shared held keys
shared_turned keys [] differ = nothing keys where
  nothing : (keys : List ℕ) → shared keys [] ≤ 0
  nothing [] = omega arith
  nothing (key ∷ keys) = omega (arith, nothing keys)
shared_turned keys (first ∷ held) differ = omega (arith, shared_first keys first held differ, shared_turned keys held differ)
