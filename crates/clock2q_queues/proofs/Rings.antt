-- How a ring changes when a slot is put in or taken out, or when it is read from another slot on.
use Rattle.std.proofs.Common.{◌≡◌, ℕ, suc, ◌<◌, ◌≤◌, true, false, not, cond, ◌&&◌, eqb, Bool, List, [], ◌∷◌, ◌++◌, length, inl, inr, refl, sym, ap, ◌∙◌, subst, arith}
use Rattle.std.specs.List.{filter, list_any, AllByRecursion, IsDistinct}
use Rattle.std.proofs.lemmas.Bool.{eqb-true, eq-eqb, both_ways, cases_Bool, or_cases}
use Rattle.std.proofs.lemmas.List.{append-nil}
use Rattle.std.proofs.lemmas.Map.Keys.{IsDistinct-head, IsDistinct-tail, IsDistinct-cons}
use Rattle.std.proofs.lemmas.List.Folds.{list_any-append}
use Rattle.clock2q_queues.specs.Rings.{without, Joins, IsRing, around}
use Rattle.clock2q_queues.proofs.Booleans.{or_left, or_right, or_neither, or_parts, and_parts, and_false, not_true}

-- Tests

pub eqb_self : (n : ℕ) → eqb n n ≡ true
eqb_self n = eq-eqb n n refl

pub eqb_swap : (m n : ℕ) → eqb m n ≡ false → eqb n m ≡ false
eqb_swap m n e = elim (cases_Bool (eqb n m)) [ inl h ↦ absurd (both_ways _ e (eq-eqb m n (sym (eqb-true n m h)))) | inr h ↦ h ]

-- Slots among others

pub among_first : (s : ℕ) (ss : List ℕ) → list_any (eqb s) (s ∷ ss) ≡ true
among_first s ss = or_left _ _ (eqb_self s)

pub among_later : (t s : ℕ) (ss : List ℕ) → list_any (eqb t) ss ≡ true → list_any (eqb t) (s ∷ ss) ≡ true
among_later t s ss h = or_right (eqb t s) _ h

-- a slot that is among these differs from one that isn't
pub differs : (t s : ℕ) (ss : List ℕ) → list_any (eqb t) ss ≡ true → list_any (eqb s) ss ≡ false → eqb t s ≡ false
differs t s ss h g = elim (cases_Bool (eqb t s)) [ inl e ↦ absurd (both_ways (list_any (eqb s) ss) g (subst (λ x. list_any (eqb x) ss ≡ true) (eqb-true t s e) h)) | inr e ↦ e ]

-- Distinct elements

module _ {X : Type 0} where
  all_fail : (p : X → Bool) (xs : List X) → list_any p xs ≡ false → AllByRecursion (λ x. p x ≡ false) xs
  all_fail p [] h = tt
  all_fail p (x ∷ xs) h = let q = or_parts (p x) (list_any p xs) h in (q.0, all_fail p xs q.1)

  none_passes : (p : X → Bool) (xs : List X) → AllByRecursion (λ x. p x ≡ false) xs → list_any p xs ≡ false
  none_passes p [] h = refl
  none_passes p (x ∷ xs) h = or_neither (p x) (list_any p xs) h.0 (none_passes p xs h.1)

module _ {X : Type 0} (eq : X → X → Bool) where
  pub distinct_none : IsDistinct eq []
  unfolding IsDistinct
  distinct_none = tt

  -- the first of distinct elements isn't equal to any of the others
  pub distinct_first : (x : X) (xs : List X) → IsDistinct eq (x ∷ xs) → list_any (eq x) xs ≡ false
  distinct_first x xs d = none_passes (eq x) xs (IsDistinct-head eq x xs d)

  pub distinct_rest : (x : X) (xs : List X) → IsDistinct eq (x ∷ xs) → IsDistinct eq xs
  distinct_rest x xs d = IsDistinct-tail eq x xs d

  pub distinct_more : (x : X) (xs : List X) → list_any (eq x) xs ≡ false → IsDistinct eq xs → IsDistinct eq (x ∷ xs)
  distinct_more x xs h d = IsDistinct-cons eq x xs (all_fail (eq x) xs h) d

  pub distinct_alone : (x : X) → IsDistinct eq (x ∷ [])
  distinct_alone x = distinct_more x [] refl distinct_none

-- Distinct slots

pub IsDistinct-left : (xs ys : List ℕ) → IsDistinct eqb (xs ++ ys) → IsDistinct eqb xs
IsDistinct-left [] ys a = distinct_none eqb
IsDistinct-left (x ∷ xs) ys a =
    distinct_more eqb x xs ((or_parts _ _ (sym (list_any-append (eqb x) xs ys) ∙ distinct_first eqb x (xs ++ ys) a)).0)
    (IsDistinct-left xs ys (distinct_rest eqb x (xs ++ ys) a))

pub IsDistinct-right : (xs ys : List ℕ) → IsDistinct eqb (xs ++ ys) → IsDistinct eqb ys
IsDistinct-right [] ys a = a
IsDistinct-right (x ∷ xs) ys a = IsDistinct-right xs ys (distinct_rest eqb x (xs ++ ys) a)

pub apart_from : (xs ys : List ℕ) → IsDistinct eqb (xs ++ ys) → (t : ℕ) → list_any (eqb t) xs ≡ true → list_any (eqb t) ys ≡ false
apart_from [] ys a t h = absurd (both_ways false refl h)
apart_from (x ∷ xs) ys a t h = elim (or_cases (eqb t x) (list_any (eqb t) xs) h) [
  | inl e ↦ subst (λ z. list_any (eqb z) ys ≡ false) (sym (eqb-true t x e)) (or_parts _ _ (sym (list_any-append (eqb x) xs ys) ∙ distinct_first eqb x (xs ++ ys) a)).1
  | inr g ↦ apart_from xs ys (distinct_rest eqb x (xs ++ ys) a) t g
]

pub IsDistinct-append : (xs ys : List ℕ) → IsDistinct eqb xs → IsDistinct eqb ys → ((t : ℕ) → list_any (eqb t) xs ≡ true → list_any (eqb t) ys ≡ false) → IsDistinct eqb (xs ++ ys)
IsDistinct-append [] ys a b d = b
IsDistinct-append (x ∷ xs) ys a b d =
    distinct_more eqb x (xs ++ ys) (list_any-append (eqb x) xs ys ∙ or_neither _ _ (distinct_first eqb x xs a) (d x (among_first x xs)))
    (IsDistinct-append xs ys (distinct_rest eqb x xs a) b (λ t h. d t (among_later t x xs h)))

-- no slot of the second part is in the first
pub apart_back : (xs ys : List ℕ) → IsDistinct eqb (xs ++ ys) → (t : ℕ) → list_any (eqb t) ys ≡ true → list_any (eqb t) xs ≡ false
apart_back xs ys a t h = elim (cases_Bool (list_any (eqb t) xs)) [ inl g ↦ absurd (both_ways (list_any (eqb t) ys) (apart_from xs ys a t g) h) | inr g ↦ g ]

pub IsDistinct-turned : (xs ys : List ℕ) → IsDistinct eqb (xs ++ ys) → IsDistinct eqb (ys ++ xs)
IsDistinct-turned xs ys a = IsDistinct-append ys xs (IsDistinct-right xs ys a) (IsDistinct-left xs ys a) (apart_back xs ys a)

pub AllByRecursion-append : (n : ℕ) (xs ys : List ℕ) → AllByRecursion (λ s. s < n) xs → AllByRecursion (λ s. s < n) ys → AllByRecursion (λ s. s < n) (xs ++ ys)
AllByRecursion-append n [] ys a b = b
AllByRecursion-append n (x ∷ xs) ys a b = (a.0, AllByRecursion-append n xs ys a.1 b)

pub AllByRecursion-left : (n : ℕ) (xs ys : List ℕ) → AllByRecursion (λ s. s < n) (xs ++ ys) → AllByRecursion (λ s. s < n) xs
AllByRecursion-left n [] ys a = tt
AllByRecursion-left n (x ∷ xs) ys a = (a.0, AllByRecursion-left n xs ys a.1)

pub AllByRecursion-right : (n : ℕ) (xs ys : List ℕ) → AllByRecursion (λ s. s < n) (xs ++ ys) → AllByRecursion (λ s. s < n) ys
AllByRecursion-right n [] ys a = a
AllByRecursion-right n (x ∷ xs) ys a = AllByRecursion-right n xs ys a.1

pub below_of : (n : ℕ) (ss : List ℕ) → AllByRecursion (λ s. s < n) ss → (t : ℕ) → list_any (eqb t) ss ≡ true → t < n
below_of n [] a t h = absurd (both_ways false refl h)
below_of n (s ∷ ss) a t h = elim (or_cases (eqb t s) (list_any (eqb t) ss) h) [ inl e ↦ subst (λ z. z < n) (sym (eqb-true t s e)) a.0 | inr g ↦ below_of n ss a.1 t g ]

-- if each place is below the bound, all are
pub below-among : (n : ℕ) (places : List ℕ) → ((t : ℕ) → list_any (eqb t) places ≡ true → t < n) → AllByRecursion (λ s. s < n) places
below-among n [] h = tt
below-among n (p ∷ ps) h = (h p (among_first p ps), below-among n ps (λ t g. h t (among_later t p ps g)))

pub below-more : (n m : ℕ) (places : List ℕ) → n ≤ m → AllByRecursion (λ s. s < n) places → AllByRecursion (λ s. s < m) places
below-more n m places le b = below-among m places (λ t g. omega (arith, le, below_of n places b t g))

-- a slot among these splits them into those before it and those after it
pub parted : (s : ℕ) (ss : List ℕ) → list_any (eqb s) ss ≡ true → (xs : List ℕ) × ((ys : List ℕ) × (ss ≡ xs ++ s ∷ ys))
parted s [] h = absurd (both_ways false refl h)
parted s (x ∷ ss) h = elim (or_cases (eqb s x) (list_any (eqb s) ss) h) [
  | inl e ↦ ([], (ss, ap (λ z. z ∷ ss) (sym (eqb-true s x e))))
  | inr g ↦ let p = parted s ss g in (x ∷ p.0, (p.1.0, ap (λ zs. x ∷ zs) p.1.1))
]

-- Rings

module _ (next previous : ℕ → ℕ) where
  pub Joins_parts : (from : ℕ) (xs : List ℕ) (s : ℕ) (ys : List ℕ) (to : ℕ) → Joins next previous from (xs ++ s ∷ ys) to → Joins next previous from xs s × Joins next previous s ys to
  Joins_parts from [] s ys to j = ((j.0, j.1), j.2)
  Joins_parts from (x ∷ xs) s ys to j = let p = Joins_parts x xs s ys to j.2 in ((j.0, j.1, p.0), p.1)

  pub Joins-append : (from : ℕ) (xs : List ℕ) (s : ℕ) (ys : List ℕ) (to : ℕ) → Joins next previous from xs s → Joins next previous s ys to → Joins next previous from (xs ++ s ∷ ys) to
  Joins-append from [] s ys to j k = (j.0, j.1, k)
  Joins-append from (x ∷ xs) s ys to j k = (j.0, j.1, Joins-append x xs s ys to j.2 k)

  -- a ring is a ring from each of its slots on
  pub IsRing-turned : (xs ys : List ℕ) → IsRing next previous (xs ++ ys) → IsRing next previous (ys ++ xs)
  IsRing-turned [] ys r = subst (λ zs. IsRing next previous zs) (sym (append-nil ys)) r
  IsRing-turned (x ∷ xs) [] r = subst (λ zs. IsRing next previous (x ∷ zs)) (append-nil xs) r
  IsRing-turned (x ∷ xs) (y ∷ ys) r = let p = Joins_parts x xs y ys x r in Joins-append y ys x xs y p.1 p.0

  -- the slot before the end is one of those that lead to it
  pub before_end : (from : ℕ) (ss : List ℕ) (to : ℕ) → Joins next previous from ss to → list_any (eqb (previous to)) (from ∷ ss) ≡ true
  before_end from [] to j = or_left _ _ (eq-eqb _ _ j.1)
  before_end from (s ∷ ss) to j = among_later (previous to) from (s ∷ ss) (before_end s ss to j.2)

  pub around-is : (from : ℕ) (ss : List ℕ) (to : ℕ) → Joins next previous from ss to → around next from (suc (length ss)) ≡ from ∷ ss
  around-is from [] to j = refl
  around-is from (s ∷ ss) to j = ap (λ zs. from ∷ zs) (subst (λ z. around next z (suc (length ss)) ≡ s ∷ ss) (sym j.0) (around-is s ss to j.2))

-- the same steps lead to another end, if the last one does
pub Joins-redirected : (next previous next' previous' : ℕ → ℕ) (from : ℕ) (ss : List ℕ) (to end : ℕ)
    → Joins next previous from ss to → IsDistinct eqb (from ∷ ss)
    → ((t : ℕ) → list_any (eqb t) (from ∷ ss) ≡ true → eqb t (previous to) ≡ false → next' t ≡ next t)
    → ((t : ℕ) → list_any (eqb t) ss ≡ true → previous' t ≡ previous t)
    → next' (previous to) ≡ end → previous' end ≡ previous to
    → Joins next' previous' from ss end
Joins-redirected next previous next' previous' from [] to end j a n p e b = (ap next' (sym j.1) ∙ e, b ∙ j.1)
Joins-redirected next previous next' previous' from (s ∷ ss) to end j a n p e b = (
  n from (among_first from (s ∷ ss)) (eqb_swap _ _ (differs (previous to) from (s ∷ ss) (before_end next previous s ss to j.2) (distinct_first eqb from (s ∷ ss) a))) ∙ j.0,
  p s (among_first s ss) ∙ j.1,
  Joins-redirected next previous next' previous' s ss to end j.2 (distinct_rest eqb from (s ∷ ss) a) (λ t h. n t (among_later t from (s ∷ ss) h)) (λ t h. p t (among_later t s ss h)) e b,
)

-- steps that agree at the slots of a ring leave it unchanged
pub Joins-kept : (next previous next' previous' : ℕ → ℕ) (from : ℕ) (ss : List ℕ) (to : ℕ)
    → Joins next previous from ss to
    → ((t : ℕ) → list_any (eqb t) (from ∷ ss) ≡ true → next' t ≡ next t)
    → ((t : ℕ) → list_any (eqb t) ss ≡ true → previous' t ≡ previous t)
    → previous' to ≡ previous to
    → Joins next' previous' from ss to
Joins-kept next previous next' previous' from [] to j n p b = (n from (among_first from []) ∙ j.0, b ∙ j.1)
Joins-kept next previous next' previous' from (s ∷ ss) to j n p b = (
  n from (among_first from (s ∷ ss)) ∙ j.0,
  p s (among_first s ss) ∙ j.1,
  Joins-kept next previous next' previous' s ss to j.2 (λ t h. n t (among_later t from (s ∷ ss) h)) (λ t h. p t (among_later t s ss h)) b,
)

pub IsRing-kept : (next previous next' previous' : ℕ → ℕ) (ss : List ℕ)
    → IsRing next previous ss
    → ((t : ℕ) → list_any (eqb t) ss ≡ true → next' t ≡ next t)
    → ((t : ℕ) → list_any (eqb t) ss ≡ true → previous' t ≡ previous t)
    → IsRing next' previous' ss
IsRing-kept next previous next' previous' [] r n p = tt
IsRing-kept next previous next' previous' (s ∷ ss) r n p =
    Joins-kept next previous next' previous' s ss s r n (λ t h. p t (among_later t s ss h)) (p s (among_first s ss))

-- the slots of a ring, from its first one on
pub around-ring : (next previous : ℕ → ℕ) (first : ℕ) (ss : List ℕ) → IsRing next previous (first ∷ ss) → around next first (suc (length ss)) ≡ first ∷ ss
around-ring next previous first ss r = around-is next previous first ss first r

-- a slot put in before the first one is the last one
pub IsRing-put : (next previous next' previous' : ℕ → ℕ) (first : ℕ) (ss : List ℕ) (slot : ℕ)
    → IsRing next previous (first ∷ ss) → IsDistinct eqb (first ∷ ss) → list_any (eqb slot) (first ∷ ss) ≡ false
    → ((t : ℕ) → next' t ≡ cond (eqb t (previous first)) slot (cond (eqb t slot) first (next t)))
    → ((t : ℕ) → previous' t ≡ cond (eqb t first) slot (cond (eqb t slot) (previous first) (previous t)))
    → IsRing next' previous' (first ∷ ss ++ slot ∷ [])
IsRing-put next previous next' previous' first ss slot r a absent n p =
    let last = before_end next previous first ss first r in
    let other : (t : ℕ) → list_any (eqb t) (first ∷ ss) ≡ true → eqb t slot ≡ false = λ t h. differs t slot (first ∷ ss) h absent in
    Joins-append next' previous' first ss slot [] first
    (Joins-redirected next previous next' previous' first ss first slot r a
    (λ t h g. n t ∙ rw (g, other t h) refl)
    (λ t h. p t ∙ rw (differs t first ss h (distinct_first eqb first ss a), other t (among_later t first ss h)) refl)
    (n (previous first) ∙ rw (eqb_self (previous first)) refl)
    (p slot ∙ rw ((or_parts (eqb slot first) (list_any (eqb slot) ss) absent).0, eqb_self slot) refl))
    (n slot ∙ rw (eqb_swap (previous first) slot (other (previous first) last), eqb_self slot) refl, p first ∙ rw (eqb_self first) refl)

-- without its first slot, the others close the ring
pub IsRing-first_taken : (next previous next' previous' : ℕ → ℕ) (slot : ℕ) (ss : List ℕ)
    → IsRing next previous (slot ∷ ss) → IsDistinct eqb (slot ∷ ss)
    → ((t : ℕ) → eqb t slot ≡ false → next' t ≡ cond (eqb t (previous slot)) (next slot) (next t))
    → ((t : ℕ) → eqb t slot ≡ false → previous' t ≡ cond (eqb t (next slot)) (previous slot) (previous t))
    → IsRing next' previous' ss
IsRing-first_taken next previous next' previous' slot [] r a n p = tt
IsRing-first_taken next previous next' previous' slot (first ∷ ss) r a n p =
    let others = distinct_rest eqb slot (first ∷ ss) a in
    let other : (t : ℕ) → list_any (eqb t) (first ∷ ss) ≡ true → eqb t slot ≡ false = λ t h. differs t slot (first ∷ ss) h (distinct_first eqb slot (first ∷ ss) a) in
    Joins-redirected next previous next' previous' first ss slot first r.2 others
    (λ t h g. n t (other t h) ∙ rw g refl)
    (λ t h. p t (other t (among_later t first ss h)) ∙ rw (ap (λ z. eqb t z) r.0 ∙ differs t first ss h (distinct_first eqb first ss others)) refl)
    (n (previous slot) (other (previous slot) (before_end next previous first ss slot r.2)) ∙ rw (eqb_self (previous slot)) r.0)
    (p first (other first (among_first first ss)) ∙ rw (ap (λ z. eqb first z) r.0 ∙ eqb_self first) refl)

pub IsRing-taken : (next previous next' previous' : ℕ → ℕ) (xs : List ℕ) (slot : ℕ) (ys : List ℕ)
    → IsRing next previous (xs ++ slot ∷ ys) → IsDistinct eqb (xs ++ slot ∷ ys)
    → ((t : ℕ) → eqb t slot ≡ false → next' t ≡ cond (eqb t (previous slot)) (next slot) (next t))
    → ((t : ℕ) → eqb t slot ≡ false → previous' t ≡ cond (eqb t (next slot)) (previous slot) (previous t))
    → IsRing next' previous' (xs ++ ys)
IsRing-taken next previous next' previous' xs slot ys r a n p =
    IsRing-turned next' previous' ys xs
    (IsRing-first_taken next previous next' previous' slot (ys ++ xs)
    (IsRing-turned next previous xs (slot ∷ ys) r) (IsDistinct-turned xs (slot ∷ ys) a) n p)

-- A slot taken out of a list

pub without_absent : (slot : ℕ) (ss : List ℕ) → list_any (eqb slot) ss ≡ false → filter (λ t. not (eqb t slot)) ss ≡ ss
without_absent slot [] h = refl
without_absent slot (s ∷ ss) h =
    let p = or_parts _ _ h in
    rw (eqb_swap slot s p.0) (ap (λ zs. s ∷ zs) (without_absent slot ss p.1))

pub without-parted : (xs : List ℕ) (slot : ℕ) (ys : List ℕ) → IsDistinct eqb (xs ++ slot ∷ ys) → filter (λ t. not (eqb t slot)) (xs ++ slot ∷ ys) ≡ xs ++ ys
without-parted [] slot ys a = rw (eqb_self slot) (without_absent slot ys (distinct_first eqb slot ys a))
without-parted (x ∷ xs) slot ys a =
    let d : eqb x slot ≡ false = (or_parts (eqb x slot) (list_any (eqb x) ys) ((or_parts (list_any (eqb x) xs) (list_any (eqb x) (slot ∷ ys)) (sym (list_any-append (eqb x) xs (slot ∷ ys)) ∙ distinct_first eqb x (xs ++ slot ∷ ys) a)).1)).0 in
    rw d (ap (λ zs. x ∷ zs) (without-parted xs slot ys (distinct_rest eqb x (xs ++ slot ∷ ys) a)))

-- Slots without one

pub among-without_test : (t p : ℕ) (ss : List ℕ) → list_any (eqb t) (without p ss) ≡ (list_any (eqb t) ss && not (eqb t p))
among-without_test t p [] = refl
among-without_test t p (s ∷ ss) = elim (cases_Bool (eqb s p)) [
  | inl e ↦ elim (cases_Bool (eqb t s)) [
    | inl f ↦
        let g : eqb t p ≡ true = subst (λ z. eqb z p ≡ true) (sym (eqb-true t s f)) e in
        rw (e, f, g) (among-without_test t p ss ∙ rw g (and_false (list_any (eqb t) ss)))
    | inr f ↦ rw (e, f) (among-without_test t p ss)
  ]
  | inr e ↦ elim (cases_Bool (eqb t s)) [
    | inl f ↦
        let g : eqb t p ≡ false = subst (λ z. eqb z p ≡ false) (sym (eqb-true t s f)) e in
        rw (e, f, g) refl
    | inr f ↦ rw (e, f) (among-without_test t p ss)
  ]
]

-- a slot that is left was there before, and isn't the one that was taken out
pub among-without : (t slot : ℕ) (ss : List ℕ) → list_any (eqb t) (without slot ss) ≡ true → (list_any (eqb t) ss ≡ true) × (eqb t slot ≡ false)
among-without t slot ss h = let p = and_parts (list_any (eqb t) ss) (not (eqb t slot)) (sym (among-without_test t slot ss) ∙ h) in (p.0, not_true (eqb t slot) p.1)

-- any other slot is still there
pub among-without-back : (t slot : ℕ) (ss : List ℕ) → list_any (eqb t) ss ≡ true → eqb t slot ≡ false → list_any (eqb t) (without slot ss) ≡ true
among-without-back t slot ss h d = among-without_test t slot ss ∙ rw (h, d) refl
