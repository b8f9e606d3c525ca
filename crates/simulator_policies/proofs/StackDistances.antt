-- A key hits in LRU if and only if its stack distance is below the capacity: LRU holds the keys accessed most recently.
use Rattle.std.proofs.Common.{◌≡◌, ℕ, zero, suc, ◌+◌, ◌<◌, refl, sym, ap, ◌∙◌, arith, inl, inr, true, false, eqb, ltb, List, [], ◌∷◌, ◌++◌, length, take, get_or}
use Rattle.std.specs.Prelude.{Option, None, Some}
use Rattle.std.specs.List.{IsDistinct}
use Rattle.std.proofs.lemmas.Bool.{cases_Bool, cases_eq, cases_lt, eqb-true, eq-eqb, ne_eqb, lt-ltb, le-ltb, and_parts, or_parts, false_from_ne_true}
use Rattle.std.proofs.lemmas.List.{take-take}
use Rattle.std.proofs.lemmas.Map.Keys.{IsDistinct-tail}
use Rattle.clock2q_machine.specs.Hits.{is_in, without}
use Rattle.clock2q_machine.proofs.Sharing.{without-absent, distinct_none, distinct_first, distinct_more, absent_without, different_without}
use Rattle.simulator_policies.specs.declared.plain.PlainPolicy.TheVariants.{LeastRecentlyUsed}
use Rattle.simulator_policies.specs.Policies.{plain_after, plain_after_all}
use Rattle.simulator_policies.specs.Stamps.{held_at, is_newest}
use Rattle.simulator_policies.specs.StackDistances.{recent_after, recent_after_all, one_more, stack_distance, is_below}
use Rattle.simulator_policies.proofs.Stamping.{absent-taken, in_stamped}

-- The keys below a distance.

below-one-more : (capacity : ℕ) (distance : Option ℕ) → is_below (suc capacity) (one_more distance) ≡ is_below capacity distance
below-one-more capacity None = refl
below-one-more capacity (Some n) = elim (cases_lt n capacity) [
  | inl near ↦ lt-ltb (1 + n) (suc capacity) (omega (arith, near)) ∙ sym (lt-ltb n capacity near)
  | inr far ↦ le-ltb (1 + n) (suc capacity) (omega (arith, far)) ∙ sym (le-ltb n capacity far)
]

none-below : (distance : Option ℕ) → is_below 0 distance ≡ false
none-below None = refl
none-below (Some n) = le-ltb n 0 (omega arith)

-- a key is among the first if and only if its distance is below their number
pub near : (capacity key : ℕ) (recent : List ℕ) → is_in key (take capacity recent) ≡ is_below capacity (stack_distance key recent)
near zero key recent = sym (none-below (stack_distance key recent))
near (suc capacity) key [] = refl
near (suc capacity) key (first ∷ recent) = elim (cases_Bool (eqb first key)) [
  | inl same ↦ rw same (sym (lt-ltb 0 (suc capacity) (omega arith)))
  | inr other ↦ rw other (near capacity key recent ∙ sym (below-one-more capacity (stack_distance key recent)))
]

-- a key behind others
pub distance-behind : (key : ℕ) (front behind : List ℕ) → is_in key front ≡ false → stack_distance key (front ++ key ∷ behind) ≡ Some (length front)
distance-behind key [] behind absent = rw (eq-eqb key key refl) refl
distance-behind key (first ∷ front) behind absent =
    let parts = or_parts (eqb first key) (is_in key front) absent in
    let longer : 1 + length front ≡ suc (length front) = omega arith in
    rw parts.0 (ap one_more (distance-behind key front behind parts.1) ∙ ap Some longer)

pub distance-none : (key : ℕ) (recent : List ℕ) → is_in key recent ≡ false → stack_distance key recent ≡ None
distance-none key [] absent = refl
distance-none key (first ∷ recent) absent =
    let parts = or_parts (eqb first key) (is_in key recent) absent in
    rw parts.0 (ap one_more (distance-none key recent parts.1))

next-within : (long n : ℕ) (distance : Option ℕ) → ((m : ℕ) → distance ≡ Some m → m < long) → one_more distance ≡ Some n → n < suc long
next-within long n None below more = absurd (cc)
next-within long n (Some m) below more =
    let next : 1 + m ≡ n = cc in
    omega (arith, next, below m refl)

-- a distance is below the number of keys
pub distance-within : (key n : ℕ) (recent : List ℕ) → stack_distance key recent ≡ Some n → n < length recent
distance-within key n [] is = absurd (cc)
distance-within key n (first ∷ recent) is = elim (cases_Bool (eqb first key)) [
  | inl same ↦
      let here : ◌≡◌ {A = Option ℕ} (Some 0) (Some n) = rw same at is in
      let zero_is : ◌≡◌ {A = ℕ} 0 n = cc in
      omega (arith, zero_is)
  | inr other ↦ next-within (length recent) n (stack_distance key recent) (λ m was. distance-within key m recent was) (rw other at is)
]

-- What LRU holds.

-- a key that is removed from the first of a list
without-taken : (n key : ℕ) (recent : List ℕ) → IsDistinct eqb recent → is_in key (take (suc n) recent) ≡ true → without key (take (suc n) recent) ≡ take n (without key recent)
without-taken n key [] apart there = absurd (cc)
without-taken zero key (first ∷ recent) apart there = elim (cases_eq first key) [
  | inl same ↦ rw (eq-eqb first key same) refl
  | inr other ↦
      let none : is_in key [] ≡ true = rw (ne_eqb first key other) at there in
      absurd (cc)
]
without-taken (suc n) key (first ∷ recent) apart there = elim (cases_eq first key) [
  | inl same ↦
      let absent : is_in key recent ≡ false = sym (ap (λ k. is_in k recent) same) ∙ distinct_first first recent apart in
      rw (eq-eqb first key same) (without-absent key (take (suc n) recent) (absent-taken key (suc n) recent absent) ∙ sym (ap (take (suc n)) (without-absent key recent absent)))
  | inr other ↦ rw (ne_eqb first key other) (ap (λ rest. first ∷ rest) (without-taken n key recent (IsDistinct-tail eqb first recent apart) (rw (ne_eqb first key other) at there)))
]

-- and one that isn't among them
taken-without : (n key : ℕ) (recent : List ℕ) → is_in key (take n recent) ≡ false → take n recent ≡ take n (without key recent)
taken-without zero key recent absent = refl
taken-without (suc n) key [] absent = refl
taken-without (suc n) key (first ∷ recent) absent =
    let parts = or_parts (eqb first key) (is_in key (take n recent)) absent in
    rw parts.0 (ap (λ rest. first ∷ rest) (taken-without n key recent parts.1))

-- LRU holds the first of the keys accessed so far
pub lru_holds_recent : (capacity key : ℕ) (recent : List ℕ) → 0 < capacity → IsDistinct eqb recent →
    plain_after LeastRecentlyUsed capacity key (take capacity recent) ≡ take capacity (recent_after key recent)
lru_holds_recent zero key recent some apart = absurd (omega arith)
lru_holds_recent (suc n) key recent some apart = elim (cases_Bool (is_in key (take (suc n) recent))) [
  | inl is ↦ rw is (ap (λ rest. key ∷ rest) (without-taken n key recent apart is))
  | inr missed ↦
      let fewer : take n (take (suc n) recent) ≡ take n recent = take-take n (suc n) recent (omega arith) in
      let absent : is_in key (take n recent) ≡ false = sym (ap (is_in key) fewer) ∙ absent-taken key n (take (suc n) recent) missed in
      rw missed (ap (λ rest. key ∷ rest) (fewer ∙ taken-without n key recent absent))
]

-- each of these is there once
pub recent-apart : (key : ℕ) (recent : List ℕ) → IsDistinct eqb recent → IsDistinct eqb (recent_after key recent)
recent-apart key recent apart = distinct_more key (without key recent) (absent_without key recent) (different_without key recent apart)

lru_holds_recent_on : (capacity : ℕ) (trace recent : List ℕ) → 0 < capacity → IsDistinct eqb recent
    → plain_after_all LeastRecentlyUsed capacity trace (take capacity recent) ≡ take capacity (recent_after_all trace recent)
lru_holds_recent_on capacity [] recent some apart = refl
lru_holds_recent_on capacity (key ∷ trace) recent some apart =
    ap (plain_after_all LeastRecentlyUsed capacity trace) (lru_holds_recent capacity key recent some apart)
    ∙ lru_holds_recent_on capacity trace (recent_after key recent) some (recent-apart key recent apart)

pub none-taken : (n : ℕ) → ◌≡◌ {A = List ℕ} (take n []) []
none-taken zero = refl
none-taken (suc n) = refl

-- after any trace LRU of a capacity holds a key if and only if its stack distance is below the capacity
pub hits_below_distance : (capacity key : ℕ) (trace : List ℕ) → 0 < capacity
    → is_in key (plain_after_all LeastRecentlyUsed capacity trace []) ≡ is_below capacity (stack_distance key (recent_after_all trace []))
hits_below_distance capacity key trace some =
    ap (λ held. is_in key (plain_after_all LeastRecentlyUsed capacity trace held)) (sym (none-taken capacity))
    ∙ ap (is_in key) (lru_holds_recent_on capacity trace [] some distinct_none)
    ∙ near capacity key (recent_after_all trace [])

-- and so is each of the keys given by stamps
pub held-apart : (trace stamps : List ℕ) (left at : ℕ) → IsDistinct eqb (held_at trace stamps left at)
held-apart trace stamps left zero = distinct_none
held-apart trace stamps left (suc index) = elim (cases_Bool (is_newest trace stamps left index)) [
  | inl newest ↦
      let key = get_or trace index 0 in
      let stamp : get_or stamps key 0 ≡ suc index = eqb-true (get_or stamps key 0) (suc index) (and_parts (eqb (get_or stamps key 0) (suc index)) (ltb left (suc index)) newest).0 in
      let absent : is_in key (held_at trace stamps left index) ≡ false =
      false_from_ne_true (is_in key (held_at trace stamps left index))
      (λ is. omega (arith, stamp, (in_stamped trace stamps left key index is).1)) in
      rw newest (distinct_more key (held_at trace stamps left index) absent (held-apart trace stamps left index))
  | inr old ↦ rw old (held-apart trace stamps left index)
]
