-- The slot of a key, by counting: if no key is resident twice, a slot is found for a key if a resident has both.
use Rattle.std.proofs.Common.{◌≡◌, ℕ, zero, suc, ◌+◌, ◌<◌, ◌≤◌, ◌==◌, Bool, true, false, ◌&&◌, cond, List, [], ◌∷◌, ◌++◌, length, inl, inr, Option, Some, None, refl, sym, ap, ◌∙◌, arith, eq-eqb, eqb-true, ne_eqb}
use Rattle.std.specs.Prelude.{slice_get, slice_set}
use Rattle.std.specs.Cmp.{IsEquivalence}
use Rattle.std.specs.Option.{option_map, option_or}
use Rattle.std.specs.List.{sum_by, count_by, find}
use Rattle.std.proofs.lemmas.Bool.{cases_lt, lt-ltb, le-ltb}
use Rattle.std.proofs.lemmas.List.Sums.{sum_by-cons, sum_by-le-sum_by}
use Rattle.clock2q_machine.specs.Entries.{SmallEntry, MainEntry}
use Rattle.clock2q_machine.specs.Machine.{Machine, slot_of, stored}
use Rattle.clock2q_machine.specs.Whole.{IsWhole}
use Rattle.clock2q_machine.proofs.Weights.{sum_by-same, count_by-not_found}
use Rattle.clock2q_machine.proofs.Residents.{slot_in_small, slot_in_main, slot_among, neither}
use Rattle.clock2q_machine.proofs.Whole.{one_if, some_is, map_none, weight}

-- two weights that add up to at most a third one
sum_by-both-le : {X : Type 0} (f g h : X → ℕ) → ((x : X) → f x + g x ≤ h x) → (xs : List X) → sum_by f xs + sum_by g xs ≤ sum_by h xs
sum_by-both-le f g h both [] = omega arith
sum_by-both-le f g h both (x ∷ xs) = omega (arith, both x, sum_by-cons f x xs, sum_by-cons g x xs, sum_by-cons h x xs, sum_by-both-le f g h both xs)

-- what passes two tests passes each
pub fewer : (a b : Bool) → one_if (a && b) ≤ one_if a
fewer true true = omega arith
fewer true false = omega arith
fewer false b = omega arith

pub fewer_second : (a b : Bool) → one_if (a && b) ≤ one_if b
fewer_second true b = omega arith
fewer_second false b = omega arith

module _ {K : Type 0} where
  apart : (is : K → Bool) (s t : ℕ) → (s ≡ t → ⊥) → (k : K) (at : ℕ) → one_if (is k && at == s) + one_if (is k && at == t) ≤ one_if (is k)
  apart is s t differ k at = elim (is k) as (λ b. one_if (b && at == s) + one_if (b && at == t) ≤ one_if b) [
    | true ↦ (elim (at == s) as (λ b. (at == s) ≡ b → one_if b + one_if (at == t) ≤ 1) [
      | true ↦ λ here. omega (arith, ap one_if (ne_eqb at t (λ there. differ (sym (eqb-true at s here) ∙ there))))
      | false ↦ λ _. one_at_most (at == t)
    ]) refl
    | false ↦ omega arith
  ] where
    one_at_most : (b : Bool) → 0 + one_if b ≤ 1
    one_at_most true = omega arith
    one_at_most false = omega arith

  in_queue : {X : Type 0} (key : X → K) (at : X → ℕ) (is : K → Bool) (slot : ℕ) (xs : List X)
      → option_map at (find (λ x. is (key x)) xs) ≡ Some slot → 0 < count_by (λ x. is (key x) && at x == slot) xs
  in_queue key at is slot [] e = cc
  in_queue key at is slot (x ∷ xs) e =
      (elim (is (key x)) as (λ b. is (key x) ≡ b → option_map at (cond b (Some x) (find (λ y. is (key y)) xs)) ≡ Some slot → 0 < count_by (λ y. is (key y) && at y == slot) (x ∷ xs)) [
        | true ↦ λ passes here. omega (
          arith,
          sum_by-cons (λ y. one_if (is (key y) && at y == slot)) x xs,
          ap (λ b. one_if (b && at x == slot)) passes,
          ap one_if (eq-eqb (at x) slot (some_is (at x) slot here)),
        )
        | false ↦ λ _ later. omega (arith, sum_by-cons (λ y. one_if (is (key y) && at y == slot)) x xs, in_queue key at is slot xs later)
      ]) refl e

module _ {K V : Type 0} where
  -- the number of residents that pass the test, and of those at a slot
  abbrev pub key_count : (K → Bool) → Machine K V → ℕ
  key_count is m = weight (λ k s. one_if (is k)) m

  abbrev pub count_at : (K → Bool) → ℕ → Machine K V → ℕ
  count_at is slot m = weight (λ k s. one_if (is k && s == slot)) m

  pub count_at-le : (is : K → Bool) (slot : ℕ) (m : Machine K V) → count_at is slot m ≤ key_count is m
  count_at-le is slot m =
      omega (
        arith,
        sum_by-le-sum_by (λ (e : SmallEntry K). one_if (is e.key && e.slot == slot)) (λ e. one_if (is e.key)) m.small (λ e. fewer (is e.key) (e.slot == slot)),
        sum_by-le-sum_by (λ (e : MainEntry K). one_if (is e.key && e.slot == slot)) (λ e. one_if (is e.key)) m.main (λ e. fewer (is e.key) (e.slot == slot)),
      )

  -- two weights that add up to at most a third one, over all residents
  pub weights-both-le : (f g h : K → ℕ → ℕ) → ((k : K) (s : ℕ) → f k s + g k s ≤ h k s) → (m : Machine K V) → weight f m + weight g m ≤ weight h m
  weights-both-le f g h both m =
      omega (
        arith,
        sum_by-both-le (λ (e : SmallEntry K). f e.key e.slot) (λ e. g e.key e.slot) (λ e. h e.key e.slot) (λ e. both e.key e.slot) m.small,
        sum_by-both-le (λ (e : MainEntry K). f e.key e.slot) (λ e. g e.key e.slot) (λ e. h e.key e.slot) (λ e. both e.key e.slot) m.main,
      )

  -- no resident passes the test if none is found, and none is found if no resident does
  pub none_counted : (is : K → Bool) (m : Machine K V) → slot_of is m ≡ None → key_count is m ≡ 0
  none_counted is m absent =
      let none = neither (slot_in_small is m.small) (slot_in_main is m.main) (sym (slot_among is m.small m.main) ∙ absent) in
      omega (
        arith,
        count_by-not_found (λ e. is e.key) m.small (map_none (λ e. e.slot) (find (λ e. is e.key) m.small) none.0),
        count_by-not_found (λ e. is e.key) m.main (map_none (λ e. e.slot) (find (λ e. is e.key) m.main) none.1),
      )

  -- a key that is found at a slot is counted there
  pub found_counted : (is : K → Bool) (m : Machine K V) (slot : ℕ) → slot_of is m ≡ Some slot → 0 < count_at is slot m
  found_counted is m slot found = by_queue (slot_in_small is m.small) refl (sym (slot_among is m.small m.main) ∙ found) where
    by_queue : (o : Option ℕ) → slot_in_small is m.small ≡ o → option_or o (slot_in_main is m.main) ≡ Some slot → 0 < count_at is slot m
    by_queue None small main = omega (arith, in_queue (λ (e : MainEntry K). e.key) (λ e. e.slot) is slot m.main main)
    by_queue (Some s) small main = omega (arith, in_queue (λ (e : SmallEntry K). e.key) (λ e. e.slot) is slot m.small (small ∙ main))

  -- if it is counted at a slot, it is found there
  pub found_at : (is : K → Bool) (m : Machine K V) → key_count is m ≤ 1 → (slot : ℕ) → 0 < count_at is slot m → slot_of is m ≡ Some slot
  found_at is m once slot some = by_slot (slot_of is m) refl where
    by_slot : (o : Option ℕ) → slot_of is m ≡ o → o ≡ Some slot
    by_slot None absent = absurd (omega (arith, none_counted is m absent, count_at-le is slot m, some))
    by_slot (Some other) found =
        let there = found_counted is m other found in
        elim (cases_lt other slot) [
          | inl below ↦ absurd (omega (arith, there, some, once, weights-both-le _ _ _ (apart is other slot (λ e. omega (arith, e, below))) m))
          | inr above ↦ elim (cases_lt slot other) [
            | inl past ↦ absurd (omega (arith, there, some, once, weights-both-le _ _ _ (apart is other slot (λ e. omega (arith, e, past))) m))
            | inr within ↦ let same : other ≡ slot = omega (arith, above, within) in ap Some same
          ]
        ]

  pub absent_if : (is : K → Bool) (m : Machine K V) → key_count is m ≡ 0 → slot_of is m ≡ None
  absent_if is m none = by_slot (slot_of is m) refl where
    by_slot : (o : Option ℕ) → slot_of is m ≡ o → o ≡ None
    by_slot None absent = refl
    by_slot (Some slot) found = absurd (omega (arith, found_counted is m slot found, count_at-le is slot m, none))

  module _ (eq : K → K → Bool) (m : Machine K V) where
    -- no key is resident twice
    pub resident_once : IsWhole eq m → (key : K) → key_count (eq key) m ≤ 1
    resident_once h key = omega (arith, h.keys_once key)

    -- equal keys are resident alike
    pub counted_as : IsEquivalence eq → (key other : K) → eq other key ≡ true → key_count (eq other) m ≡ key_count (eq key) m
    counted_as laws key other e =
        let same : (k : K) → one_if (eq other k) ≡ one_if (eq key k) = λ k. ap one_if (laws.congr other key k e) in
        omega (
          arith,
          sum_by-same (λ e. one_if (eq other e.key)) (λ e. one_if (eq key e.key)) (λ e. same e.key) m.small,
          sum_by-same (λ e. one_if (eq other e.key)) (λ e. one_if (eq key e.key)) (λ e. same e.key) m.main,
        )

-- a value that is stored at a slot is there, and the other slots keep theirs
module _ {V : Type 0} where
  get-set_same : (values : List V) (slot : ℕ) (value : V) → slot < length values → slice_get (slice_set values slot value) slot ≡ Some value
  get-set_same [] slot value made = absurd (omega arith)
  get-set_same (v ∷ values) zero value made = refl
  get-set_same (v ∷ values) (suc slot) value made = get-set_same values slot value (omega arith)

  get-set_other : (values : List V) (slot other : ℕ) (value : V) → (other ≡ slot → ⊥) → slice_get (slice_set values slot value) other ≡ slice_get values other
  get-set_other [] slot other value differ = refl
  get-set_other (v ∷ values) zero zero value differ = absurd (differ refl)
  get-set_other (v ∷ values) zero (suc other) value differ = refl
  get-set_other (v ∷ values) (suc slot) zero value differ = refl
  get-set_other (v ∷ values) (suc slot) (suc other) value differ = get-set_other values slot other value (λ e. differ (omega (arith, e)))

  get-push_same : (values : List V) (value : V) → slice_get (values ++ value ∷ []) (length values) ≡ Some value
  get-push_same [] value = refl
  get-push_same (v ∷ values) value = get-push_same values value

  pub get-append : (values more : List V) (slot : ℕ) → slot < length values → slice_get (values ++ more) slot ≡ slice_get values slot
  get-append [] more slot made = absurd (omega arith)
  get-append (v ∷ values) more zero made = refl
  get-append (v ∷ values) more (suc slot) made = get-append values more slot (omega arith)

  pub get-within : (values : List V) (slot : ℕ) → slot < length values → (value : V) × (slice_get values slot ≡ Some value)
  get-within [] slot made = absurd (omega arith)
  get-within (v ∷ values) zero made = (v, refl)
  get-within (v ∷ values) (suc slot) made = get-within values slot (omega arith)

module _ {K V : Type 0} (m : Machine K V) (slot : ℕ) (value : V) where
  pub stored_there : slot ≤ length m.values → slice_get (stored slot value m).values slot ≡ Some value
  stored_there at_most =
      elim (cases_lt slot (length m.values)) [
        | inl made ↦ rw (lt-ltb slot (length m.values) made) (get-set_same m.values slot value made)
        | inr next ↦ let end : slot ≡ length m.values = omega arith in rw (le-ltb slot (length m.values) next) (ap (λ s. slice_get (m.values ++ value ∷ []) s) end ∙ get-push_same m.values value)
      ]

  pub stored_elsewhere : (other : ℕ) → (other ≡ slot → ⊥) → other < length m.values → slice_get (stored slot value m).values other ≡ slice_get m.values other
  stored_elsewhere other differ made =
      elim (cases_lt slot (length m.values)) [
        | inl below ↦ rw (lt-ltb slot (length m.values) below) (get-set_other m.values slot other value differ)
        | inr next ↦ rw (le-ltb slot (length m.values) next) (get-append m.values (value ∷ []) other made)
      ]
