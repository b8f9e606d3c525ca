-- The invariant of machines holds after every call, so it holds for every machine that a run from an empty one reaches.
use Rattle.std.proofs.Common.{◌≡◌, ℕ, zero, suc, ◌+◌, ◌-◌, ◌<◌, ◌≤◌, ◌==◌, Bool, true, false, not, ◌||◌, ◌&&◌, cond, List, [], ◌∷◌, ◌++◌, map, length, inl, inr, Option, Some, None, refl, sym, ap, ◌∙◌, subst, arith, eq-eqb, ne_eqb, eqb-true, length-append}
use Rattle.std.specs.Prelude.{⊤, if◌then◌else◌, nat_lt, nat_le, is_some, slice_set}
use Rattle.std.specs.Cmp.{IsEquivalence}
use Rattle.std.specs.List.{count_by, filter, filter_map, cons_option, find, list_any, range_with_len}
use Rattle.std.proofs.lemmas.Bool.{cases_lt, lt-ltb, le-ltb}
use Rattle.std.proofs.lemmas.List.FromFn.{length-range_with_len}
use Rattle.std.proofs.lemmas.List.Sums.{sum_by-cons, sum_by-append, sum_by-le-sum_by}
use Rattle.std.proofs.Math.ListN.{length-set}
use Rattle.clock2q_machine.specs.Shares.{Shares}
use Rattle.clock2q_machine.specs.Entries.{SmallEntry, MainEntry}
use Rattle.clock2q_machine.specs.Calls.{Call, Put, Get, Peek, Contains, GetAt, Set, With, Try, SlotFor, Remove, Retain, Clear, Evict, Prefill, Len, IsEmpty, Capacity}
use Rattle.clock2q_machine.specs.Machine.{Machine, Placement, empty, hit, forgotten, stored, placement, inserted, reused, goes_to_main, into_main, into_small, slot_of, vacancy, vacated, vacated_all, removed_at, resident_at, residents, by_slot, prefilled}
use Rattle.clock2q_machine.specs.Steps.{refused_slots, is_at, supplied, replaced_at, retained, after, after_all}
use Rattle.clock2q_machine.specs.Whole.{IsWhole, known_count, standings}
use Rattle.clock2q_machine.proofs.Evicted.{whole-evicted}
use Rattle.clock2q_machine.proofs.Weights.{sum_by-filter-le}
use Rattle.clock2q_machine.proofs.Residents.{found_slot}
use Rattle.clock2q_machine.proofs.Standing.{fewer_second, found_counted}
use Rattle.clock2q_machine.proofs.Whole.{one_if, some_is, IsPlaced, whole-hit, whole-forgotten, whole-stored, placed-main, placed-small, unknown_once_forgotten, small_made, main_made}

-- the slots of a range, each once
count-range : (slot a n : ℕ) → count_by (λ s. s == slot) (range_with_len a n) ≡ cond (nat_lt slot a) 0 (one_if (nat_lt slot (a + n)))
count-range slot a zero =
    elim (cases_lt slot a) [
      | inl below ↦ rw (lt-ltb slot a below) refl
      | inr above ↦ rw (le-ltb slot a above, le-ltb slot (a + zero) (omega (arith, above))) refl
    ]
count-range slot a (suc n) =
    let rest = count-range slot (a + 1) n in
    let step = sum_by-cons (λ s. one_if (s == slot)) a (range_with_len (a + 1) n) in
    let end : a + 1 + n ≡ a + suc n = omega arith in
    elim (cases_lt slot a) [
      | inl below ↦ rw (lt-ltb slot a below) (omega (arith, step, ap one_if (ne_eqb a slot (λ e. omega (arith, e, below))), rw (lt-ltb slot (a + 1) (omega (arith, below))) at rest))
      | inr above ↦ elim (cases_lt a slot) [
        | inl past ↦ rw (le-ltb slot a above) (omega (arith, step, ap one_if (ne_eqb a slot (λ e. omega (arith, e, past))), rw (le-ltb slot (a + 1) (omega (arith, past)), end) at rest))
        | inr same ↦
            let at : a ≡ slot = omega (arith, above, same) in
            rw (le-ltb slot a above) (omega (arith, step, ap one_if (eq-eqb a slot at), rw (lt-ltb slot (a + 1) (omega (arith, at))) at rest, ap one_if (lt-ltb slot (a + suc n) (omega (arith, at)))))
      ]
    ]

module _ {X : Type 0} where
  -- what is removed and what stays
  length-without : (p : X → Bool) (xs : List X) → length (filter (λ x. not (p x)) xs) + count_by p xs ≡ length xs
  length-without p [] = refl
  length-without p (x ∷ xs) =
      (elim (p x) as (λ b. p x ≡ b → length (cond (not b) (x ∷ filter (λ y. not (p y)) xs) (filter (λ y. not (p y)) xs)) + count_by p (x ∷ xs) ≡ suc (length xs)) [
        | true ↦ λ e. omega (arith, sum_by-cons (λ y. one_if (p y)) x xs, ap one_if e, length-without p xs)
        | false ↦ λ e. omega (arith, sum_by-cons (λ y. one_if (p y)) x xs, ap one_if e, length-without p xs)
      ]) refl

  -- those that stay are counted as before, if none that is removed was counted
  count-without : (p q : X → Bool) → ((x : X) → p x ≡ true → q x ≡ false) → (xs : List X) → count_by q (filter (λ x. not (p x)) xs) ≡ count_by q xs
  count-without p q apart [] = refl
  count-without p q apart (x ∷ xs) =
      (elim (p x) as (λ b. p x ≡ b → count_by q (cond (not b) (x ∷ filter (λ y. not (p y)) xs) (filter (λ y. not (p y)) xs)) ≡ count_by q (x ∷ xs)) [
        | true ↦ λ e. omega (arith, sum_by-cons (λ y. one_if (q y)) x xs, ap one_if (apart x e), count-without p q apart xs)
        | false ↦ λ e. omega (arith, sum_by-cons (λ y. one_if (q y)) x xs, sum_by-cons (λ y. one_if (q y)) x (filter (λ y. not (p y)) xs), count-without p q apart xs)
      ]) refl

  none-without : (p : X → Bool) (xs : List X) → count_by p (filter (λ x. not (p x)) xs) ≡ 0
  none-without p [] = refl
  none-without p (x ∷ xs) =
      (elim (p x) as (λ b. p x ≡ b → count_by p (cond (not b) (x ∷ filter (λ y. not (p y)) xs) (filter (λ y. not (p y)) xs)) ≡ 0) [
        | true ↦ λ e. none-without p xs
        | false ↦ λ e. omega (arith, sum_by-cons (λ y. one_if (p y)) x (filter (λ y. not (p y)) xs), ap one_if e, none-without p xs)
      ]) refl

length-supplied : {V : Type 0} (n : ℕ) (values : List V) → length (supplied n values) ≤ n
length-supplied zero values = omega arith
length-supplied (suc n) [] = omega arith
length-supplied (suc n) (v ∷ []) = omega (arith, length-supplied n (v ∷ []))
length-supplied (suc n) (v ∷ w ∷ values) = omega (arith, length-supplied n (w ∷ values))

module _ {K V : Type 0} where
  -- the number of residents at a slot
  abbrev pub held : ℕ → Machine K V → ℕ
  held slot m = count_by (λ e. e.slot == slot) m.small + count_by (λ e. e.slot == slot) m.main

  held-other : (slot other : ℕ) → (other ≡ slot → ⊥) → (m : Machine K V) → held other (vacated slot m) ≡ held other m
  held-other slot other differ m =
      let apart : (t : ℕ) → (t == slot) ≡ true → (t == other) ≡ false = λ t e. ne_eqb t other (λ is. differ (sym is ∙ eqb-true t slot e)) in
      omega (
        arith,
        count-without (λ (e : SmallEntry K). e.slot == slot) (λ e. e.slot == other) (λ e is. apart e.slot is) m.small,
        count-without (λ (e : MainEntry K). e.slot == slot) (λ e. e.slot == other) (λ e is. apart e.slot is) m.main,
      )

  module _ (eq : K → K → Bool) where
    -- other values, as many
    revalued : (m : Machine K V) → IsWhole eq m → (values : List V) → length values ≡ length m.values → IsWhole eq (record m { values = values })
    revalued m h values same = record {
      small_below = h.small_below;
      small_within = h.small_within;
      main_within = h.main_within;
      history_within = h.history_within;
      made_within = rw same h.made_within;
      slots_counted = h.slots_counted ∙ sym same;
      slots_once = λ slot. h.slots_once slot ∙ ap (λ n. if nat_lt slot n then 1 else 0) (sym same);
      keys_once = h.keys_once;
    }

  module _ (eq : K → K → Bool) (m : Machine K V) (h : IsWhole eq m) where
    -- a slot that was made has another value
    pub whole-changed : (slot : ℕ) (value : V) → slot < length m.values → IsWhole eq (stored slot value m)
    whole-changed slot value made = rw (lt-ltb slot (length m.values) made) (revalued eq m h (slice_set m.values slot value) (length-set m.values slot value))

    -- a resident leaves
    pub whole-vacated : (slot : ℕ) → 0 < held slot m → IsWhole eq (vacated slot m)
    whole-vacated slot some =
        let once = h.slots_once slot in
        let at : held slot m ≡ 1 =
        elim (cases_lt slot (length m.values)) [
          | inl below ↦ omega (arith, once, ap one_if (lt-ltb slot (length m.values) below), some)
          | inr above ↦ absurd (omega (arith, once, ap one_if (le-ltb slot (length m.values) above), some))
        ] in
        record {
          small_below = h.small_below;
          small_within = omega (arith, length-without (λ (e : SmallEntry K). e.slot == slot) m.small, h.small_within);
          main_within = omega (arith, length-without (λ (e : MainEntry K). e.slot == slot) m.main, h.main_within);
          history_within = h.history_within;
          made_within = h.made_within;
          slots_counted = omega (arith, length-without (λ (e : SmallEntry K). e.slot == slot) m.small, length-without (λ (e : MainEntry K). e.slot == slot) m.main, at, h.slots_counted);
          slots_once = λ other.
              elim (cases_lt other slot) [
                | inl less ↦ standing-other other (λ e. omega (arith, e, less)) ∙ h.slots_once other
                | inr more ↦ elim (cases_lt slot other) [
                  | inl greater ↦ standing-other other (λ e. omega (arith, e, greater)) ∙ h.slots_once other
                  | inr not_more ↦
                      let same : slot ≡ other = omega (arith, more, not_more) in
                      subst (λ s. standings s (vacated slot m) ≡ (if nat_lt s (length m.values) then 1 else 0)) same (standing-own at ∙ h.slots_once slot)
                ]
              ];
          keys_once =
              λ key. omega (
                arith,
                h.keys_once key,
                sum_by-filter-le (λ e. one_if (eq key e.key)) (λ (e : SmallEntry K). not (e.slot == slot)) m.small,
                sum_by-filter-le (λ e. one_if (eq key e.key)) (λ (e : MainEntry K). not (e.slot == slot)) m.main,
              );
        } where
          standing-other : (other : ℕ) → (other ≡ slot → ⊥) → standings other (vacated slot m) ≡ standings other m
          standing-other other differ = omega (arith, held-other slot other differ m, sum_by-cons (λ s. one_if (s == other)) slot m.free, ap one_if (ne_eqb slot other (λ e. differ (sym e))))

          standing-own : held slot m ≡ 1 → standings slot (vacated slot m) ≡ standings slot m
          standing-own at =
              omega (
                arith,
                at,
                none-without (λ (e : SmallEntry K). e.slot == slot) m.small,
                none-without (λ (e : MainEntry K). e.slot == slot) m.main,
                sum_by-cons (λ s. one_if (s == slot)) slot m.free,
                ap one_if (eq-eqb slot slot refl),
              )

    module _ (laws : IsEquivalence eq) (key : K) (absent : known_count (eq key) m ≡ 0) (p : Placement K V) (placed : IsPlaced key m p) where
      -- a key that takes a slot that was made may leave its value
      whole-reused : (fresh : V) → IsWhole eq (if nat_lt p.slot (length m.values) then p.machine else stored p.slot fresh p.machine)
      whole-reused fresh =
          let whole = whole-stored eq m h laws key absent p placed fresh in
          elim placed.slots [
            | inl keeps ↦
                let made : nat_lt p.slot (length p.machine.values) ≡ true = lt-ltb p.slot (length p.machine.values) (rw placed.values keeps.made) in
                let as_long : length p.machine.values ≡ length (stored p.slot fresh p.machine).values = rw made (sym (length-set p.machine.values p.slot fresh)) in
                rw (lt-ltb p.slot (length m.values) keeps.made) (revalued eq (stored p.slot fresh p.machine) whole p.machine.values as_long)
            | inr makes ↦ rw (le-ltb p.slot (length m.values) (omega (arith, makes.next))) whole
          ]

  module _ (eq : K → K → Bool) (laws : IsEquivalence eq) where
    module _ (key : K) (m : Machine K V) (h : IsWhole eq m) (absent : slot_of (eq key) m ≡ None) where
      abbrev rest : Machine K V
      rest = forgotten (eq key) m

      placed : (b : Bool) → goes_to_main (list_any (eq key) m.history) m ≡ b → IsPlaced key rest (if b then into_main key rest else into_small key rest)
      placed true main = placed-main eq rest (whole-forgotten eq m h (eq key)) key
      placed false small =
          placed-small eq rest (whole-forgotten eq m h (eq key)) key
          (unknown_small (list_any (eq key) m.history) (m.shares.small == 0) (is_some (vacancy m) && nat_le m.shares.small (length m.small)) small) where
            unknown_small : (known a b : Bool) → (known || a || b) ≡ false → (false || a || b) ≡ false
            unknown_small true a b e = cc
            unknown_small false a b e = e

      pub placed-key : IsPlaced key rest (placement (eq key) key m)
      placed-key = placed (goes_to_main (list_any (eq key) m.history) m) refl

      pub lasting-inserted : (value : V) → IsWhole eq (inserted (eq key) key value m)
      lasting-inserted value = whole-stored eq rest (whole-forgotten eq m h (eq key)) laws key (unknown_once_forgotten (eq key) m absent) (placement (eq key) key m) placed-key value

      pub lasting-reused : (fresh : V) → IsWhole eq (reused (eq key) key fresh m)
      lasting-reused fresh = whole-reused eq rest (whole-forgotten eq m h (eq key)) laws key (unknown_once_forgotten (eq key) m absent) (placement (eq key) key m) placed-key fresh

    pub lasting-hit : (is : K → Bool) (m : Machine K V) → IsWhole eq m → IsWhole eq (hit is m)
    lasting-hit is m h = whole-hit eq m h is

    -- the slot of a resident was made
    pub resident_made : (is : K → Bool) (m : Machine K V) → IsWhole eq m → (slot : ℕ) → slot_of is m ≡ Some slot → slot < length m.values
    resident_made is m h slot found = found_slot is m.small m.main (λ s. s < length m.values) (Some slot) (small_made eq m h) (main_made eq m h) (sym found)

    lasting-replaced : (is : K → Bool) (value : V) (o : Option ℕ) (m : Machine K V) → slot_of is m ≡ o → IsWhole eq m → IsWhole eq (replaced_at is value o m)
    lasting-replaced is value None m found h = h
    lasting-replaced is value (Some slot) m found h = whole-changed eq (hit is m) (whole-hit eq m h is) slot value (resident_made is m h slot found)

    lasting-put : (key : K) (value : V) (o : Option ℕ) (m : Machine K V) → slot_of (eq key) m ≡ o → IsWhole eq m
        → IsWhole eq (if is_some o then replaced_at (eq key) value o m else inserted (eq key) key value m)
    lasting-put key value None m found h = lasting-inserted key m h found value
    lasting-put key value (Some slot) m found h = lasting-replaced (eq key) value (Some slot) m found h

    lasting-fetched : (key : K) (value : V) (o : Option ℕ) (m : Machine K V) → slot_of (eq key) m ≡ o → IsWhole eq m → IsWhole eq (if is_some o then hit (eq key) m else inserted (eq key) key value m)
    lasting-fetched key value None m found h = lasting-inserted key m h found value
    lasting-fetched key value (Some slot) m found h = lasting-hit (eq key) m h

    lasting-slotted : (key : K) (fresh : V) (o : Option ℕ) (m : Machine K V) → slot_of (eq key) m ≡ o → IsWhole eq m → IsWhole eq (if is_some o then hit (eq key) m else reused (eq key) key fresh m)
    lasting-slotted key fresh None m found h = lasting-reused key m h found fresh
    lasting-slotted key fresh (Some slot) m found h = lasting-hit (eq key) m h

    -- a key that is found is held
    found_held : (is : K → Bool) (m : Machine K V) (slot : ℕ) → slot_of is m ≡ Some slot → 0 < held slot m
    found_held is m slot found =
        omega (
          arith,
          found_counted is m slot found,
          sum_by-le-sum_by (λ (e : SmallEntry K). one_if (is e.key && e.slot == slot)) (λ e. one_if (e.slot == slot)) m.small
              (λ e. fewer_second (is e.key) (e.slot == slot)),
          sum_by-le-sum_by (λ (e : MainEntry K). one_if (is e.key && e.slot == slot)) (λ e. one_if (e.slot == slot)) m.main (λ e. fewer_second (is e.key) (e.slot == slot)),
        )

    lasting-removed : (is : K → Bool) (o : Option ℕ) (m : Machine K V) → slot_of is m ≡ o → IsWhole eq m → IsWhole eq (removed_at is o m)
    lasting-removed is None m found h = whole-forgotten eq m h is
    lasting-removed is (Some slot) m found h = whole-vacated eq m h slot (found_held is m slot found)

    -- a new machine
    pub lasting-empty : (shares : Shares) → shares.small < shares.capacity → IsWhole {V = V} eq (empty shares)
    lasting-empty shares below = record {
      small_below = below;
      small_within = omega arith;
      main_within = omega arith;
      history_within = omega arith;
      made_within = omega arith;
      slots_counted = refl;
      slots_once = λ slot. ap (λ b. if b then 1 else 0) (sym (le-ltb slot 0 (omega arith)));
      keys_once = λ key. omega arith;
    }

    -- slots that were never made are made and free
    pub lasting-prefilled : (made : List V) (m : Machine K V) → length m.values + length made ≤ m.shares.capacity → IsWhole eq m → IsWhole eq (prefilled made m)
    lasting-prefilled made m within h =
        let more : length (m.values ++ made) ≡ length m.values + length made = length-append m.values made in
        let range = range_with_len (length m.values) (length made) in
        record {
          small_below = h.small_below;
          small_within = h.small_within;
          main_within = h.main_within;
          history_within = h.history_within;
          made_within = rw more within;
          slots_counted = omega (arith, h.slots_counted, more, length-append range m.free, length-range_with_len (length m.values) (length made));
          slots_once = λ slot. omega (arith, sum_by-append (λ s. one_if (s == slot)) range m.free, count-range slot (length m.values) (length made), h.slots_once slot)
              ∙ with_range slot (length m.values) (length made) ∙ ap (λ n. if nat_lt slot n then 1 else 0) (sym more);
          keys_once = h.keys_once;
        } where
          with_range : (slot n k : ℕ) → cond (nat_lt slot n) 0 (one_if (nat_lt slot (n + k))) + (if nat_lt slot n then 1 else 0) ≡ (if nat_lt slot (n + k) then 1 else 0)
          with_range slot n k =
              elim (cases_lt slot n) [
                | inl below ↦ rw (lt-ltb slot n below, lt-ltb slot (n + k) (omega (arith, below))) refl
                | inr above ↦ rw (le-ltb slot n above) (omega arith)
              ]

    -- slots that rise, each a resident's
    abbrev Rising : Machine K V → ℕ → List ℕ → Type 0
    Rising m a [] = ⊤
    Rising m a (s ∷ ss) = (a ≤ s) × ((0 < held s m) × Rising m (suc s) ss)

    rising-from : (m : Machine K V) (a b : ℕ) (ss : List ℕ) → a ≤ b → Rising m b ss → Rising m a ss
    rising-from m a b [] le r = tt
    rising-from m a b (s ∷ ss) le r = (omega (arith, le, r.0), r.1)

    rising-refused : (m : Machine K V) (a : ℕ) (bits : List Bool) (ss : List ℕ) → Rising m a ss → Rising m a (refused_slots bits ss)
    rising-refused m a [] ss r = tt
    rising-refused m a (keep ∷ bits) [] r = tt
    rising-refused m a (true ∷ bits) (s ∷ ss) r = rising-from m a (suc s) (refused_slots bits ss) (omega (arith, r.0)) (rising-refused m (suc s) bits ss r.1.1)
    rising-refused m a (false ∷ bits) (s ∷ ss) r = (r.0, (r.1.0, rising-refused m (suc s) bits ss r.1.1))

    rising-vacated : (m : Machine K V) (slot a : ℕ) (ss : List ℕ) → slot < a → Rising m a ss → Rising (vacated slot m) a ss
    rising-vacated m slot a [] below r = tt
    rising-vacated m slot a (s ∷ ss) below r =
        (r.0, (subst (λ n. 0 < n) (sym (held-other slot s (λ e. omega (arith, e, below, r.0)) m)) r.1.0, rising-vacated m slot (suc s) ss (omega (arith, below, r.0)) r.1.1))

    lasting-vacated : (m : Machine K V) (a : ℕ) (ss : List ℕ) → Rising m a ss → IsWhole eq m → IsWhole eq (vacated_all ss m)
    lasting-vacated m a [] r h = h
    lasting-vacated m a (s ∷ ss) r h =
        lasting-vacated (vacated s m) (suc s) ss (rising-vacated m s (suc s) ss (omega arith) r.1.1) (whole-vacated eq m h s r.1.0)

    -- the residents by slot
    at_slot : (m : Machine K V) (slot : ℕ) (r : K × ℕ) → resident_at m slot ≡ Some r → (r.1 ≡ slot) × (0 < held slot m)
    at_slot m slot r found = (
      found_at (residents m) found,
      omega (
        arith,
        counted (residents m) found,
        sum_by-append (λ (x : K × ℕ). one_if (x.1 == slot)) (map (λ e. (e.key, e.slot)) m.small) (map (λ e. (e.key, e.slot)) m.main),
        mapped m.small,
        mapped_main m.main,
      ),
    ) where
      found_at : (rs : List (K × ℕ)) → find (λ x. x.1 == slot) rs ≡ Some r → r.1 ≡ slot
      found_at [] e = cc
      found_at (x ∷ rs) e =
          (elim (x.1 == slot) as (λ b. (x.1 == slot) ≡ b → cond b (Some x) (find (λ y. y.1 == slot) rs) ≡ Some r → r.1 ≡ slot)
          [ true ↦ λ is same. ap (λ y. y.1) (sym (some_is x r same)) ∙ eqb-true x.1 slot is | false ↦ λ _ later. found_at rs later ]) refl e

      counted : (rs : List (K × ℕ)) → find (λ x. x.1 == slot) rs ≡ Some r → 0 < count_by (λ x. x.1 == slot) rs
      counted [] e = cc
      counted (x ∷ rs) e =
          (elim (x.1 == slot) as (λ b. (x.1 == slot) ≡ b → cond b (Some x) (find (λ y. y.1 == slot) rs) ≡ Some r → 0 < count_by (λ y. y.1 == slot) (x ∷ rs)) [
            | true ↦ λ is _. omega (arith, sum_by-cons (λ y. one_if (y.1 == slot)) x rs, ap one_if is)
            | false ↦ λ _ later. omega (arith, sum_by-cons (λ y. one_if (y.1 == slot)) x rs, counted rs later)
          ]) refl e

      mapped : (es : List (SmallEntry K)) → count_by (λ (x : K × ℕ). x.1 == slot) (map (λ e. (e.key, e.slot)) es) ≡ count_by (λ e. e.slot == slot) es
      mapped [] = refl
      mapped (e ∷ es) = omega (arith, sum_by-cons (λ (y : K × ℕ). one_if (y.1 == slot)) (e.key, e.slot) (map (λ e. (e.key, e.slot)) es), sum_by-cons (λ e. one_if (e.slot == slot)) e es, mapped es)

      mapped_main : (es : List (MainEntry K)) → count_by (λ (x : K × ℕ). x.1 == slot) (map (λ e. (e.key, e.slot)) es) ≡ count_by (λ e. e.slot == slot) es
      mapped_main [] = refl
      mapped_main (e ∷ es) =
          omega (arith, sum_by-cons (λ (y : K × ℕ). one_if (y.1 == slot)) (e.key, e.slot) (map (λ e. (e.key, e.slot)) es), sum_by-cons (λ e. one_if (e.slot == slot)) e es, mapped_main es)

    rising-next : (m : Machine K V) (a : ℕ) (rs : List (K × ℕ)) (o : Option (K × ℕ)) → resident_at m a ≡ o → Rising m (suc a) (map (λ r. r.1) rs) → Rising m a (map (λ r. r.1) (cons_option o rs))
    rising-next m a rs None none later = rising-from m a (suc a) (map (λ r. r.1) rs) (omega arith) later
    rising-next m a rs (Some r) found later =
        let at = at_slot m a r found in
        (omega (arith, at.0), (subst (λ s. 0 < held s m) (sym at.0) at.1, subst (λ s. Rising m (suc s) (map (λ r. r.1) rs)) (sym at.0) later))

    rising-residents : (m : Machine K V) (a n : ℕ) → Rising m a (map (λ r. r.1) (filter_map (resident_at m) (range_with_len a n)))
    rising-residents m a zero = tt
    rising-residents m a (suc n) =
        let rs : List (K × ℕ) = filter_map (resident_at m) (range_with_len (a + 1) n) in
        let next : a + 1 ≡ suc a = omega arith in
        rising-next m a rs (resident_at m a) refl (subst (λ b. Rising m b (map (λ r. r.1) rs)) next (rising-residents m (a + 1) n))

    lasting-retained : (bits : List Bool) (m : Machine K V) → IsWhole eq m → IsWhole eq (retained bits m)
    lasting-retained bits m = lasting-vacated m 0 (refused_slots bits (map (λ r. r.1) (by_slot m))) (rising-refused m 0 bits (map (λ r. r.1) (by_slot m)) (rising-residents m 0 (length m.values)))

    pub lasting-after : (call : Call K V) (m : Machine K V) → IsWhole eq m → IsWhole eq (after eq call m)
    lasting-after (Put key value) m h = lasting-put key value (slot_of (eq key) m) m refl h
    lasting-after (Get key) m h = lasting-hit (eq key) m h
    lasting-after (Peek key) m h = h
    lasting-after (Contains key) m h = h
    lasting-after (GetAt slot key) m h = elim (is_at slot (slot_of (eq key) m)) as (λ b. IsWhole eq (if b then hit (eq key) m else m)) [ true ↦ lasting-hit (eq key) m h | false ↦ h ]
    lasting-after (Set key value) m h = lasting-replaced (eq key) value (slot_of (eq key) m) m refl h
    lasting-after (With key value) m h = lasting-fetched key value (slot_of (eq key) m) m refl h
    lasting-after (Try key (Some value)) m h = lasting-fetched key value (slot_of (eq key) m) m refl h
    lasting-after (Try key None) m h = lasting-hit (eq key) m h
    lasting-after (SlotFor key value) m h = lasting-slotted key value (slot_of (eq key) m) m refl h
    lasting-after (Remove key) m h = lasting-removed (eq key) (slot_of (eq key) m) m refl h
    lasting-after (Retain bits) m h = lasting-retained bits m h
    lasting-after Clear m h = lasting-empty m.shares h.small_below
    lasting-after Evict m h = whole-evicted eq m h
    lasting-after (Prefill values) m h =
        lasting-prefilled (supplied (m.shares.capacity - length m.values) values) m (omega (arith, length-supplied (m.shares.capacity - length m.values) values, h.made_within)) h
    lasting-after Len m h = h
    lasting-after IsEmpty m h = h
    lasting-after Capacity m h = h

    -- whatever the calls
    pub lasting-run : (calls : List (Call K V)) (m : Machine K V) → IsWhole eq m → IsWhole eq (after_all eq calls m)
    lasting-run [] m h = h
    lasting-run (call ∷ calls) m h = lasting-run calls (after eq call m) (lasting-after call m h)
