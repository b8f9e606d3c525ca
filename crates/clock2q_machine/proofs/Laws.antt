-- What a caller may rely on, whatever the call and the machine: which value a key has, at which slot, and that no other key's changes.
use Rattle.std.proofs.Common.{◌≡◌, ℕ, ◌-◌, ◌<◌, ◌≤◌, ◌==◌, Bool, true, false, ◌&&◌, map, length, inl, inr, Option, Some, None, refl, sym, ap, ◌∙◌, arith, eq-eqb, eqb-true}
use Rattle.std.specs.Prelude.{⊤, ◌↔◌, if◌then◌else◌, is_some, nat_lt, slice_get, IsSome}
use Rattle.std.specs.Cmp.{IsEquivalence}
use Rattle.std.specs.Option.{option_and_then}
use Rattle.std.proofs.lemmas.Bool.{cases_lt, lt-ltb, le-ltb}
use Rattle.std.proofs.lemmas.Option.{slice_get_past}
use Rattle.clock2q_machine.specs.Shares.{main_share}
use Rattle.clock2q_machine.specs.Calls.{Call, Put, Get, Peek, Contains, GetAt, Set, With, Try, SlotFor, Remove, Retain, Clear, Evict, Prefill, Len, IsEmpty, Capacity}
use Rattle.clock2q_machine.specs.Machine.{Machine, hit, stored, placement, inserted, reused, resident_count, slot_of, value_of, vacancy, vacated_all, evicted, removed_at, by_slot, prefilled}
use Rattle.clock2q_machine.specs.Steps.{refused_slots, is_at, supplied, fetched_value, replaced_at, replaced, put, fetched, slotted, slotted_at, hit_at, value_at, after}
use Rattle.clock2q_machine.specs.Bounds.{makes_room}
use Rattle.clock2q_machine.specs.Whole.{IsWhole}
use Rattle.clock2q_machine.proofs.Whole.{one_if, some_is, none_is, weight, all_resident}
use Rattle.clock2q_machine.proofs.MachineInvariant.{placed-key, lasting-inserted, lasting-reused, resident_made, lasting-after}
use Rattle.clock2q_machine.proofs.Standing.{stored_there, stored_elsewhere, get-append, get-within}
use Rattle.clock2q_machine.proofs.Evicted.{weight-evicted, values-evicted}
use Rattle.clock2q_machine.proofs.Entering.{weight-hit, weight-replaced, weight-vacated, weight-removed, values-vacated, values-removed, joined, narrow, same_slots, StaysOrGoes, stays_or_goes, slots_apart, differs, entered_there, others_entered}

module _ {K V : Type 0} (eq : K → K → Bool) where
  -- the call brings no value to this key
  abbrev pub IsOther : Call K V → K → Type 0
  IsOther (Put key value) k = eq k key ≡ false
  IsOther (Set key value) k = eq k key ≡ false
  IsOther (With key value) k = eq k key ≡ false
  IsOther (Try key value) k = eq k key ≡ false
  IsOther (SlotFor key fresh) k = eq k key ≡ false
  IsOther call k = ⊤

  module _ (laws : IsEquivalence eq) (m : Machine K V) (h : IsWhole eq m) where
    -- A key just put or inserted is resident with its value.

    value_found : (n : Machine K V) (k : K) (slot : ℕ) → slot_of (eq k) n ≡ Some slot → value_of (eq k) n ≡ slice_get n.values slot
    value_found n k slot found = ap (option_and_then (slice_get n.values)) found

    module _ (key : K) (absent : slot_of (eq key) m ≡ None) where
      pub slot_at_most : (placement (eq key) key m).slot ≤ length (placement (eq key) key m).machine.values
      slot_at_most =
          let placed = placed-key eq laws key m h absent in
          elim placed.slots [ inl keeps ↦ omega (arith, keeps.made, ap (length {A = V}) placed.values) | inr makes ↦ omega (arith, makes.next, ap (length {A = V}) placed.values) ]

      -- and the slot that it took has that value
      pub inserted_value : (value : V) → let p = placement (eq key) key m in slice_get (inserted (eq key) key value m).values p.slot ≡ Some value
      inserted_value value = stored_there (placement (eq key) key m).machine (placement (eq key) key m).slot value slot_at_most

      pub inserted_there : (value : V) → value_of (eq key) (inserted (eq key) key value m) ≡ Some value
      inserted_there value =
          let p = placement (eq key) key m in
          value_found (inserted (eq key) key value m) key p.slot (entered_there eq laws m h key absent value false (lasting-inserted eq laws key m h absent value))
          ∙ stored_there p.machine p.slot value slot_at_most

    hit_there : (key : K) (slot : ℕ) → slot_of (eq key) m ≡ Some slot → slot_of (eq key) (hit (eq key) m) ≡ Some slot
    hit_there key slot found = same_slots eq (hit (eq key) m) m h (λ w. weight-hit w (eq key) m) key ∙ found

    pub replaced_there : (key : K) (value : V) (slot : ℕ) → slot_of (eq key) m ≡ Some slot → value_of (eq key) (stored slot value (hit (eq key) m)) ≡ Some value
    replaced_there key value slot found =
        let made = resident_made eq laws (eq key) m h slot found in
        value_found (stored slot value (hit (eq key) m)) key slot (hit_there key slot found) ∙ stored_there (hit (eq key) m) slot value (omega (arith, made))

    pub put_there : (key : K) (value : V) → value_of (eq key) (put (eq key) key value m) ≡ Some value
    put_there key value = by_slot (slot_of (eq key) m) refl where
      by_slot : (o : Option ℕ) → slot_of (eq key) m ≡ o → value_of (eq key) (if is_some o then replaced_at (eq key) value o m else inserted (eq key) key value m) ≡ Some value
      by_slot None absent = inserted_there key absent value
      by_slot (Some slot) found = replaced_there key value slot found

    had : (key : K) (slot : ℕ) → slot_of (eq key) m ≡ Some slot → (value : V) × (value_of (eq key) m ≡ Some value)
    had key slot found = let v = get-within m.values slot (resident_made eq laws (eq key) m h slot found) in (v.0, value_found m key slot found ∙ v.1)

    -- the value that it had, otherwise the one that the call brings
    pub fetched_there : (key : K) (value : V) → value_of (eq key) (fetched (eq key) key value m) ≡ Some (fetched_value (value_of (eq key) m) value)
    fetched_there key value = by_slot (slot_of (eq key) m) refl where
      by_slot : (o : Option ℕ) → slot_of (eq key) m ≡ o → value_of (eq key) (if is_some o then hit (eq key) m else inserted (eq key) key value m) ≡ Some (fetched_value (value_of (eq key) m) value)
      by_slot None absent = inserted_there key absent value ∙ sym (ap (λ o. Some (fetched_value (option_and_then (slice_get m.values) o) value)) absent)
      by_slot (Some slot) found =
          let v = had key slot found in
          value_found (hit (eq key) m) key slot (hit_there key slot found) ∙ sym (value_found m key slot found) ∙ v.1 ∙ sym (ap (λ o. Some (fetched_value o value)) v.1)

    -- at the slot that is answered
    pub slotted_there : (key : K) (fresh : V) → slot_of (eq key) (slotted (eq key) key fresh m) ≡ Some (slotted_at (slot_of (eq key) m) (eq key) key m)
    slotted_there key fresh = by_slot (slot_of (eq key) m) refl where
      by_slot : (o : Option ℕ) → slot_of (eq key) m ≡ o → slot_of (eq key) (if is_some o then hit (eq key) m else reused (eq key) key fresh m) ≡ Some (slotted_at o (eq key) key m)
      by_slot None absent = entered_there eq laws m h key absent fresh (nat_lt (placement (eq key) key m).slot (length m.values)) (lasting-reused eq laws key m h absent fresh)
      by_slot (Some slot) found = hit_there key slot found

    -- with the value that the slot has, or the fresh value for a new slot
    pub reused_value : (key : K) (absent : slot_of (eq key) m ≡ None) (fresh : V) → let slot = (placement (eq key) key m).slot in
        slice_get (reused (eq key) key fresh m).values slot ≡ Some (fetched_value (slice_get m.values slot) fresh)
    reused_value key absent fresh =
        let p = placement (eq key) key m in
        let values : p.machine.values ≡ m.values = (placed-key eq laws key m h absent).values in
        elim (cases_lt p.slot (length m.values)) [
          | inl made ↦
              let v = get-within m.values p.slot made in
              rw (lt-ltb p.slot (length m.values) made) (ap (λ vs. slice_get vs p.slot) values ∙ v.1 ∙ sym (ap (λ o. Some (fetched_value o fresh)) v.1))
          | inr next ↦
              let none : slice_get m.values p.slot ≡ None = slice_get_past m.values p.slot next in
              rw (le-ltb p.slot (length m.values) next) (stored_there p.machine p.slot fresh (slot_at_most key absent) ∙ sym (ap (λ o. Some (fetched_value o fresh)) none))
        ]

    pub slotted_value : (key : K) (fresh : V) → let slot = slotted_at (slot_of (eq key) m) (eq key) key m in
        value_of (eq key) (slotted (eq key) key fresh m) ≡ Some (fetched_value (slice_get m.values slot) fresh)
    slotted_value key fresh = value_found (slotted (eq key) key fresh m) key (slotted_at (slot_of (eq key) m) (eq key) key m) (slotted_there key fresh) ∙ by_slot (slot_of (eq key) m) refl where
      by_slot : (o : Option ℕ) → slot_of (eq key) m ≡ o → let slot = slotted_at o (eq key) key m in
          slice_get (if is_some o then hit (eq key) m else reused (eq key) key fresh m).values slot ≡ Some (fetched_value (slice_get m.values slot) fresh)
      by_slot None absent = reused_value key absent fresh
      by_slot (Some slot) found =
          let v = had key slot found in
          let is : slice_get m.values slot ≡ Some v.0 = sym (value_found m key slot found) ∙ v.1 in
          is ∙ sym (ap (λ o. Some (fetched_value o fresh)) is)

    -- Another key keeps its value and its slot, or is gone.

    hit_keeps : (is : K → Bool) (k : K) → StaysOrGoes eq k m (hit is m)
    hit_keeps is k = let same = same_slots eq (hit is m) m h (λ w. weight-hit w is m) k in inr (same, ap (option_and_then (slice_get m.values)) same)

    replaced_keeps : (key : K) (value : V) (k : K) → eq k key ≡ false → (o : Option ℕ) → slot_of (eq key) m ≡ o → StaysOrGoes eq k m (replaced_at (eq key) value o m)
    replaced_keeps key value k other None absent = inr (refl, refl)
    replaced_keeps key value k other (Some slot) found =
        stays_or_goes eq k m (stored slot value (hit (eq key) m)) (narrow eq (hit (eq key) m) m h k (λ t. omega (arith, weight-hit (λ x s. one_if (eq k x && s == t)) (eq key) m)))
        (λ t _ was. stored_elsewhere (hit (eq key) m) slot value t (slots_apart eq laws m h k key other slot t found was) (resident_made eq laws (eq k) m h t was))

    wanted_keeps : (k key : K) (o : Option ℕ) → slot_of (eq key) m ≡ o → (hits inserts : Machine K V) → StaysOrGoes eq k m hits
        → (slot_of (eq key) m ≡ None → StaysOrGoes eq k m inserts) → StaysOrGoes eq k m (if is_some o then hits else inserts)
    wanted_keeps k key None absent hits inserts stays enters = enters absent
    wanted_keeps k key (Some slot) found hits inserts stays enters = stays

    inserted_keeps : (key : K) (value : V) (k : K) → eq k key ≡ false → slot_of (eq key) m ≡ None → StaysOrGoes eq k m (inserted (eq key) key value m)
    inserted_keeps key value k other absent = others_entered eq laws m h key absent value false (lasting-inserted eq laws key m h absent value) k other

    reused_keeps : (key : K) (fresh : V) (k : K) → eq k key ≡ false → slot_of (eq key) m ≡ None → StaysOrGoes eq k m (reused (eq key) key fresh m)
    reused_keeps key fresh k other absent = others_entered eq laws m h key absent fresh (nat_lt (placement (eq key) key m).slot (length m.values)) (lasting-reused eq laws key m h absent fresh) k other

    fewer_keeps : (n : Machine K V) (k : K) → ((w : K → ℕ → ℕ) → weight w n ≤ weight w m) → n.values ≡ m.values → StaysOrGoes eq k m n
    fewer_keeps n k less values = stays_or_goes eq k m n (narrow eq n m h k (λ t. less (λ x s. one_if (eq k x && s == t)))) (λ t _ _. ap (λ vs. slice_get vs t) values)

    pub others_keep : (call : Call K V) (k : K) → IsOther call k → StaysOrGoes eq k m (after eq call m)
    others_keep (Put key value) k other =
        wanted_keeps k key (slot_of (eq key) m) refl (replaced_at (eq key) value (slot_of (eq key) m) m)
        (inserted (eq key) key value m) (replaced_keeps key value k other (slot_of (eq key) m) refl) (inserted_keeps key value k other)
    others_keep (Get key) k other = hit_keeps (eq key) k
    others_keep (Peek key) k other = inr (refl, refl)
    others_keep (Contains key) k other = inr (refl, refl)
    others_keep (GetAt slot key) k other =
        elim (is_at slot (slot_of (eq key) m)) as (λ b. StaysOrGoes eq k m (if b then hit (eq key) m else m)) [ true ↦ hit_keeps (eq key) k | false ↦ inr (refl, refl) ]
    others_keep (Set key value) k other = replaced_keeps key value k other (slot_of (eq key) m) refl
    others_keep (With key value) k other = wanted_keeps k key (slot_of (eq key) m) refl (hit (eq key) m) (inserted (eq key) key value m) (hit_keeps (eq key) k) (inserted_keeps key value k other)
    others_keep (Try key (Some value)) k other = wanted_keeps k key (slot_of (eq key) m) refl (hit (eq key) m) (inserted (eq key) key value m) (hit_keeps (eq key) k) (inserted_keeps key value k other)
    others_keep (Try key None) k other = hit_keeps (eq key) k
    others_keep (SlotFor key fresh) k other = wanted_keeps k key (slot_of (eq key) m) refl (hit (eq key) m) (reused (eq key) key fresh m) (hit_keeps (eq key) k) (reused_keeps key fresh k other)
    others_keep (Remove key) k other =
        fewer_keeps (removed_at (eq key) (slot_of (eq key) m) m) k (λ w. weight-removed w (eq key) (slot_of (eq key) m) m) (values-removed (eq key) (slot_of (eq key) m) m)
    others_keep (Retain keep) k other =
        let slots = refused_slots keep (map (λ r. r.1) (by_slot m)) in
        fewer_keeps (vacated_all slots m) k (λ w. weight-vacated w slots m) (values-vacated slots m)
    others_keep Clear k other = inl refl
    others_keep Evict k other = fewer_keeps (evicted m) k (λ w. omega (arith, weight-evicted m w)) (values-evicted m)
    others_keep (Prefill values) k other =
        stays_or_goes eq k m (prefilled (supplied (m.shares.capacity - length m.values) values) m) (λ t found. found)
        (λ t _ was. get-append m.values (supplied (m.shares.capacity - length m.values) values) t (resident_made eq laws (eq k) m h t was))
    others_keep Len k other = inr (refl, refl)
    others_keep IsEmpty k other = inr (refl, refl)
    others_keep Capacity k other = inr (refl, refl)

    -- so one that has a value afterwards had it before
    pub others_had : (call : Call K V) (k : K) → IsOther call k → (v : V) → value_of (eq k) (after eq call m) ≡ Some v → value_of (eq k) m ≡ Some v
    others_had call k other v found = elim (others_keep call k other) [
      | inl gone ↦ absurd (none_is v (sym (ap (option_and_then (slice_get (after eq call m).values)) gone) ∙ found))
      | inr same ↦ sym same.1 ∙ found
    ]

    -- A key keeps its slot until it goes, promotion included.

    wanted_stays : (k key : K) (s t : ℕ) → slot_of (eq k) m ≡ Some s → (o : Option ℕ) → slot_of (eq key) m ≡ o → (hits inserts : Machine K V) → ((w : K → ℕ → ℕ) → weight w hits ≡ weight w m)
        → (slot_of (eq key) m ≡ None → eq k key ≡ false → StaysOrGoes eq k m inserts) → slot_of (eq k) (if is_some o then hits else inserts) ≡ Some t → t ≡ s
    wanted_stays k key s t had_slot None absent hits inserts stays enters found = elim (enters absent (differs eq laws m k key s absent had_slot)) [
      | inl gone ↦ absurd (none_is t (sym gone ∙ found))
      | inr same ↦ some_is t s (sym found ∙ same.0 ∙ had_slot)
    ]
    wanted_stays k key s t had_slot (Some slot) is hits inserts stays enters found = some_is t s (sym found ∙ same_slots eq hits m h stays k ∙ had_slot)

    stays : (k : K) (s t : ℕ) (n : Machine K V) → slot_of (eq k) m ≡ Some s → slot_of (eq k) n ≡ Some t → StaysOrGoes eq k m n → t ≡ s
    stays k s t n had_slot found (inl gone) = absurd (none_is t (sym gone ∙ found))
    stays k s t n had_slot found (inr same) = some_is t s (sym found ∙ same.0 ∙ had_slot)

    pub slot_stays : (call : Call K V) (k : K) (s t : ℕ) → slot_of (eq k) m ≡ Some s → slot_of (eq k) (after eq call m) ≡ Some t → t ≡ s
    slot_stays (Put key value) k s t had_slot found =
        wanted_stays k key s t had_slot (slot_of (eq key) m) refl (replaced_at (eq key) value (slot_of (eq key) m) m) (inserted (eq key) key value m)
        (λ w. weight-replaced w (eq key) value (slot_of (eq key) m) m) (λ absent other. inserted_keeps key value k other absent) found
    slot_stays (Get key) k s t had_slot found = stays k s t (hit (eq key) m) had_slot found (others_keep (Get key) k tt)
    slot_stays (Peek key) k s t had_slot found = stays k s t m had_slot found (inr (refl, refl))
    slot_stays (Contains key) k s t had_slot found = stays k s t m had_slot found (inr (refl, refl))
    slot_stays (GetAt slot key) k s t had_slot found = stays k s t (hit_at slot (eq key) m) had_slot found (others_keep (GetAt slot key) k tt)
    slot_stays (Set key value) k s t had_slot found =
        some_is t s (sym found ∙ same_slots eq (replaced (eq key) value m) m h (λ w. weight-replaced w (eq key) value (slot_of (eq key) m) m) k ∙ had_slot)
    slot_stays (With key value) k s t had_slot found =
        wanted_stays k key s t had_slot (slot_of (eq key) m) refl (hit (eq key) m) (inserted (eq key) key value m)
        (λ w. weight-hit w (eq key) m) (λ absent other. inserted_keeps key value k other absent) found
    slot_stays (Try key (Some value)) k s t had_slot found =
        wanted_stays k key s t had_slot (slot_of (eq key) m) refl (hit (eq key) m) (inserted (eq key) key value m)
        (λ w. weight-hit w (eq key) m) (λ absent other. inserted_keeps key value k other absent) found
    slot_stays (Try key None) k s t had_slot found = stays k s t (hit (eq key) m) had_slot found (hit_keeps (eq key) k)
    slot_stays (SlotFor key fresh) k s t had_slot found =
        wanted_stays k key s t had_slot (slot_of (eq key) m) refl (hit (eq key) m) (reused (eq key) key fresh m)
        (λ w. weight-hit w (eq key) m) (λ absent other. reused_keeps key fresh k other absent) found
    slot_stays (Remove key) k s t had_slot found = stays k s t (after eq (Remove key) m) had_slot found (others_keep (Remove key) k tt)
    slot_stays (Retain keep) k s t had_slot found = stays k s t (after eq (Retain keep) m) had_slot found (others_keep (Retain keep) k tt)
    slot_stays Clear k s t had_slot found = stays k s t (after eq Clear m) had_slot found (others_keep Clear k tt)
    slot_stays Evict k s t had_slot found = stays k s t (after eq Evict m) had_slot found (others_keep Evict k tt)
    slot_stays (Prefill values) k s t had_slot found = stays k s t (after eq (Prefill values) m) had_slot found (others_keep (Prefill values) k tt)
    slot_stays Len k s t had_slot found = stays k s t m had_slot found (inr (refl, refl))
    slot_stays IsEmpty k s t had_slot found = stays k s t m had_slot found (inr (refl, refl))
    slot_stays Capacity k s t had_slot found = stays k s t m had_slot found (inr (refl, refl))

    -- Only while Main is full does a call that removes none lose a resident.

    has_vacancy : resident_count m < m.shares.capacity → (slot : ℕ) × (vacancy m ≡ Some slot)
    has_vacancy room = by_vacancy (vacancy m) refl where
      by_vacancy : (o : Option ℕ) → vacancy m ≡ o → (slot : ℕ) × (vacancy m ≡ Some slot)
      by_vacancy None none = absurd (omega (arith, all_resident eq m h none, room))
      by_vacancy (Some slot) is = (slot, is)

    wanted_weight : (w : K → ℕ → ℕ) (o : Option ℕ) (hits inserts : Machine K V) → weight w hits ≡ weight w m
        → weight w m ≤ weight w inserts → weight w m ≤ weight w (if is_some o then hits else inserts)
    wanted_weight w None hits inserts stays enters = enters
    wanted_weight w (Some slot) hits inserts stays enters = omega (arith, stays)

    module _ (slot : ℕ) (vacant : vacancy m ≡ Some slot) (room : length m.main < main_share m.shares) where
      weight_inserted : (w : K → ℕ → ℕ) (key : K) (value : V) → weight w m ≤ weight w (inserted (eq key) key value m)
      weight_inserted w key value = joined w (eq key) key m slot vacant room

      weight_reused : (w : K → ℕ → ℕ) (key : K) (fresh : V) → weight w m ≤ weight w (reused (eq key) key fresh m)
      weight_reused w key fresh =
          let p = placement (eq key) key m in
          elim (nat_lt p.slot (length m.values)) as (λ b. weight w m ≤ weight w (if b then p.machine else stored p.slot fresh p.machine))
          [ true ↦ joined w (eq key) key m slot vacant room | false ↦ joined w (eq key) key m slot vacant room ]

      weight_kept : (call : Call K V) → makes_room call ≡ false → (w : K → ℕ → ℕ) → weight w m ≤ weight w (after eq call m)
      weight_kept (Put key value) keeps w =
          wanted_weight w (slot_of (eq key) m) (replaced_at (eq key) value (slot_of (eq key) m) m)
          (inserted (eq key) key value m) (weight-replaced w (eq key) value (slot_of (eq key) m) m) (weight_inserted w key value)
      weight_kept (Get key) keeps w = omega (arith, weight-hit w (eq key) m)
      weight_kept (Peek key) keeps w = omega arith
      weight_kept (Contains key) keeps w = omega arith
      weight_kept (GetAt place key) keeps w =
          elim (is_at place (slot_of (eq key) m)) as (λ b. weight w m ≤ weight w (if b then hit (eq key) m else m)) [ true ↦ omega (arith, weight-hit w (eq key) m) | false ↦ omega arith ]
      weight_kept (Set key value) keeps w = omega (arith, weight-replaced w (eq key) value (slot_of (eq key) m) m)
      weight_kept (With key value) keeps w = wanted_weight w (slot_of (eq key) m) (hit (eq key) m) (inserted (eq key) key value m) (weight-hit w (eq key) m) (weight_inserted w key value)
      weight_kept (Try key (Some value)) keeps w = wanted_weight w (slot_of (eq key) m) (hit (eq key) m) (inserted (eq key) key value m) (weight-hit w (eq key) m) (weight_inserted w key value)
      weight_kept (Try key None) keeps w = omega (arith, weight-hit w (eq key) m)
      weight_kept (SlotFor key fresh) keeps w = wanted_weight w (slot_of (eq key) m) (hit (eq key) m) (reused (eq key) key fresh m) (weight-hit w (eq key) m) (weight_reused w key fresh)
      weight_kept (Remove key) keeps w = cc
      weight_kept (Retain keep) keeps w = cc
      weight_kept Clear keeps w = cc
      weight_kept Evict keeps w = cc
      weight_kept (Prefill values) keeps w = omega arith
      weight_kept Len keeps w = omega arith
      weight_kept IsEmpty keeps w = omega arith
      weight_kept Capacity keeps w = omega arith

    pub room_keeps_all : (call : Call K V) → makes_room call ≡ false → length m.main < main_share m.shares
        → (k : K) (s : ℕ) → slot_of (eq k) m ≡ Some s → slot_of (eq k) (after eq call m) ≡ Some s
    room_keeps_all call keeps room k s found =
        let v = has_vacancy (omega (arith, room, h.small_within)) in
        narrow eq m (after eq call m) (lasting-after eq laws call m h) k (λ t. weight_kept v.0 v.1 room call keeps (λ x at. one_if (eq k x && at == t))) s found

    -- `get_at` hits exactly if the key is at that slot, and otherwise changes nothing.

    pub get_at_hits : (slot : ℕ) (key : K) → IsSome (value_at slot (eq key) m) ↔ (slot_of (eq key) m ≡ Some slot)
    get_at_hits slot key = (by_slot (slot_of (eq key) m), there) where
      by_slot : (o : Option ℕ) → IsSome (if is_at slot o then slice_get m.values slot else None) → o ≡ Some slot
      by_slot None some = cc
      by_slot (Some resident) some =
          (elim (resident == slot) as (λ b. (resident == slot) ≡ b → IsSome (if b then slice_get m.values slot else None) → Some resident ≡ Some slot)
          [ true ↦ λ is _. ap Some (eqb-true resident slot is) | false ↦ λ _ none. cc ]) refl some

      there : slot_of (eq key) m ≡ Some slot → IsSome (value_at slot (eq key) m)
      there found =
          let v = get-within m.values slot (resident_made eq laws (eq key) m h slot found) in
          rw (found, eq-eqb slot slot refl, v.1) refl

    pub get_at_value : (slot : ℕ) (key : K) → slot_of (eq key) m ≡ Some slot → value_at slot (eq key) m ≡ value_of (eq key) m
    get_at_value slot key found = rw (found, eq-eqb slot slot refl) refl

    pub get_at_misses : (slot : ℕ) (key : K) → (slot_of (eq key) m ≡ Some slot → ⊥) → hit_at slot (eq key) m ≡ m
    get_at_misses slot key other = by_slot (slot_of (eq key) m) other where
      by_slot : (o : Option ℕ) → (o ≡ Some slot → ⊥) → (if is_at slot o then hit (eq key) m else m) ≡ m
      by_slot None differ = refl
      by_slot (Some resident) differ =
          (elim (resident == slot) as (λ b. (resident == slot) ≡ b → (if b then hit (eq key) m else m) ≡ m)
          [ true ↦ λ is. absurd (differ (ap Some (eqb-true resident slot is))) | false ↦ λ _. refl ]) refl
