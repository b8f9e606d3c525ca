-- What was written is what is read, whatever was evicted: a block that leaves is on the device, and no other changes.
use Rattle.std.proofs.Common.{◌≡◌, ℕ, zero, suc, ◌+◌, ◌<◌, ◌==◌, Bool, true, false, ◌&&◌, eqb, List, [], ◌∷◌, length, inl, inr, Option, Some, None, refl, sym, ap, ◌∙◌, subst, arith, eq-eqb, eqb-true, ne_eqb}
use Rattle.std.specs.Prelude.{slice_get, slice_set, if◌then◌else◌, is_some, IfSome}
use Rattle.std.specs.Cmp.{nat_eq_equiv}
use Rattle.std.specs.List.{list_any}
use Rattle.std.specs.Option.{option_map, option_and_then, unwrap_or}
use Rattle.std.proofs.lemmas.Bool.{cases_Bool, both_ways, eqb-false}
use Rattle.clock2q_machine.specs.Calls.{Call, Put}
use Rattle.clock2q_machine.specs.Leaving.{leaver, leaves_for, one_with, with_value}
use Rattle.clock2q_machine.specs.Machine.{Machine, empty, slot_of, value_of, placement}
use Rattle.clock2q_machine.specs.Shares.{Shares}
use Rattle.clock2q_machine.specs.Steps.{put}
use Rattle.clock2q_machine.specs.Whole.{IsWhole}
use Rattle.clock2q_machine.proofs.Whole.{one_if, some_is, none_is}
use Rattle.clock2q_machine.proofs.Standing.{get-within, found_at, resident_once}
use Rattle.clock2q_machine.proofs.MachineInvariant.{lasting-after, resident_made}
use Rattle.clock2q_machine.proofs.Laws.{put_there, others_had, others_keep}
use Rattle.clock2q_machine.proofs.Victims.{one_leaves, victim_gone, others_stay, counted_residents}
use Rattle.std.proofs.Math.ListN.{length-set}
use Rattle.clock2q_uses.specs.WriteBack.{is_dirty, blocks_from, blocks, other_than, written_if_left, left_by, IsInStep}

-- lists with the same elements are equal
module _ {T : Type 0} where
  pub same_list : (xs ys : List T) → ((k : ℕ) → slice_get xs k ≡ slice_get ys k) → xs ≡ ys
  same_list [] [] same = refl
  same_list [] (y ∷ ys) same = absurd (none_is y (same 0))
  same_list (x ∷ xs) [] same = absurd (none_is x (sym (same 0)))
  same_list (x ∷ xs) (y ∷ ys) same = ap (λ z. z ∷ xs) (some_is x y (same 0)) ∙ ap (λ zs. y ∷ zs) (same_list xs ys (λ k. same (suc k)))

  pub set_there : (xs : List T) (at : ℕ) (x : T) → at < length xs → slice_get (slice_set xs at x) at ≡ Some x
  set_there [] at x within = absurd (omega (arith, within))
  set_there (y ∷ xs) zero x within = refl
  set_there (y ∷ xs) (suc at) x within = set_there xs at x (omega (arith, within))

  differs_elsewhere : (xs : List T) (at k : ℕ) (x : T) → (k ≡ at → ⊥) → slice_get (slice_set xs at x) k ≡ slice_get xs k
  differs_elsewhere [] at k x other = refl
  differs_elsewhere (y ∷ xs) zero zero x other = absurd (other refl)
  differs_elsewhere (y ∷ xs) zero (suc k) x other = refl
  differs_elsewhere (y ∷ xs) (suc at) zero x other = refl
  differs_elsewhere (y ∷ xs) (suc at) (suc k) x other = differs_elsewhere xs at k x (λ e. other (ap suc e))

  pub set_elsewhere : (xs : List T) (at k : ℕ) (x : T) → eqb k at ≡ false → slice_get (slice_set xs at x) k ≡ slice_get xs k
  set_elsewhere xs at k x other = differs_elsewhere xs at k x (eqb-false k at other)

  -- a block, as a reader sees it
  seen : (m : Machine ℕ T) (from : ℕ) (device : List T) (k : ℕ) → slice_get (blocks_from m from device) k ≡ option_map (λ stored. unwrap_or (value_of (eqb (from + k)) m) stored) (slice_get device k)
  seen m from [] k = refl
  seen m from (stored ∷ device) zero = let e : from ≡ from + 0 = omega arith in ap (λ z. Some (unwrap_or (value_of (eqb z) m) stored)) e
  seen m from (stored ∷ device) (suc k) =
      let e : from + 1 + k ≡ from + suc k = omega arith in
      seen m (from + 1) device k ∙ ap (λ z. option_map (λ stored. unwrap_or (value_of (eqb z) m) stored) (slice_get device k)) e

  pub block_seen : (m : Machine ℕ T) (device : List T) (k : ℕ) → slice_get (blocks m device) k ≡ option_map (λ stored. unwrap_or (value_of (eqb k) m) stored) (slice_get device k)
  block_seen m device k = let e : 0 + k ≡ k = omega arith in seen m 0 device k ∙ ap (λ z. option_map (λ stored. unwrap_or (value_of (eqb z) m) stored) (slice_get device k)) e

  -- there are as many blocks as on the device
  pub length-blocks : (m : Machine ℕ T) (from : ℕ) (device : List T) → length (blocks_from m from device) ≡ length device
  length-blocks m from [] = refl
  length-blocks m from (stored ∷ device) = ap suc (length-blocks m (from + 1) device)

  -- a resident block is seen as it is in the cache
  pub resident_seen : (m : Machine ℕ T) (device : List T) (k : ℕ) (block : T) → value_of (eqb k) m ≡ Some block → k < length device → slice_get (blocks m device) k ≡ Some block
  resident_seen m device k block there within =
      let stored = get-within device k within in
      block_seen m device k ∙ ap (λ o. option_map (λ stored. unwrap_or (value_of (eqb k) m) stored) o) stored.1 ∙ ap (λ o. Some (unwrap_or o stored.0)) there

  -- any other block is seen as it is on the device
  pub stored_seen : (m : Machine ℕ T) (device : List T) (k : ℕ) → value_of (eqb k) m ≡ None → slice_get (blocks m device) k ≡ slice_get device k
  stored_seen m device k absent =
      block_seen m device k ∙ ap (λ o. option_map (λ stored. unwrap_or o stored) (slice_get device k)) absent ∙ same (slice_get device k)
    where
      same : (o : Option T) → option_map (λ stored. unwrap_or None stored) o ≡ o
      same None = refl
      same (Some x) = refl

module _ {T : Type 0} (m : Machine ℕ T) (whole : IsWhole eqb m) (number : ℕ) (block : T) where
  abbrev now : Machine ℕ T
  now = put (eqb number) number block m

  abbrev call : Call ℕ T
  call = Put number block

  whole_now : IsWhole eqb now
  whole_now = lasting-after eqb nat_eq_equiv call m whole

  -- a resident's value is that of its slot
  at_slot : (k slot : ℕ) → slot_of (eqb k) m ≡ Some slot → (v : T) × (slice_get m.values slot ≡ Some v) × (value_of (eqb k) m ≡ Some v)
  at_slot k slot found =
      let v = get-within m.values slot (resident_made eqb nat_eq_equiv (eqb k) m whole slot found) in
      (v.0, v.1, ap (option_and_then (slice_get m.values)) found ∙ v.1)

  absent_there : (n : Machine ℕ T) (k : ℕ) → slot_of (eqb k) n ≡ None → value_of (eqb k) n ≡ None
  absent_there n k absent = ap (option_and_then (slice_get n.values)) absent

  -- the block of the resident that leaves
  abbrev left_for : Option (ℕ × ℕ) → Option (ℕ × T)
  left_for o = option_map (λ (v : ℕ × (ℕ × T)). (v.0, v.1.1)) (with_value m o)

  -- the block that leaves was resident, at the slot where it left
  module _ (r : ℕ × ℕ) (out : leaver eqb call m ≡ Some r) where
    gone : slot_of (eqb r.0) now ≡ None
    gone = victim_gone eqb m whole nat_eq_equiv call refl r out

    pub not_put : eqb r.0 number ≡ false
    not_put = elim (cases_Bool (eqb r.0 number)) [
      | inl same ↦ absurd (none_is block (
          sym (absent_there now r.0 gone) ∙ ap (λ k. value_of (eqb k) now) (eqb-true r.0 number same) ∙ put_there eqb nat_eq_equiv m whole number block
          ))
      | inr other ↦ other
    ]

    was : slot_of (eqb r.0) m ≡ Some r.1
    was =
        let is : ℕ → ℕ → Bool = λ k s. eqb r.0 k && s == r.1 in
        found_at (eqb r.0) m (resident_once eqb m whole r.0) r.1
        (omega (
          arith,
          one_leaves eqb m whole call refl is,
          counted_residents is m,
          ap (one_with is) out ∙ ap one_if (ap (λ b. b && r.1 == r.1) (eq-eqb r.0 r.0 refl) ∙ eq-eqb r.1 r.1 refl),
          not_come (is_some (slot_of (eqb number) m)),
        ))
      where
        not_come : (b : Bool) → one_with (λ k s. eqb r.0 k && s == r.1) (if b then None else Some (number, (placement (eqb number) number m).slot)) ≡ 0
        not_come true = refl
        not_come false = ap (λ b. one_if (b && (placement (eqb number) number m).slot == r.1)) not_put

    pub left_is : (v : T) × (left_by number block m ≡ Some (r.0, v)) × (value_of (eqb r.0) m ≡ Some v)
    left_is =
        let v = at_slot r.0 r.1 was in
        (v.0, ap left_for out ∙ ap (λ (o : Option T). option_map (λ (v : ℕ × (ℕ × T)). (v.0, v.1.1)) (option_map (λ v. (r.0, (r.1, v))) o)) v.1, v.2)

  -- no other block leaves, and a block that stays keeps its value
  stays : (k slot : ℕ) → eqb k number ≡ false → slot_of (eqb k) m ≡ Some slot → IfSome (leaver eqb call m) (λ r. eqb k r.0 ≡ false) → value_of (eqb k) now ≡ value_of (eqb k) m
  stays k slot other found kept = elim (others_keep eqb nat_eq_equiv m whole call k other) [
    | inl gone ↦ absurd (none_is slot (sym gone ∙ others_stay eqb m whole nat_eq_equiv call refl k slot found kept))
    | inr same ↦ same.1
  ]

  -- any other block stays, or is the one that left, or neither was nor is resident
  pub data Other (k : ℕ) : Type 0 where
    Stays : value_of (eqb k) now ≡ value_of (eqb k) m → ((r : ℕ × T) → left_by number block m ≡ Some r → eqb k r.0 ≡ false) → Other k
    Leaves : (v : T) → left_by number block m ≡ Some (k, v) → value_of (eqb k) m ≡ Some v → value_of (eqb k) now ≡ None → Other k

  pub other_block : (k : ℕ) → eqb k number ≡ false → Other k
  other_block k other = by_leaver (leaver eqb call m) refl
    where
      absent_still : value_of (eqb k) m ≡ None → value_of (eqb k) now ≡ None
      absent_still none = by_value (value_of (eqb k) now) refl
        where
          by_value : (o : Option T) → value_of (eqb k) now ≡ o → o ≡ None
          by_value None is = refl
          by_value (Some v) is = absurd (none_is v (sym none ∙ others_had eqb nat_eq_equiv m whole call k other v is))

      kept : IfSome (leaver eqb call m) (λ r. eqb k r.0 ≡ false) → value_of (eqb k) now ≡ value_of (eqb k) m
      kept differs = by_slot (slot_of (eqb k) m) refl
        where
          by_slot : (o : Option ℕ) → slot_of (eqb k) m ≡ o → value_of (eqb k) now ≡ value_of (eqb k) m
          by_slot None absent = let none = absent_there m k absent in absent_still none ∙ sym none
          by_slot (Some slot) found = stays k slot other found differs

      by_leaver : (o : Option (ℕ × ℕ)) → leaver eqb call m ≡ o → Other k
      by_leaver None none = Stays (kept (subst (λ o. IfSome o (λ r. eqb k r.0 ≡ false)) (sym none) tt))
          (λ r is. absurd (none_is r (sym (ap left_for none) ∙ is)))
      by_leaver (Some r) out = elim (cases_Bool (eqb k r.0)) [
        | inl same ↦
            let e = eqb-true k r.0 same in
            let v = left_is r out in
            Leaves v.0 (v.1 ∙ ap (λ z. Some (z, v.0)) (sym e)) (ap (λ z. value_of (eqb z) m) e ∙ v.2) (ap (λ z. value_of (eqb z) now) e ∙ absent_there now r.0 (gone r out))
        | inr differs ↦ Stays (kept (subst (λ o. IfSome o (λ r. eqb k r.0 ≡ false)) (sym out) differs))
            (λ x is. let v = left_is r out in subst (λ z. eqb k z ≡ false) (ap (λ (b : ℕ × T). b.0) (some_is (r.0, v.0) x (sym v.1 ∙ is))) differs)
      ]

  -- the block that is put isn't the one that leaves
  pub put_stays : (r : ℕ × T) → left_by number block m ≡ Some r → eqb number r.0 ≡ false
  put_stays x is = by_leaver (leaver eqb call m) refl
    where
      by_leaver : (o : Option (ℕ × ℕ)) → leaver eqb call m ≡ o → eqb number x.0 ≡ false
      by_leaver None none = absurd (none_is x (sym (ap left_for none) ∙ is))
      by_leaver (Some r) out =
          let v = left_is r out in
          let e = ap (λ (b : ℕ × T). b.0) (some_is (r.0, v.0) x (sym v.1 ∙ is)) in
          ne_eqb number x.0 (λ same. both_ways (eqb r.0 number) (not_put r out) (eq-eqb r.0 number (e ∙ sym same)))

  -- what the put hands over of another number is the block that leaves
  module _ (handed : Option (ℕ × T)) (replaced : IfSome (value_of (eqb number) m) (λ before. handed ≡ Some (number, before)))
      (evicted : slot_of (eqb number) m ≡ None → handed ≡ left_by number block m) where
    pub handed_left : other_than number handed ≡ left_by number block m
    handed_left = by_slot (slot_of (eqb number) m) refl
      where
        others : (o : Option (ℕ × T)) → left_by number block m ≡ o → other_than number o ≡ o
        others None none = refl
        others (Some r) is = ap (λ (b : Bool). if b then None else Some r) (put_stays r is)

        by_slot : (o : Option ℕ) → slot_of (eqb number) m ≡ o → other_than number handed ≡ left_by number block m
        by_slot None absent = ap (other_than number) (evicted absent) ∙ others (left_by number block m) refl
        by_slot (Some slot) found =
            let v = at_slot number slot found in
            ap (other_than number) (subst (λ o. IfSome o (λ before. handed ≡ Some (number, before))) v.2 replaced)
            ∙ ap (λ (b : Bool). if b then None else Some (number, v.0)) (eq-eqb number number refl)
            ∙ sym (ap (λ (o : Option ℕ). left_for (if is_some o then None else leaves_for (list_any (eqb number) m.history) m)) found)

    -- and a block of the device
    pub handed_within : {dirty : List Bool} {device : List T} → IsInStep m dirty device → number < length device → IfSome handed (λ r. r.0 < length device)
    handed_within {dirty} {device} step within = by_slot (slot_of (eqb number) m) refl
      where
        left_within : (r : ℕ × T) → left_by number block m ≡ Some r → r.0 < length device
        left_within x is = by_leaver (leaver eqb call m) refl
          where
            by_leaver : (o : Option (ℕ × ℕ)) → leaver eqb call m ≡ o → x.0 < length device
            by_leaver None none = absurd (none_is x (sym (ap left_for none) ∙ is))
            by_leaver (Some r) out =
                let v = left_is r out in
                let e : r.0 ≡ x.0 = ap (λ (b : ℕ × T). b.0) (some_is (r.0, v.0) x (sym v.1 ∙ is)) in
                omega (arith, e, step.within r.0 v.0 v.2)

        by_left : (o : Option (ℕ × T)) → left_by number block m ≡ o → IfSome o (λ r. r.0 < length device)
        by_left None none = tt
        by_left (Some r) is = left_within r is

        by_slot : (o : Option ℕ) → slot_of (eqb number) m ≡ o → IfSome handed (λ r. r.0 < length device)
        by_slot None absent = subst (λ o. IfSome o (λ r. r.0 < length device)) (sym (evicted absent)) (by_left (left_by number block m) refl)
        by_slot (Some slot) found =
            let v = at_slot number slot found in
            subst (λ o. IfSome o (λ r. r.0 < length device)) (sym (subst (λ o. IfSome o (λ before. handed ≡ Some (number, before))) v.2 replaced)) within

  module _ (dirty : List Bool) (device : List T) (step : IsInStep m dirty device) (within : number < length device) where
    abbrev written : List T
    written = written_if_left dirty (left_by number block m) device

    -- a write to the device changes neither its length nor the blocks of other numbers
    length-back : (b : Bool) (r : ℕ × T) → length (if b then slice_set device r.0 r.1 else device) ≡ length device
    length-back true r = length-set device r.0 r.1
    length-back false r = refl

    pub length-written : length written ≡ length device
    length-written = by_left (left_by number block m)
      where
        by_left : (o : Option (ℕ × T)) → length (written_if_left dirty o device) ≡ length device
        by_left None = refl
        by_left (Some r) = length-back (is_dirty dirty r.0) r

    elsewhere : (b : Bool) (r : ℕ × T) (k : ℕ) → eqb k r.0 ≡ false → slice_get (if b then slice_set device r.0 r.1 else device) k ≡ slice_get device k
    elsewhere true r k other = set_elsewhere device r.0 k r.1 other
    elsewhere false r k other = refl

    same_there : (k : ℕ) → ((r : ℕ × T) → left_by number block m ≡ Some r → eqb k r.0 ≡ false) → slice_get written k ≡ slice_get device k
    same_there k not_left = by_left (left_by number block m) refl
      where
        by_left : (o : Option (ℕ × T)) → left_by number block m ≡ o → slice_get (written_if_left dirty o device) k ≡ slice_get device k
        by_left None is = refl
        by_left (Some r) is = elsewhere (is_dirty dirty r.0) r k (not_left r is)

    -- the block that left is on the device
    on_device : (k : ℕ) (v : T) → left_by number block m ≡ Some (k, v) → value_of (eqb k) m ≡ Some v → slice_get written k ≡ Some v
    on_device k v is had = ap (λ o. slice_get (written_if_left dirty o device) k) is ∙ by_dirty (is_dirty dirty k) refl
      where
        by_dirty : (b : Bool) → is_dirty dirty k ≡ b → slice_get (if b then slice_set device k v else device) k ≡ Some v
        by_dirty true d = set_there device k v (step.within k v had)
        by_dirty false d = step.clean k v had d

    -- what is read afterwards is the block that was put, or what was read before
    pub blocks_put : blocks now written ≡ slice_set (blocks m device) number block
    blocks_put = same_list (blocks now written) (slice_set (blocks m device) number block) each
      where
        each : (k : ℕ) → slice_get (blocks now written) k ≡ slice_get (slice_set (blocks m device) number block) k
        each k = elim (cases_Bool (eqb k number)) [
          | inl same ↦
              let e = eqb-true k number same in
              ap (λ z. slice_get (blocks now written) z) e
              ∙ resident_seen now written number block (put_there eqb nat_eq_equiv m whole number block) (omega (arith, within, length-written))
              ∙ sym (set_there (blocks m device) number block (omega (arith, within, length-blocks m 0 device)))
              ∙ ap (λ z. slice_get (slice_set (blocks m device) number block) z) (sym e)
          | inr other ↦ by_other other (other_block k other) ∙ sym (set_elsewhere (blocks m device) number k block other)
        ]
          where
            by_other : eqb k number ≡ false → Other k → slice_get (blocks now written) k ≡ slice_get (blocks m device) k
            by_other other (Stays same not_left) =
                block_seen now written k ∙ ap (λ o. option_map (λ stored. unwrap_or o stored) (slice_get written k)) same
                ∙ ap (λ o. option_map (λ stored. unwrap_or (value_of (eqb k) m) stored) o) (same_there k not_left) ∙ sym (block_seen m device k)
            by_other other (Leaves v is had gone) =
                stored_seen now written k gone ∙ on_device k v is had ∙ sym (resident_seen m device k v had (step.within k v had))

    -- and the cache stays in step with the device: a block may be marked clean if it was clean, or left, or was put as
    -- the device has it
    pub in_step_put : (dirty' : List Bool) → (is_dirty dirty' number ≡ false → slice_get device number ≡ Some block)
        → ((k : ℕ) → eqb k number ≡ false → ((r : ℕ × T) → left_by number block m ≡ Some r → eqb k r.0 ≡ false) → is_dirty dirty' k ≡ false → is_dirty dirty k ≡ false)
        → IsInStep now dirty' written
    in_step_put dirty' here there = record {
      within = λ k v found. elim (cases_Bool (eqb k number)) [
        | inl same ↦ omega (arith, within, eqb-true k number same, length-written)
        | inr other ↦ elim (other_block k other) [
          | Stays same not_left ↦ omega (arith, step.within k v (sym same ∙ found), length-written)
          | Leaves w is had gone ↦ absurd (none_is v (sym gone ∙ found))
        ]
      ];
      clean = λ k v found clear. elim (cases_Bool (eqb k number)) [
        | inl same ↦
            let e = eqb-true k number same in
            let is = some_is block v (sym (put_there eqb nat_eq_equiv m whole number block) ∙ ap (λ z. value_of (eqb z) now) (sym e) ∙ found) in
            ap (λ z. slice_get written z) e ∙ same_there number put_stays ∙ here (ap (λ z. is_dirty dirty' z) (sym e) ∙ clear) ∙ ap Some is
        | inr other ↦ elim (other_block k other) [
          | Stays same not_left ↦ same_there k not_left ∙ step.clean k v (sym same ∙ found) (there k other not_left clear)
          | Leaves w is had gone ↦ absurd (none_is v (sym gone ∙ found))
        ]
      ];
    }

-- a cache without residents is in step with every device
pub in_step_empty : {T : Type 0} (shares : Shares) (dirty : List Bool) (device : List T) → IsInStep (empty shares) dirty device
in_step_empty shares dirty device = record { within = λ k v had. cc; clean = λ k v had clean. cc }
