-- What a memo keeps through its calls.
use Rattle.std.proofs.Common.{◌≡◌, ℕ, ◌<◌, arith, Bool, true, false, List, [], ◌∷◌, inl, inr, Option, Some, None, refl, sym, ap, ◌∙◌, subst}
use Rattle.std.specs.Prelude.{slice_get}
use Rattle.std.specs.List.{find}
use Rattle.std.specs.Cmp.{IsEquivalence}
use Rattle.std.specs.Option.{option_map, option_and_then}
use Rattle.clock2q_machine.specs.Shares.{Shares, usual_small, usual_shares}
use Rattle.clock2q_machine.specs.Machine.{Machine, empty, residents, slot_of, value_of, hit, inserted}
use Rattle.clock2q_machine.specs.Steps.{fetched, put}
use Rattle.clock2q_machine.specs.Whole.{IsWhole}
use Rattle.clock2q_machine.proofs.Whole.{some_is, none_is}
use Rattle.clock2q_machine.proofs.MachineInvariant.{lasting-empty, resident_made, lasting-inserted}
use Rattle.clock2q_machine.proofs.Residents.{hit-absent}
use Rattle.clock2q_machine.proofs.Standing.{get-within}
use Rattle.clock2q_machine.proofs.Entering.{weight-hit, same_slots, others_entered}
use Rattle.clock2q_machine.proofs.Laws.{inserted_there}
use Rattle.clock2q_memo.specs.Memo.{HoldsValues, evaluations_for, looked_up}

-- tests that agree find the same element
find_agree : {X : Type 0} (p q : X → Bool) → ((x : X) → p x ≡ q x) → (xs : List X) → find p xs ≡ find q xs
find_agree p q same [] = refl
find_agree p q same (x ∷ xs) = rw (same x, find_agree p q same xs) refl

module _ {K V : Type 0} (eq : K → K → Bool) (laws : IsEquivalence eq) where
  -- equal keys have the same value
  value_agree : (k key : K) → eq k key ≡ true → (m : Machine K V) → value_of (eq k) m ≡ value_of (eq key) m
  value_agree k key e m = ap (λ r. option_and_then (slice_get m.values) (option_map (λ x. x.1) r)) (find_agree (λ r. eq k r.0) (λ r. eq key r.0) (λ r. laws.congr k key r.0 e) (residents m))

  module _ (m : Machine K V) (whole : IsWhole eq m) where
    absent_put : (key : K) → slot_of (eq key) m ≡ None → (v : V) → put (eq key) key v m ≡ inserted (eq key) key v m
    absent_put key absent v = rw absent refl

    module _ (returns : K → V → Type 0) (h : HoldsValues eq returns m) where
      pub kept-hit : (is : K → Bool) → HoldsValues eq returns (hit is m)
      kept-hit is value c key v found = h value c key v (sym (ap (option_and_then (slice_get m.values)) (same_slots eq (hit is m) m whole (λ w. weight-hit w is m) key)) ∙ found)

      pub kept-inserted : (key : K) → slot_of (eq key) m ≡ None → (v : V) → returns key v → HoldsValues eq returns (inserted (eq key) key v m)
      kept-inserted key absent v given value c k w found = (elim (eq k key) as (λ b. eq k key ≡ b → w ≡ value k) [
        | true ↦ λ e. some_is w v (sym found ∙ value_agree k key e (inserted (eq key) key v m) ∙ inserted_there eq laws m whole key absent v) ∙ c.one key v given ∙ sym (c.equal k key e)
        | false ↦ λ other. elim (others_entered eq laws m whole key absent v false (lasting-inserted eq laws key m whole absent v) k other) [
          | inl gone ↦ absurd (none_is w (sym (ap (option_and_then (slice_get (inserted (eq key) key v m).values)) gone) ∙ found))
          | inr same ↦ h value c k w (sym same.1 ∙ found)
        ]
      ]) refl

      pub kept-put : (key : K) → slot_of (eq key) m ≡ None → (v : V) → returns key v → (n : Machine K V) → n ≡ put (eq key) key v m → HoldsValues eq returns n
      kept-put key absent v given n e = subst (HoldsValues eq returns) (sym (e ∙ absent_put key absent v)) (kept-inserted key absent v given)

    pub whole-put : (key : K) → slot_of (eq key) m ≡ None → (v : V) → (n : Machine K V) → n ≡ put (eq key) key v m → IsWhole eq n
    whole-put key absent v n e = subst (IsWhole eq) (sym (e ∙ absent_put key absent v)) (lasting-inserted eq laws key m whole absent v)

    -- a key without a value is not resident
    pub absent_if : (key : K) → None ≡ value_of (eq key) m → slot_of (eq key) m ≡ None
    absent_if key none = by_slot (slot_of (eq key) m) refl where
      by_slot : (o : Option ℕ) → slot_of (eq key) m ≡ o → o ≡ None
      by_slot None absent = refl
      by_slot (Some slot) found =
          let v = get-within m.values slot (resident_made eq laws (eq key) m whole slot found) in
          absurd (none_is v.0 (none ∙ ap (option_and_then (slice_get m.values)) found ∙ v.1))

    pub missed_hit : (key : K) → None ≡ value_of (eq key) m → hit (eq key) m ≡ m
    missed_hit key none = hit-absent (eq key) m (absent_if key none)

    -- what a call leaves if the key was not resident
    pub looked_up_anew : (key : K) → None ≡ value_of (eq key) m → (v : V) → looked_up eq key v m ≡ inserted (eq key) key v m
    looked_up_anew key none v = rw (absent_if key none) refl

    pub fetched_anew : (key : K) → None ≡ value_of (eq key) m → (v : V) → fetched (eq key) key v m ≡ inserted (eq key) key v m
    fetched_anew key none v = rw (absent_if key none) refl

    pub evaluated_once : (key : K) → None ≡ value_of (eq key) m → evaluations_for eq key m ≡ 1
    evaluated_once key none = rw (absent_if key none) refl

    -- a hit changes no value
    pub hit_value : (is : K → Bool) (key : K) → value_of (eq key) (hit is m) ≡ value_of (eq key) m
    hit_value is key = ap (option_and_then (slice_get m.values)) (same_slots eq (hit is m) m whole (λ w. weight-hit w is m) key)

-- nothing is remembered if nothing is resident
pub kept-empty : {K V : Type 0} (eq : K → K → Bool) (returns : K → V → Type 0) (shares : Shares) → HoldsValues {V = V} eq returns (empty shares)
kept-empty eq returns shares value c key v found = cc

-- Small's default share leaves Main a slot
usual_below : (capacity : ℕ) → 0 < capacity → usual_small capacity < capacity
usual_below capacity positive = search arith

pub whole-usual : {K V : Type 0} (eq : K → K → Bool) (laws : IsEquivalence eq) (capacity : ℕ) → 0 < capacity → IsWhole {V = V} eq (empty {K = K} (usual_shares capacity))
whole-usual eq laws capacity positive = lasting-empty eq laws (usual_shares capacity) (usual_below capacity positive)
