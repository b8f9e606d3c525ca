-- The victim of a call was a resident: `victim_of` names its slot and its value, and names none only if none leaves.
use Rattle.std.proofs.Common.{◌≡◌, ℕ, ◌<◌, ◌==◌, Bool, true, false, ◌&&◌, List, [], ◌∷◌, length, Option, Some, None, refl, sym, ap, ◌∙◌, subst, arith, eq-eqb}
use Rattle.std.specs.Prelude.{IfSome, if◌then◌else◌, is_some, slice_get}
use Rattle.std.specs.Cmp.{IsEquivalence}
use Rattle.std.specs.List.{sum_by, list_any, last_or}
use Rattle.std.specs.Option.{option_map, option_and_then}
use Rattle.std.proofs.lemmas.List.Sums.{sum_by-cons}
use Rattle.clock2q_machine.specs.Shares.{main_share}
use Rattle.clock2q_machine.specs.Ages.{is_promoted}
use Rattle.clock2q_machine.specs.Entries.{SmallEntry, MainEntry, first_of, from_victim}
use Rattle.clock2q_machine.specs.Calls.{Call, Put, Get, Peek, Contains, GetAt, Set, With, Try, SlotFor, Remove, Retain, Clear, Evict, Prefill, Len, IsEmpty, Capacity}
use Rattle.clock2q_machine.specs.Machine.{Machine, goes_to_main, slot_of, value_of, vacancy, victim_leaves, leaves_now}
use Rattle.clock2q_machine.specs.Whole.{IsWhole}
use Rattle.clock2q_machine.specs.Leaving.{leaves_for_small, leaves_for_main, leaves_for, leaves_wanted, with_value, leaver, victim_of}
use Rattle.clock2q_machine.proofs.Weights.{weight-from_victim, weight-last}
use Rattle.clock2q_machine.proofs.Whole.{one_if, none_is, tail_some}
use Rattle.clock2q_machine.proofs.Standing.{count_at, found_at, get-within, resident_once}
use Rattle.clock2q_machine.proofs.MachineInvariant.{resident_made}

module _ {K V : Type 0} (eq : K → K → Bool) (laws : IsEquivalence eq) (m : Machine K V) where
  -- one that leaves is counted among the residents, at its slot
  abbrev IsCounted : Option (K × ℕ) → Type 0
  IsCounted o = IfSome o (λ r. 0 < count_at (eq r.0) r.1 m)

  at_itself : (r : K × ℕ) → one_if (eq r.0 r.0 && r.1 == r.1) ≡ 1
  at_itself r = ap one_if (ap (λ b. b && r.1 == r.1) (laws.refl r.0) ∙ eq-eqb r.1 r.1 refl)

  counted_first : (es : List (MainEntry K)) → from_victim m.main ≡ es → IsCounted (first_of es)
  counted_first [] choice = tt
  counted_first (victim ∷ others) choice =
      let g : MainEntry K → ℕ = λ e. one_if (eq victim.key e.key && e.slot == victim.slot) in
      omega (arith, weight-from_victim g (λ e bit. refl) m.main, ap (sum_by g) choice, sum_by-cons g victim others, at_itself (victim.key, victim.slot))

  counted_tail : (t : Option (SmallEntry K)) → last_or None m.small ≡ t → IsCounted (option_map (λ tail. (tail.key, tail.slot)) t)
  counted_tail None last = tt
  counted_tail (Some tail) last =
      let g : SmallEntry K → ℕ = λ e. one_if (eq tail.key e.key && e.slot == tail.slot) in
      omega (arith, (weight-last g None m.small tail (tail_some m.small tail last) last).0, at_itself (tail.key, tail.slot))

  counted_either : (b : Bool) (o p : Option (K × ℕ)) → IsCounted o → IsCounted p → IsCounted (if b then o else p)
  counted_either true o p first second = first
  counted_either false o p first second = second

  counted_for_small : (v : Option ℕ) (t : Option (SmallEntry K)) → last_or None m.small ≡ t → IsCounted (leaves_for_small v t m.main)
  counted_for_small (Some slot) t last = tt
  counted_for_small None None last = tt
  counted_for_small None (Some tail) last =
      counted_either (is_promoted tail.age) (first_of (from_victim m.main)) (Some (tail.key, tail.slot)) (counted_first (from_victim m.main) refl) (counted_tail (Some tail) last)

  counted_for : (remembered : Bool) → IsCounted (leaves_for remembered m)
  counted_for remembered =
      counted_either (goes_to_main remembered m) (leaves_for_main m) (leaves_for_small (vacancy m) (last_or None m.small) m.main)
      (counted_either (length m.main == main_share m.shares) (first_of (from_victim m.main)) None (counted_first (from_victim m.main) refl) tt)
      (counted_for_small (vacancy m) (last_or None m.small) refl)

  counted_wanted : (is : K → Bool) → IsCounted (leaves_wanted is m)
  counted_wanted is = counted_either (is_some (slot_of is m)) None (leaves_for (list_any is m.history) m) tt (counted_for (list_any is m.history))

  counted_now : IsCounted (leaves_now m)
  counted_now =
      counted_either (victim_leaves m) (first_of (from_victim m.main)) (option_map (λ tail. (tail.key, tail.slot)) (last_or None m.small))
      (counted_first (from_victim m.main) refl) (counted_tail (last_or None m.small) refl)

  counted : (call : Call K V) → IsCounted (leaver eq call m)
  counted (Put key value) = counted_wanted (eq key)
  counted (Get key) = tt
  counted (Peek key) = tt
  counted (Contains key) = tt
  counted (GetAt slot key) = tt
  counted (Set key value) = tt
  counted (With key value) = counted_wanted (eq key)
  counted (Try key (Some value)) = counted_wanted (eq key)
  counted (Try key None) = tt
  counted (SlotFor key fresh) = counted_wanted (eq key)
  counted (Remove key) = tt
  counted (Retain bits) = tt
  counted Clear = tt
  counted Evict = counted_now
  counted (Prefill values) = tt
  counted Len = tt
  counted IsEmpty = tt
  counted Capacity = tt

  module _ (h : IsWhole eq m) (call : Call K V) where
    -- the one that leaves was resident, at that slot
    pub victim_was : (r : K × ℕ) → leaver eq call m ≡ Some r → slot_of (eq r.0) m ≡ Some r.1
    victim_was r out = found_at (eq r.0) m (resident_once eq m h r.0) r.1 (subst IsCounted out (counted call))

    -- and `victim_of` names it with the value that it had
    pub victim_value : (r : K × ℕ) → leaver eq call m ≡ Some r → (v : V) × ((victim_of eq call m ≡ Some (r.0, (r.1, v))) × (value_of (eq r.0) m ≡ Some v))
    victim_value r out =
        let v = get-within m.values r.1 (resident_made eq laws (eq r.0) m h r.1 (victim_was r out)) in (
          v.0,
          (
            ap (with_value m) out ∙ ap (λ (o : Option V). option_map (λ v. (r.0, (r.1, v))) o) v.1,
            ap (option_and_then (slice_get m.values)) (victim_was r out) ∙ v.1,
          ),
        )

    -- so it names none only if none leaves
    pub no_victim : victim_of eq call m ≡ None → leaver eq call m ≡ None
    no_victim none = by_leaver (leaver eq call m) refl where
      by_leaver : (o : Option (K × ℕ)) → leaver eq call m ≡ o → o ≡ None
      by_leaver None out = refl
      by_leaver (Some r) out = absurd (none_is (r.0, (r.1, (victim_value r out).0)) (sym none ∙ (victim_value r out).1.0))
