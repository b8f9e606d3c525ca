-- What a call does to residents other than its own key: the slot and value of each.
use Rattle.std.proofs.Common.{◌≡◌, ℕ, ◌+◌, ◌<◌, ◌≤◌, ◌==◌, ◌⊎◌, Bool, true, false, not, ◌&&◌, List, [], ◌∷◌, length, inl, inr, Option, Some, None, refl, sym, ap, ◌∙◌, arith, eq-eqb, ne_eqb}
use Rattle.std.specs.Prelude.{if◌then◌else◌, nat_lt, slice_get}
use Rattle.std.specs.Cmp.{IsEquivalence}
use Rattle.std.specs.List.{list_any, last_or}
use Rattle.std.specs.Option.{option_and_then}
use Rattle.clock2q_machine.specs.Shares.{main_share}
use Rattle.clock2q_machine.specs.Entries.{SmallEntry, MainEntry, from_victim}
use Rattle.clock2q_machine.specs.Machine.{Machine, hit, forgotten, stored, placement, goes_to_main, into_main, into_small, into_small_at, replacing_victim, joining_main, slot_of, value_of, vacancy, vacated, vacated_all, removed_at}
use Rattle.clock2q_machine.specs.Steps.{replaced_at}
use Rattle.clock2q_machine.specs.Whole.{IsWhole}
use Rattle.clock2q_machine.proofs.Weights.{sum_by-filter-le, weight-small_hit, weight-main_hit, weight-admitted, weight-behind}
use Rattle.clock2q_machine.proofs.Whole.{one_if, weight}
use Rattle.clock2q_machine.proofs.MachineInvariant.{placed-key, resident_made}
use Rattle.clock2q_machine.proofs.Standing.{count_at, count_at-le, weights-both-le, none_counted, found_counted, found_at, absent_if, resident_once, counted_as, stored_elsewhere}

module _ {K V : Type 0} where
  -- the residents of a machine and their slots: as before, or fewer
  pub weight-hit : (w : K → ℕ → ℕ) (is : K → Bool) (m : Machine K V) → weight w (hit is m) ≡ weight w m
  weight-hit w is m = omega (arith, weight-small_hit (λ e. w e.key e.slot) (λ e age. refl) is m.small, weight-main_hit (λ e. w e.key e.slot) (λ e bit. refl) is m.main)

  pub weight-replaced : (w : K → ℕ → ℕ) (is : K → Bool) (value : V) (o : Option ℕ) (m : Machine K V) → weight w (replaced_at is value o m) ≡ weight w m
  weight-replaced w is value None m = refl
  weight-replaced w is value (Some slot) m = weight-hit w is m

  pub weight-vacated : (w : K → ℕ → ℕ) (slots : List ℕ) (m : Machine K V) → weight w (vacated_all slots m) ≤ weight w m
  weight-vacated w [] m = omega arith
  weight-vacated w (slot ∷ slots) m =
      omega (
        arith,
        weight-vacated w slots (vacated slot m),
        sum_by-filter-le (λ e. w e.key e.slot) (λ (e : SmallEntry K). not (e.slot == slot)) m.small,
        sum_by-filter-le (λ e. w e.key e.slot) (λ (e : MainEntry K). not (e.slot == slot)) m.main,
      )

  pub weight-removed : (w : K → ℕ → ℕ) (is : K → Bool) (o : Option ℕ) (m : Machine K V) → weight w (removed_at is o m) ≤ weight w m
  weight-removed w is None m = omega arith
  weight-removed w is (Some slot) m = weight-vacated w (slot ∷ []) m

  -- removing residents changes no values
  pub values-vacated : (slots : List ℕ) (m : Machine K V) → (vacated_all slots m).values ≡ m.values
  values-vacated [] m = refl
  values-vacated (slot ∷ slots) m = values-vacated slots (vacated slot m)

  pub values-removed : (is : K → Bool) (o : Option ℕ) (m : Machine K V) → (removed_at is o m).values ≡ m.values
  values-removed is None m = refl
  values-removed is (Some slot) m = refl

  -- if there is room, no resident leaves for a key
  joined_main : (w : K → ℕ → ℕ) (key : K) (m : Machine K V) (full : Bool) (v : Option ℕ) (slot : ℕ) → full ≡ false → v ≡ Some slot
      → weight w m ≤ weight w (if full then replacing_victim key (from_victim m.main) m else joining_main key v m).machine
  joined_main w key m true v slot room is = cc
  joined_main w key m false None slot room is = cc
  joined_main w key m false (Some s) slot room is = omega (arith, weight-behind (λ e. w e.key e.slot) (λ e bit. refl) key s m.main)

  joined_small : (w : K → ℕ → ℕ) (key : K) (m : Machine K V) (v : Option ℕ) (t : Option (SmallEntry K)) (slot : ℕ) → v ≡ Some slot → weight w m ≤ weight w (into_small_at key v t m).machine
  joined_small w key m None t slot is = cc
  joined_small w key m (Some s) t slot is = omega (arith, weight-admitted (λ e. w e.key e.slot) (λ e age. refl) m.shares.window key s m.small)

  pub joined : (w : K → ℕ → ℕ) (is : K → Bool) (key : K) (m : Machine K V) (slot : ℕ) → vacancy m ≡ Some slot → length m.main < main_share m.shares → weight w m ≤ weight w (placement is key m).machine
  joined w is key m slot vacant room =
      let not_full : (length m.main == main_share m.shares) ≡ false = ne_eqb (length m.main) (main_share m.shares) (λ e. omega (arith, e, room)) in
      elim (goes_to_main (list_any is m.history) m) as (λ b. weight w m ≤ weight w (if b then into_main key (forgotten is m) else into_small key (forgotten is m)).machine) [
        | true ↦ joined_main w key (forgotten is m) (length m.main == main_share m.shares) (vacancy m) slot not_full vacant
        | false ↦ joined_small w key (forgotten is m) (vacancy m) (last_or None m.small) slot vacant
      ]

module _ {K : Type 0} (eq : K → K → Bool) (laws : IsEquivalence eq) where
  -- two keys are not at one slot
  one_key : (k key : K) (slot : ℕ) → eq k key ≡ false → (x : K) (s : ℕ) → one_if (eq k x && s == slot) + one_if (eq key x && s == slot) ≤ one_if (s == slot)
  one_key k key slot other x s =
      (elim (eq k x) as (λ a. eq k x ≡ a → (b : Bool) → eq key x ≡ b → one_if (a && s == slot) + one_if (b && s == slot) ≤ one_if (s == slot)) [
        | true ↦ λ yes. λ b. elim b as (λ b. eq key x ≡ b → one_if (s == slot) + one_if (b && s == slot) ≤ one_if (s == slot)) [
          | true ↦ λ too. let clash : eq k key ≡ true = laws.congr k x key yes ∙ laws.symm x key ∙ too in absurd (both clash)
          | false ↦ λ _. omega arith
        ]
        | false ↦ λ _. λ b. elim b as (λ b. eq key x ≡ b → 0 + one_if (b && s == slot) ≤ one_if (s == slot)) [ true ↦ λ _. omega arith | false ↦ λ _. omega arith ]
      ]) refl (eq key x) refl where
        both : eq k key ≡ true → ⊥
        both clash = cc

module _ {K V : Type 0} (eq : K → K → Bool) where
  -- a resident of one machine is one of the other, at the same slot
  pub narrow : (n m : Machine K V) → IsWhole eq m → (k : K) → ((t : ℕ) → count_at (eq k) t n ≤ count_at (eq k) t m) → (t : ℕ) → slot_of (eq k) n ≡ Some t → slot_of (eq k) m ≡ Some t
  narrow n m h k less t found = found_at (eq k) m (resident_once eq m h k) t (omega (arith, found_counted (eq k) n t found, less t))

  pub same_slots : (n m : Machine K V) → IsWhole eq m → ((w : K → ℕ → ℕ) → weight w n ≡ weight w m) → (k : K) → slot_of (eq k) n ≡ slot_of (eq k) m
  same_slots n m h same k = by_slot (slot_of (eq k) n) refl where
    by_slot : (o : Option ℕ) → slot_of (eq k) n ≡ o → o ≡ slot_of (eq k) m
    by_slot None absent = sym (absent_if (eq k) m (omega (arith, none_counted (eq k) n absent, same (λ x s. one_if (eq k x)))))
    by_slot (Some t) found = sym (narrow n m h k (λ s. omega (arith, same (λ x at. one_if (eq k x && at == s)))) t found)

  -- a key is gone, or it has the slot and the value that it had
  abbrev pub StaysOrGoes : K → Machine K V → Machine K V → Type 0
  StaysOrGoes k m n = (slot_of (eq k) n ≡ None) ⊎ ((slot_of (eq k) n ≡ slot_of (eq k) m) × (value_of (eq k) n ≡ value_of (eq k) m))

  pub stays_or_goes : (k : K) (m n : Machine K V) → ((t : ℕ) → slot_of (eq k) n ≡ Some t → slot_of (eq k) m ≡ Some t)
      → ((t : ℕ) → slot_of (eq k) n ≡ Some t → slot_of (eq k) m ≡ Some t → slice_get n.values t ≡ slice_get m.values t) → StaysOrGoes k m n
  stays_or_goes k m n narrowed kept = by_slot (slot_of (eq k) n) refl where
    by_slot : (o : Option ℕ) → slot_of (eq k) n ≡ o → StaysOrGoes k m n
    by_slot None gone = inl gone
    by_slot (Some t) found =
        let was = narrowed t found in
        inr (found ∙ sym was, ap (option_and_then (slice_get n.values)) found ∙ kept t found was ∙ sym (ap (option_and_then (slice_get m.values)) was))

  module _ (laws : IsEquivalence eq) where
    -- nor are two keys found at one slot
    pub slots_apart : (m : Machine K V) → IsWhole eq m → (k key : K) → eq k key ≡ false → (s t : ℕ) → slot_of (eq key) m ≡ Some s → slot_of (eq k) m ≡ Some t → t ≡ s → ⊥
    slots_apart m h k key other s t found also same =
        let there = found_counted (eq key) m s found in
        let too : 0 < count_at (eq k) s m = found_counted (eq k) m s (also ∙ ap Some same) in
        let one : (if nat_lt s (length m.values) then 1 else 0) ≤ 1 = at_most (nat_lt s (length m.values)) in
        omega (arith, there, too, one, h.slots_once s, weights-both-le _ _ _ (one_key eq laws k key s other) m) where
          at_most : (b : Bool) → (if b then 1 else 0) ≤ 1
          at_most true = omega arith
          at_most false = omega arith

    -- a resident key differs from every key that isn't resident
    pub differs : (m : Machine K V) (k key : K) (s : ℕ) → slot_of (eq key) m ≡ None → slot_of (eq k) m ≡ Some s → eq k key ≡ false
    differs m k key s absent found =
        (elim (eq k key) as (λ b. eq k key ≡ b → b ≡ false) [
          | true ↦ λ e. absurd (omega (arith, counted_as eq m laws key k e, none_counted (eq key) m absent, found_counted (eq k) m s found, count_at-le (eq k) s m))
          | false ↦ λ _. refl
        ]) refl

    -- a key that is inserted, with its value or with that of its slot
    module _ (m : Machine K V) (h : IsWhole eq m) (key : K) (absent : slot_of (eq key) m ≡ None) (value : V) (b : Bool) where
      abbrev pub at : ℕ
      at = (placement (eq key) key m).slot

      abbrev pub entered : Machine K V
      entered = if b then (placement (eq key) key m).machine else stored at value (placement (eq key) key m).machine

      pub weight-entered : (w : K → ℕ → ℕ) → weight w entered ≡ weight w (placement (eq key) key m).machine
      weight-entered w =
          elim b as (λ c. weight w (if c then (placement (eq key) key m).machine else stored at value (placement (eq key) key m).machine)
          ≡ weight w (placement (eq key) key m).machine) [ true ↦ refl | false ↦ refl ]

      pub value_elsewhere : (t : ℕ) → (t ≡ at → ⊥) → t < length m.values → slice_get entered.values t ≡ slice_get m.values t
      value_elsewhere t differ made =
          let p = placement (eq key) key m in
          let values : p.machine.values ≡ m.values = (placed-key eq laws key m h absent).values in
          let within : t < length p.machine.values = rw values made in
          elim b as (λ c. slice_get (if c then p.machine else stored at value p.machine).values t ≡ slice_get m.values t)
          [ true ↦ ap (λ vs. slice_get vs t) values | false ↦ stored_elsewhere p.machine at value t differ within ∙ ap (λ vs. slice_get vs t) values ]

      module _ (whole : IsWhole eq entered) where
        -- it is resident at its slot
        pub entered_there : slot_of (eq key) entered ≡ Some at
        entered_there =
            let comes = (placed-key eq laws key m h absent).comes.1 (λ k s. one_if (eq key k && s == at)) in
            let own : one_if (eq key key && at == at) ≡ 1 = ap (λ c. one_if (c && at == at)) (laws.refl key) ∙ ap one_if (eq-eqb at at refl) in
            found_at (eq key) entered (resident_once eq entered whole key) at
            (omega (arith, comes.0, comes.1, own, none_counted (eq key) m absent, count_at-le (eq key) at m, weight-entered (λ k s. one_if (eq key k && s == at))))

        -- and every other resident was one before, at the same slot
        pub entered_narrow : (k : K) → eq k key ≡ false → (t : ℕ) → slot_of (eq k) entered ≡ Some t → slot_of (eq k) m ≡ Some t
        entered_narrow k other = narrow entered m h k (λ t.
            let comes = (placed-key eq laws key m h absent).comes.1 (λ x s. one_if (eq k x && s == t)) in
            omega (arith, comes.1, ap (λ c. one_if (c && at == t)) other, weight-entered (λ x s. one_if (eq k x && s == t))))

        pub others_entered : (k : K) → eq k key ≡ false → StaysOrGoes k m entered
        others_entered k other = stays_or_goes k m entered (entered_narrow k other)
            (λ t found was. value_elsewhere t (slots_apart entered whole k key other at t entered_there found) (resident_made eq laws (eq k) m h t was))
