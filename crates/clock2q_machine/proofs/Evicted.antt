-- What an eviction does, though no key comes: the resident that leaves, the slot that is free, and the invariant.
use Rattle.std.proofs.Common.{◌≡◌, ℕ, suc, ◌+◌, ◌<◌, ◌==◌, Bool, true, false, ◌||◌, ◌&&◌, List, [], ◌∷◌, length, take, Option, Some, None, refl, sym, ap, ◌∙◌, arith, eqb-true}
use Rattle.std.specs.Prelude.{if◌then◌else◌, nat_lt, nat_le, is_some}
use Rattle.std.specs.List.{sum_by, last_or}
use Rattle.std.specs.Option.{option_map}
use Rattle.std.proofs.lemmas.Bool.{lt-ltb, eqb-false, both_ways}
use Rattle.std.proofs.lemmas.List.{length-take}
use Rattle.std.proofs.lemmas.List.Sums.{sum_by-cons, sum_by-take-le}
use Rattle.clock2q_machine.specs.Shares.{main_share}
use Rattle.clock2q_machine.specs.Entries.{SmallEntry, MainEntry, first_of, from_victim, with_bit}
use Rattle.clock2q_machine.specs.Machine.{Machine, resident_count, vacancy, victim_leaves, keeps_tail, leaves_now, tail_evicted, victim_evicted, evicted}
use Rattle.clock2q_machine.specs.Whole.{IsWhole}
use Rattle.clock2q_machine.specs.Leaving.{leaves_for_main, leaves_for_small, next_victim}
use Rattle.clock2q_machine.proofs.Weights.{weight-from_victim, weight-behind, weight-last, length-from_victim}
use Rattle.clock2q_machine.proofs.Whole.{one_if, some_is, none_is, weight, all_resident, empty_small, tail_some, behind_length, behind_weight}

-- the weight of a resident by its key and its slot, if there is one
abbrev pub resident_weight : {K : Type 0} → (K → ℕ → ℕ) → Option (K × ℕ) → ℕ
resident_weight w None = 0
resident_weight w (Some r) = w r.0 r.1

module _ {K V : Type 0} (m : Machine K V) where
  -- without its victim Main weighs less by that
  without_victim : (g : MainEntry K → ℕ) → ((e : MainEntry K) (bit : Bool) → g (with_bit e bit) ≡ g e) → (victim : MainEntry K) (others : List (MainEntry K))
      → from_victim m.main ≡ victim ∷ others → sum_by g others + g victim ≡ sum_by g m.main
  without_victim g bitless victim others choice = omega (arith, sum_by-cons g victim others, ap (sum_by g) choice, weight-from_victim g bitless m.main)

  without_length : (victim : MainEntry K) (others : List (MainEntry K)) → from_victim m.main ≡ victim ∷ others → suc (length others) ≡ length m.main
  without_length victim others choice = omega (arith, ap (length {A = MainEntry K}) choice, length-from_victim m.main)

  module _ (w : K → ℕ → ℕ) where
    weight-tail : (t : Option (SmallEntry K)) → last_or None m.small ≡ t → weight w (tail_evicted t m) + resident_weight w (option_map (λ tail. (tail.key, tail.slot)) t) ≡ weight w m
    weight-tail None last = omega arith
    weight-tail (Some tail) last = omega (arith, (weight-last (λ e. w e.key e.slot) None m.small tail (tail_some m.small tail last) last).0)

    weight-victim : (t : Option (SmallEntry K)) → last_or None m.small ≡ t → (es : List (MainEntry K)) → from_victim m.main ≡ es →
        weight w (victim_evicted t es m) + resident_weight w (first_of es) ≡ weight w m
    weight-victim None last [] choice = omega arith
    weight-victim (Some tail) last [] choice = omega arith
    weight-victim None last (victim ∷ others) choice = omega (arith, without_victim (λ e. w e.key e.slot) (λ e bit. refl) victim others choice)
    weight-victim (Some tail) last (victim ∷ others) choice =
        omega (
          arith,
          (weight-last (λ e. w e.key e.slot) None m.small tail (tail_some m.small tail last) last).0,
          weight-behind (λ e. w e.key e.slot) (λ e bit. refl) tail.key tail.slot others,
          without_victim (λ e. w e.key e.slot) (λ e bit. refl) victim others choice,
        )

    -- the residents afterwards are those before, minus the one that leaves
    pub weight-evicted : weight w (evicted m) + resident_weight w (leaves_now m) ≡ weight w m
    weight-evicted =
        let t = last_or None m.small in
        let es = from_victim m.main in
        elim (victim_leaves m)
        as (λ b. weight w (if b then victim_evicted t es m else tail_evicted t m) + resident_weight w (if b then first_of es else option_map (λ tail. (tail.key, tail.slot)) t) ≡ weight w m)
        [ true ↦ weight-victim t refl es refl | false ↦ weight-tail t refl ]

  -- no value changes
  pub values-evicted : (evicted m).values ≡ m.values
  values-evicted =
      elim (victim_leaves m) as (λ b. (if b then victim_evicted (last_or None m.small) (from_victim m.main) m else tail_evicted (last_or None m.small) m).values ≡ m.values)
      [ true ↦ by_victim (last_or None m.small) (from_victim m.main) | false ↦ by_tail (last_or None m.small) ] where
        by_tail : (t : Option (SmallEntry K)) → (tail_evicted t m).values ≡ m.values
        by_tail None = refl
        by_tail (Some tail) = refl

        by_victim : (t : Option (SmallEntry K)) (es : List (MainEntry K)) → (victim_evicted t es m).values ≡ m.values
        by_victim None [] = refl
        by_victim (Some tail) [] = refl
        by_victim None (victim ∷ others) = refl
        by_victim (Some tail) (victim ∷ others) = refl

module _ {K V : Type 0} (eq : K → K → Bool) (m : Machine K V) (h : IsWhole eq m) where
  pub whole-tail : (t : Option (SmallEntry K)) → last_or None m.small ≡ t → IsWhole eq (tail_evicted t m)
  whole-tail None last = h
  whole-tail (Some tail) last =
      let some = tail_some m.small tail last in
      let shorter = (weight-last (λ (e : SmallEntry K). 0) None m.small tail some last).1 in
      record {
        small_below = h.small_below;
        small_within = omega (arith, shorter, h.small_within);
        main_within = h.main_within;
        history_within = omega (arith, length-take m.shares.history (tail.key ∷ m.history));
        made_within = h.made_within;
        slots_counted = omega (arith, shorter, h.slots_counted);
        slots_once = λ slot.
            omega (arith, (weight-last (λ e. one_if (e.slot == slot)) None m.small tail some last).0, sum_by-cons (λ s. one_if (s == slot)) tail.slot m.free)
            ∙ h.slots_once slot;
        keys_once =
            λ key. omega (
              arith,
              h.keys_once key,
              (weight-last (λ e. one_if (eq key e.key)) None m.small tail some last).0,
              sum_by-take-le (λ k. one_if (eq key k)) (tail.key ∷ m.history) m.shares.history,
              sum_by-cons (λ k. one_if (eq key k)) tail.key m.history,
            );
      }

  whole-victim : (t : Option (SmallEntry K)) → last_or None m.small ≡ t → (es : List (MainEntry K)) → from_victim m.main ≡ es → IsWhole eq (victim_evicted t es m)
  whole-victim None last [] choice = h
  whole-victim (Some tail) last [] choice = h
  whole-victim None last (victim ∷ others) choice = record {
    small_below = h.small_below;
    small_within = h.small_within;
    main_within = omega (arith, without_length m victim others choice, h.main_within);
    history_within = h.history_within;
    made_within = h.made_within;
    slots_counted = omega (arith, without_length m victim others choice, h.slots_counted);
    slots_once = λ slot.
        omega (arith, without_victim m (λ e. one_if (e.slot == slot)) (λ e bit. refl) victim others choice, sum_by-cons (λ s. one_if (s == slot)) victim.slot m.free)
        ∙ h.slots_once slot;
    keys_once = λ key. omega (arith, h.keys_once key, without_victim m (λ e. one_if (eq key e.key)) (λ e bit. refl) victim others choice);
  }
  whole-victim (Some tail) last (victim ∷ others) choice =
      let some = tail_some m.small tail last in
      let shorter = (weight-last (λ (e : SmallEntry K). 0) None m.small tail some last).1 in
      let as_long = behind_length eq m h victim others choice tail.key tail.slot in
      record {
        small_below = h.small_below;
        small_within = omega (arith, shorter, h.small_within);
        main_within = omega (arith, as_long, h.main_within);
        history_within = h.history_within;
        made_within = h.made_within;
        slots_counted = omega (arith, shorter, as_long, h.slots_counted);
        slots_once = λ slot.
            omega (
              arith,
              (weight-last (λ e. one_if (e.slot == slot)) None m.small tail some last).0,
              behind_weight eq m h victim others choice tail.key tail.slot (λ e. one_if (e.slot == slot)) (λ e bit. refl),
              sum_by-cons (λ s. one_if (s == slot)) victim.slot m.free,
            )
            ∙ h.slots_once slot;
        keys_once =
            λ key. omega (
              arith,
              h.keys_once key,
              (weight-last (λ e. one_if (eq key e.key)) None m.small tail some last).0,
              behind_weight eq m h victim others choice tail.key tail.slot (λ e. one_if (eq key e.key)) (λ e bit. refl),
            );
      }

  -- the machine is whole afterwards
  pub whole-evicted : IsWhole eq (evicted m)
  whole-evicted =
      let t = last_or None m.small in
      let es = from_victim m.main in
      elim (victim_leaves m) as (λ b. IsWhole eq (if b then victim_evicted t es m else tail_evicted t m)) [ true ↦ whole-victim t refl es refl | false ↦ whole-tail t refl ]

module _ {K V : Type 0} (m : Machine K V) where
  -- which slot is free, and what is remembered

  freed_by_victim : (t : Option (SmallEntry K)) (es : List (MainEntry K)) (r : K × ℕ) → first_of es ≡ Some r → (victim_evicted t es m).free ≡ r.1 ∷ m.free
  freed_by_victim t [] r out = absurd (none_is r out)
  freed_by_victim None (victim ∷ others) r out = ap (λ (x : K × ℕ). x.1 ∷ m.free) (some_is (victim.key, victim.slot) r out)
  freed_by_victim (Some tail) (victim ∷ others) r out = ap (λ (x : K × ℕ). x.1 ∷ m.free) (some_is (victim.key, victim.slot) r out)

  freed_by_tail : (t : Option (SmallEntry K)) (r : K × ℕ) → option_map (λ tail. (tail.key, tail.slot)) t ≡ Some r → (tail_evicted t m).free ≡ r.1 ∷ m.free
  freed_by_tail None r out = absurd (none_is r out)
  freed_by_tail (Some tail) r out = ap (λ (x : K × ℕ). x.1 ∷ m.free) (some_is (tail.key, tail.slot) r out)

  -- the slot of the resident that leaves is the next to be taken
  pub slot_freed : (r : K × ℕ) → leaves_now m ≡ Some r → (evicted m).free ≡ r.1 ∷ m.free
  slot_freed r =
      let t = last_or None m.small in
      let es = from_victim m.main in
      elim (victim_leaves m) as (λ b. (if b then first_of es else option_map (λ tail. (tail.key, tail.slot)) t) ≡ Some r → (if b then victim_evicted t es m else tail_evicted t m).free ≡ r.1 ∷ m.free)
      [ true ↦ freed_by_victim t es r | false ↦ freed_by_tail t r ]

  -- Small's tail is remembered, if it leaves
  pub tail_remembered : (tail : SmallEntry K) → last_or None m.small ≡ Some tail → victim_leaves m ≡ false → (evicted m).history ≡ take m.shares.history (tail.key ∷ m.history)
  tail_remembered tail last stays =
      ap (λ b. (if b then victim_evicted (last_or None m.small) (from_victim m.main) m else tail_evicted (last_or None m.small) m).history) stays ∙ ap (λ t. (tail_evicted t m).history) last

  -- how many residents there are

  main_empty : from_victim m.main ≡ [] → victim_leaves m ≡ false
  main_empty none =
      let no_entry : length m.main ≡ 0 = omega (arith, ap (length {A = MainEntry K}) none, length-from_victim m.main) in
      ap (λ n. nat_lt 0 n && keeps_tail (last_or None m.small)) no_entry

  -- a resident leaves, if there is one
  pub someone_leaves : 0 < resident_count m → (r : K × ℕ) × (leaves_now m ≡ Some r)
  someone_leaves some = by_choice (victim_leaves m) refl where
    by_victim : victim_leaves m ≡ true → (es : List (MainEntry K)) → from_victim m.main ≡ es → (r : K × ℕ) × (first_of es ≡ Some r)
    by_victim leaves [] none = absurd (both_ways (victim_leaves m) (main_empty none) leaves)
    by_victim leaves (victim ∷ others) choice = ((victim.key, victim.slot), refl)

    by_tail : victim_leaves m ≡ false → (t : Option (SmallEntry K)) → last_or None m.small ≡ t → (r : K × ℕ) × (option_map (λ tail. (tail.key, tail.slot)) t ≡ Some r)
    by_tail stays None last =
        let clash : victim_leaves m ≡ true = ap (λ b. b && keeps_tail (last_or None m.small)) (lt-ltb 0 (length m.main) (omega (arith, empty_small m.small last, some))) ∙ ap keeps_tail last in
        absurd (both_ways (victim_leaves m) stays clash)
    by_tail stays (Some tail) last = ((tail.key, tail.slot), refl)

    by_choice : (b : Bool) → victim_leaves m ≡ b → (r : K × ℕ) × ((if b then first_of (from_victim m.main) else option_map (λ tail. (tail.key, tail.slot)) (last_or None m.small)) ≡ Some r)
    by_choice true leaves = by_victim leaves (from_victim m.main) refl
    by_choice false stays = by_tail stays (last_or None m.small) refl

  length_weighed : {X : Type 0} (xs : List X) → sum_by (λ x. 1) xs ≡ length xs
  length_weighed [] = refl
  length_weighed (x ∷ xs) = omega (arith, sum_by-cons (λ y. 1) x xs, length_weighed xs)

  -- so there is one resident fewer
  pub one_fewer : 0 < resident_count m → suc (resident_count (evicted m)) ≡ resident_count m
  one_fewer some =
      let out = someone_leaves some in
      omega (
        arith,
        weight-evicted m (λ k s. 1),
        ap (resident_weight (λ k s. 1)) out.1,
        length_weighed m.small,
        length_weighed m.main,
        length_weighed (evicted m).small,
        length_weighed (evicted m).main,
      )

  -- in a full cache it is the resident that a key which isn't known would make leave
  pub evicts_next : (eq : K → K → Bool) → IsWhole eq m → vacancy m ≡ None → leaves_now m ≡ next_victim m
  evicts_next eq h none =
      let t = last_or None m.small in
      let some : nat_lt 0 (length m.main) ≡ true = lt-ltb 0 (length m.main) (omega (arith, all_resident eq m h none, h.small_within, h.small_below)) in
      ap (λ b. if b && keeps_tail t then first_of (from_victim m.main) else option_map (λ tail. (tail.key, tail.slot)) t) some
      ∙ by_share t refl (m.shares.small == 0) refl (length m.main == main_share m.shares) refl
      ∙ sym (ap (λ v. if false || (m.shares.small == 0) || (is_some v && nat_le m.shares.small (length m.small)) then leaves_for_main m else leaves_for_small v t m.main) none) where
        by_share : (t : Option (SmallEntry K)) → last_or None m.small ≡ t → (b : Bool) → (m.shares.small == 0) ≡ b → (full : Bool) → (length m.main == main_share m.shares) ≡ full
            → (if keeps_tail t then first_of (from_victim m.main) else option_map (λ tail. (tail.key, tail.slot)) t)
            ≡ (if false || b || false then (if full then first_of (from_victim m.main) else None) else leaves_for_small None t m.main)
        by_share (Some tail) last false has full is = refl
        by_share None last false has full is =
            absurd (omega (arith, all_resident eq m h none, h.main_within, h.small_below, empty_small m.small last, eqb-false m.shares.small 0 has))
        by_share None last true has true is = refl
        by_share None last true has false is =
            absurd (omega (arith, all_resident eq m h none, h.main_within, empty_small m.small last, eqb-true m.shares.small 0 has, eqb-false (length m.main) (main_share m.shares) is))
        by_share (Some tail) last true has full is = absurd (omega (arith, tail_some m.small tail last, h.small_within, eqb-true m.shares.small 0 has))
