-- In the second round of such a loop no key enters Small, and each key that was remembered enters Main and stays there.
use Rattle.std.proofs.Common.{◌≡◌, ◌⊎◌, ℕ, suc, ◌+◌, ◌-◌, ◌<◌, ◌≤◌, ◌==◌, Bool, true, false, not, ◌||◌, ◌&&◌, List, [], ◌∷◌, ◌++◌, map, length, inl, inr, Option, Some, None, refl, sym, ap, ◌∙◌, subst, arith, eq-eqb, length-append}
use Rattle.std.specs.Prelude.{⊤, if◌then◌else◌, is_some, nat_le}
use Rattle.std.specs.Cmp.{IsEquivalence}
use Rattle.std.specs.List.{count_by, list_any, last_or, AllByRecursion, IsDistinct}
use Rattle.std.proofs.lemmas.List.{length-map}
use Rattle.std.proofs.lemmas.List.Sums.{sum_by-cons, sum_by-le-sum_by}
use Rattle.clock2q_machine.specs.Shares.{main_share}
use Rattle.clock2q_machine.specs.Entries.{SmallEntry, MainEntry, inspections, from_victim, behind_hand}
use Rattle.clock2q_machine.specs.Calls.{Put}
use Rattle.clock2q_machine.specs.Machine.{Machine, forgotten, inserted, goes_to_main, into_main, into_small, replacing_victim, joining_main, slot_of, vacancy}
use Rattle.clock2q_machine.specs.Steps.{replaced_at, after, after_all}
use Rattle.clock2q_machine.specs.Bounds.{set_bits, goes_on, takes_victim, takes_out, makes_room, inspections_of, main_victims, settings, summed}
use Rattle.clock2q_machine.specs.Lifetimes.{newer, ahead, is_in_small, is_in_main, is_remembered, admissions_of, evictions_of}
use Rattle.clock2q_machine.specs.Whole.{IsWhole}
use Rattle.clock2q_machine.specs.Scans.{scan}
use Rattle.clock2q_machine.specs.Loops.{AreDistinct}
use Rattle.clock2q_machine.proofs.Weights.{weight-from_victim, length-from_victim}
use Rattle.clock2q_machine.proofs.Whole.{one_if}
use Rattle.clock2q_machine.proofs.MachineInvariant.{lasting-after}
use Rattle.clock2q_machine.proofs.Standing.{none_counted, absent_if, key_count, fewer}
use Rattle.clock2q_machine.proofs.Clock.{clock_bounded}
use Rattle.clock2q_machine.proofs.Lifetimes.{stays_after, in_small_still, remembered_still}
use Rattle.clock2q_machine.proofs.MainLifetimes.{victims_pass}
use Rattle.clock2q_machine.proofs.NewKeys.{put_shares}
use Rattle.clock2q_machine.proofs.FarApart.{Differ}

-- Tests of lists, by counting.

module _ {X : Type 0} where
  pub counted_any : (p : X → Bool) (xs : List X) → list_any p xs ≡ true → 0 < count_by p xs
  counted_any p [] any = cc
  counted_any p (x ∷ xs) any =
      (elim (p x) as (λ b. p x ≡ b → (b || list_any p xs) ≡ true → 0 < count_by p (x ∷ xs)) [
        | true ↦ λ passes _. omega (arith, sum_by-cons (λ y. one_if (p y)) x xs, ap one_if passes)
        | false ↦ λ fails later. omega (arith, sum_by-cons (λ y. one_if (p y)) x xs, ap one_if fails, counted_any p xs later)
      ]) refl any

  newer_within : (p : X → Bool) (xs : List X) → list_any p xs ≡ true → newer p xs < length xs
  newer_within p [] any = cc
  newer_within p (x ∷ xs) any =
      (elim (p x) as (λ b. (b || list_any p xs) ≡ true → (if b then 0 else 1 + newer p xs) < suc (length xs)) [
        | true ↦ λ _. omega arith
        | false ↦ λ later. omega (arith, newer_within p xs later)
      ]) any

module _ {K : Type 0} (is : K → Bool) where
  counted_in_main : (main : List (MainEntry K)) → list_any is (map (λ e. e.key) main) ≡ true → 0 < count_by (λ e. is e.key) main
  counted_in_main [] any = cc
  counted_in_main (e ∷ main) any =
      (elim (is e.key) as (λ b. is e.key ≡ b → (b || list_any is (map (λ x. x.key) main)) ≡ true → 0 < count_by (λ x. is x.key) (e ∷ main)) [
        | true ↦ λ passes _. omega (arith, sum_by-cons (λ x. one_if (is x.key)) e main, ap one_if passes)
        | false ↦ λ fails later. omega (arith, sum_by-cons (λ x. one_if (is x.key)) e main, ap one_if fails, counted_in_main main later)
      ]) refl any

  -- a new key of Main is behind all others
  behind_all : (key : K) (slot : ℕ) → is key ≡ true → (main : List (MainEntry K)) → count_by (λ e. is e.key) main ≡ 0
      → (list_any is (map (λ e. e.key) (behind_hand key slot main)) ≡ true) × (ahead is (behind_hand key slot main) ≡ length main)
  behind_all key slot passes [] none = (ap (λ b. b || false) passes, ap (λ b. if b then 0 else 1 + 0) passes)
  behind_all key slot passes (e ∷ main) none =
      (elim (is e.key) as (λ b. is e.key ≡ b → ((b || list_any is (map (λ x. x.key) (behind_hand key slot main))) ≡ true)
      × ((if b then 0 else 1 + ahead is (behind_hand key slot main)) ≡ suc (length main))) [
        | true ↦ λ found. absurd (omega (arith, sum_by-cons (λ x. one_if (is x.key)) e main, ap one_if found, none))
        | false ↦ λ other. let rest = behind_all key slot passes main (omega (arith, sum_by-cons (λ x. one_if (is x.key)) e main, ap one_if other, none)) in (rest.0, omega (arith, rest.1))
      ]) refl

module _ {K V : Type 0} (eq : K → K → Bool) (laws : IsEquivalence eq) where
  abbrev IsMainFull : Machine K V → Type 0
  IsMainFull m = length m.main ≡ main_share m.shares

  pub resident_if : (is : K → Bool) (m : Machine K V) → 0 < key_count is m → is_some (slot_of is m) ≡ true
  resident_if is m some = by_slot (slot_of is m) refl where
    by_slot : (o : Option ℕ) → slot_of is m ≡ o → is_some o ≡ true
    by_slot None absent = absurd (omega (arith, none_counted is m absent, some))
    by_slot (Some slot) found = refl

  pub small_resident : (is : K → Bool) (m : Machine K V) → is_in_small is m ≡ true → is_some (slot_of is m) ≡ true
  small_resident is m there = resident_if is m (omega (arith, counted_any (λ (e : SmallEntry K). is e.key) m.small there))

  pub main_resident : (is : K → Bool) (m : Machine K V) → is_in_main is m ≡ true → is_some (slot_of is m) ≡ true
  main_resident is m there = resident_if is m (omega (arith, counted_in_main is m.main there))

  -- A key that is in Small or remembered is put.

  module _ (key : K) (value : V) (m : Machine K V) (h : IsWhole eq m) where
    abbrev put_in : Machine K V
    put_in = after eq (Put key value) m

    abbrev IsKept : Type 0
    IsKept = (is_in_small (eq key) m ≡ true) ⊎ (is_remembered (eq key) m ≡ true)

    -- if it isn't resident it goes to Main
    by_kept : (f : Bool → ℕ) → f true ≡ 0 → IsKept → (if is_some (slot_of (eq key) m) then 0 else f (goes_to_main (list_any (eq key) m.history) m)) ≡ 0
    by_kept f none (inl there) = ap (λ b. if b then 0 else f (goes_to_main (list_any (eq key) m.history) m)) (small_resident (eq key) m there)
    by_kept f none (inr known) =
        elim (is_some (slot_of (eq key) m)) as (λ b. (if b then 0 else f (goes_to_main (list_any (eq key) m.history) m)) ≡ 0) [
          | true ↦ refl
          | false ↦ ap (λ b. f (b || (m.shares.small == 0) || (is_some (vacancy m) && nat_le m.shares.small (length m.small)))) known ∙ none
        ]

    pub admits_none : IsKept → admissions_of eq (Put key value) m ≡ 0
    admits_none = by_kept (λ b. if b then 0 else 1) refl

    pub evicts_none : IsKept → evictions_of eq (Put key value) m ≡ 0
    evicts_none = by_kept (λ b. if b || is_some (vacancy m) || goes_on (last_or None m.small) then 0 else 1) refl

    not_in_main : IsKept → count_by (λ e. eq key e.key) m.main ≡ 0
    not_in_main (inl there) = omega (arith, h.keys_once key, counted_any (λ (e : SmallEntry K). eq key e.key) m.small there)
    not_in_main (inr known) = omega (arith, h.keys_once key, counted_any (eq key) m.history known)

    pub sets_none : IsKept → settings eq (Put key value) m ≡ 0
    sets_none kept =
        omega (arith, not_in_main kept, sum_by-le-sum_by (λ (e : MainEntry K). one_if (eq key e.key && not e.bit)) (λ e. one_if (eq key e.key)) m.main (λ e. fewer (eq key e.key) (not e.bit)))

    victims_one : main_victims eq (Put key value) m ≤ 1
    victims_one =
        elim (is_some (slot_of (eq key) m)) as (λ b. (if b then 0 else (if takes_victim (eq key) m then 1 else 0)) ≤ 1) [
          | true ↦ omega arith
          | false ↦ elim (takes_victim (eq key) m) as (λ b. (if b then 1 else 0) ≤ 1) [ true ↦ omega arith | false ↦ omega arith ]
        ]

    victims_inspected : main_victims eq (Put key value) m ≤ inspections_of eq (Put key value) m
    victims_inspected =
        elim (is_some (slot_of (eq key) m)) as (λ b. (if b then 0 else (if takes_victim (eq key) m then 1 else 0)) ≤ (if b then 0 else (if takes_victim (eq key) m then inspections m.main else 0))) [
          | true ↦ omega arith
          | false ↦ elim (takes_victim (eq key) m) as (λ b. (if b then 1 else 0) ≤ (if b then inspections m.main else 0)) [ true ↦ omega arith | false ↦ omega arith ]
        ]

    -- while no bit is set, bits are only cleared
    pub bits_fall : settings eq (Put key value) m ≡ 0 → set_bits put_in ≤ set_bits m
    bits_fall none = omega (arith, clock_bounded eq (Put key value) m, victims_inspected, none)

    victims_small : is_in_small (eq key) m ≡ true → main_victims eq (Put key value) m ≡ 0
    victims_small there = ap (λ b. if b then 0 else (if takes_victim (eq key) m then 1 else 0)) (small_resident (eq key) m there)

    -- a remembered key enters a full Main, behind all others
    module _ (full : IsMainFull m) (known : is_remembered (eq key) m ≡ true) where
      absent : slot_of (eq key) m ≡ None
      absent = absent_if (eq key) m (omega (arith, h.keys_once key, counted_any (eq key) m.history known))

      abbrev Enters : Machine K V → Type 0
      Enters n = (length n.main ≡ length m.main) × ((is_in_main (eq key) n ≡ true) × (ahead (eq key) n.main + 1 ≡ length m.main))

      enters : (es : List (MainEntry K)) → from_victim m.main ≡ es → Enters (replacing_victim key es (forgotten (eq key) m)).machine
      enters [] choice = absurd (omega (arith, ap (length {A = MainEntry K}) choice, length-from_victim m.main, full, h.small_below))
      enters (victim ∷ others) choice =
          let g : MainEntry K → ℕ = λ e. one_if (eq key e.key) in
          let shorter : length others + 1 ≡ length m.main = omega (arith, ap (length {A = MainEntry K}) choice, length-from_victim m.main) in
          let none : count_by (λ e. eq key e.key) others ≡ 0 = omega (arith, not_in_main (inr known), sum_by-cons g victim others, ap (count_by (λ (e : MainEntry K). eq key e.key)) choice, weight-from_victim g (λ e bit. refl) m.main) in
          let behind = behind_all (eq key) key victim.slot (laws.refl key) others none in
          (omega (arith, shorter, length-append others (record { key = key; slot = victim.slot; bit = false } ∷ [])), (behind.0, omega (arith, behind.1, shorter)))

      pub enters_main : Enters put_in
      enters_main =
          let rest : Machine K V = forgotten (eq key) m in
          subst (λ o. Enters (if is_some o then replaced_at (eq key) value o m else inserted (eq key) key value m)) (sym absent)
          (subst (λ b. Enters (if b || (m.shares.small == 0) || (is_some (vacancy m) && nat_le m.shares.small (length m.small)) then into_main key rest else into_small key rest).machine) (sym known)
          (subst (λ b. Enters (if b then replacing_victim key (from_victim m.main) rest else joining_main key (vacancy m) rest).machine) (sym (eq-eqb (length m.main) (main_share m.shares) full))
          (enters (from_victim m.main) refl)))

    pub main_full_still : IsMainFull m → IsKept → IsMainFull put_in
    main_full_still full kept = by_kept_here kept ∙ ap main_share (sym (put_shares eq laws key value m h)) where
      by_slot : (o : Option ℕ) → is_some o ≡ true → length (if is_some o then replaced_at (eq key) value o m else inserted (eq key) key value m).main ≡ main_share m.shares
      by_slot None there = cc
      by_slot (Some slot) there = length-map m.main _ ∙ full

      by_kept_here : IsKept → length put_in.main ≡ main_share m.shares
      by_kept_here (inl there) = by_slot (slot_of (eq key) m) (small_resident (eq key) m there)
      by_kept_here (inr known) = (enters_main full known).0 ∙ full

    -- another key that is in Small or remembered stays there
    pub small_stays : IsKept → (k : K) → is_in_small (eq k) m ≡ true → is_in_small (eq k) put_in ≡ true
    small_stays kept k there = (stays_after (eq k) eq 0 (Put key value) m refl (there, omega (arith, admits_none kept))).0

    pub remembered_stays : IsKept → (k : K) → eq k key ≡ false → is_remembered (eq k) m ≡ true → is_remembered (eq k) put_in ≡ true
    remembered_stays kept k differs known =
        remembered_still eq laws k (Put key value ∷ []) m (differs, tt) known (omega (arith, newer_within (eq k) m.history known, h.history_within, evicts_none kept))

  -- The keys that remain: each is in Small, or it is remembered and as many follow it as Small holds.

  abbrev pub Remain : List (K × V) → Machine K V → Type 0
  Remain [] m = ⊤
  Remain (p ∷ puts) m = ((is_in_small (eq p.0) m ≡ true) ⊎ ((m.shares.small ≤ length puts) × (is_remembered (eq p.0) m ≡ true))) × Remain puts m

  -- the first differs from the rest
  pub first_differs : (p : K × V) (puts : List (K × V)) → AreDistinct eq (p ∷ puts) → Differ eq p.0 puts
  unfolding IsDistinct
  first_differs p puts distinct = among puts distinct.0 where
    among : (later : List (K × V)) → AllByRecursion (λ k. eq p.0 k ≡ false) (map (λ q. q.0) later) → Differ eq p.0 later
    among [] differ = tt
    among (q ∷ later) differ = (laws.symm q.0 p.0 ∙ differ.0, among later differ.1)

  pub rest_distinct : (p : K × V) (puts : List (K × V)) → AreDistinct eq (p ∷ puts) → AreDistinct eq puts
  unfolding IsDistinct
  rest_distinct p puts distinct = distinct.1

  kept : (p : K × V) (puts : List (K × V)) (m : Machine K V) (h : IsWhole eq m) → Remain (p ∷ puts) m → IsKept p.0 p.1 m h
  kept p puts m h remain = elim remain.0 [ inl there ↦ inl there | inr known ↦ inr known.1 ]

  remain_on : (p : K × V) (m : Machine K V) (h : IsWhole eq m) → IsKept p.0 p.1 m h → (puts : List (K × V)) → Differ eq p.0 puts → Remain puts m → Remain puts (after eq (Put p.0 p.1) m)
  remain_on p m h is_kept [] differ remain = tt
  remain_on p m h is_kept (q ∷ puts) differ remain = (
    elim remain.0 [
      | inl there ↦ inl (small_stays p.0 p.1 m h is_kept q.0 there)
      | inr known ↦ inr (omega (arith, known.0, ap (λ s. s.small) (put_shares eq laws p.0 p.1 m h)), remembered_stays p.0 p.1 m h is_kept q.0 differ.0 known.1)
    ],
    remain_on p m h is_kept puts differ.1 remain.1,
  )

  -- what the rest of the round does
  module _ (p : K × V) (puts : List (K × V)) (m : Machine K V) (h : IsWhole eq m) (apart : AreDistinct eq (p ∷ puts)) (remain : Remain (p ∷ puts) m) where
    next_whole : IsWhole eq (after eq (Put p.0 p.1) m)
    next_whole = lasting-after eq laws (Put p.0 p.1) m h

    next_remain : Remain puts (after eq (Put p.0 p.1) m)
    next_remain = remain_on p m h (kept p puts m h remain) puts (first_differs p puts apart) remain.1

  none_admitted : (puts : List (K × V)) (m : Machine K V) → IsWhole eq m → AreDistinct eq puts → Remain puts m → summed eq (admissions_of eq) (scan puts) m ≡ 0
  none_admitted [] m h apart remain = refl
  none_admitted (p ∷ puts) m h apart remain =
      omega (arith, admits_none p.0 p.1 m h (kept p puts m h remain), none_admitted puts (after eq (Put p.0 p.1) m) (next_whole p puts m h apart remain) (rest_distinct p puts apart) (next_remain p puts m h apart remain))

  none_set : (puts : List (K × V)) (m : Machine K V) → IsWhole eq m → AreDistinct eq puts → Remain puts m → summed eq (settings eq) (scan puts) m ≡ 0
  none_set [] m h apart remain = refl
  none_set (p ∷ puts) m h apart remain =
      omega (arith, sets_none p.0 p.1 m h (kept p puts m h remain), none_set puts (after eq (Put p.0 p.1) m) (next_whole p puts m h apart remain) (rest_distinct p puts apart) (next_remain p puts m h apart remain))

  few_victims : (puts : List (K × V)) (m : Machine K V) → IsWhole eq m → AreDistinct eq puts → Remain puts m → summed eq (main_victims eq) (scan puts) m ≤ length puts - m.shares.small
  few_victims [] m h apart remain = omega arith
  few_victims (p ∷ puts) m h apart remain =
      let rest = few_victims puts (after eq (Put p.0 p.1) m) (next_whole p puts m h apart remain) (rest_distinct p puts apart) (next_remain p puts m h apart remain) in
      let same = ap (λ s. s.small) (put_shares eq laws p.0 p.1 m h) in
      elim remain.0 [
        | inl there ↦ omega (arith, victims_small p.0 p.1 m h there, rest, same)
        | inr known ↦ omega (arith, victims_one p.0 p.1 m h, known.0, rest, same)
      ]

  pub none_removed : (puts : List (K × V)) → AllByRecursion (λ call. makes_room call ≡ false) (scan puts) × AllByRecursion (λ call. takes_out call ≡ false) (scan puts)
  none_removed [] = (tt, tt)
  none_removed (p ∷ puts) = let rest = none_removed puts in ((refl, rest.0), (refl, rest.1))

  -- a key of the round is resident at its end
  pub second_round : (front : List (K × V)) (p : K × V) (back : List (K × V)) (m : Machine K V) → IsWhole eq m → IsMainFull m → AreDistinct eq (front ++ p ∷ back) → Remain (front ++ p ∷ back) m
      → suc (length back) + set_bits m ≤ m.shares.capacity → is_some (slot_of (eq p.0) (after_all eq (scan (front ++ p ∷ back)) m)) ≡ true
  second_round [] p back m h full apart remain fits = by_place remain.0 where
    n : Machine K V
    n = after eq (Put p.0 p.1) m

    is_kept : IsKept p.0 p.1 m h
    is_kept = kept p back m h remain

    later : IsWhole eq n × Remain back n
    later = (next_whole p back m h apart remain, next_remain p back m h apart remain)

    by_place : (is_in_small (eq p.0) m ≡ true) ⊎ ((m.shares.small ≤ length back) × (is_remembered (eq p.0) m ≡ true)) → is_some (slot_of (eq p.0) (after_all eq (scan back) n)) ≡ true
    by_place (inl there) =
        small_resident (eq p.0) (after_all eq (scan back) n)
        (in_small_still (eq p.0) eq (scan back) n (none_removed back).0 (small_stays p.0 p.1 m h is_kept p.0 there) (omega (arith, none_admitted back n later.0 (rest_distinct p back apart) later.1)))
    by_place (inr known) =
        let enters = enters_main p.0 p.1 m h full known.1 in
        main_resident (eq p.0) (after_all eq (scan back) n)
        (victims_pass (eq p.0) eq (scan back) n (none_removed back).1 enters.1.0
        (omega (
          arith,
          few_victims back n later.0 (rest_distinct p back apart) later.1,
          none_set back n later.0 (rest_distinct p back apart) later.1,
          bits_fall p.0 p.1 m h (sets_none p.0 p.1 m h is_kept),
          ap (λ s. s.small) (put_shares eq laws p.0 p.1 m h),
          enters.1.1,
          full,
          known.0,
          fits,
        )))
  second_round (q ∷ front) p back m h full apart remain fits =
      let rest : List (K × V) = front ++ p ∷ back in
      let is_kept = kept q rest m h remain in
      second_round front p back (after eq (Put q.0 q.1) m) (next_whole q rest m h apart remain) (main_full_still q.0 q.1 m h full is_kept) (rest_distinct q rest apart) (next_remain q rest m h apart remain)
      (omega (arith, fits, bits_fall q.0 q.1 m h (sets_none q.0 q.1 m h is_kept), ap (λ s. s.capacity) (put_shares eq laws q.0 q.1 m h)))
