-- Which key enters the history: only that of Small's tail, when it is evicted, and then it is the newest there.
use Rattle.std.proofs.Common.{◌≡◌, ℕ, zero, suc, ◌+◌, ◌<◌, ◌≤◌, ◌==◌, Bool, true, false, not, ◌||◌, List, [], ◌∷◌, map, length, take, Option, Some, None, refl, sym, ap, ◌∙◌, subst, arith}
use Rattle.std.specs.Prelude.{if◌then◌else◌, is_some, nat_lt}
use Rattle.std.specs.Cmp.{IsEquivalence}
use Rattle.std.specs.List.{count_by, list_any, last_or}
use Rattle.std.proofs.lemmas.List.Sums.{sum_by-cons, sum_by-take-le}
use Rattle.clock2q_machine.specs.Ages.{is_promoted}
use Rattle.clock2q_machine.specs.Shares.{main_share}
use Rattle.clock2q_machine.specs.Entries.{SmallEntry, MainEntry, from_victim}
use Rattle.clock2q_machine.specs.Calls.{Call, Put, Get, Peek, Contains, GetAt, Set, With, Try, SlotFor, Remove, Retain, Clear, Evict, Prefill, Len, IsEmpty, Capacity}
use Rattle.clock2q_machine.specs.Machine.{Machine, hit, forgotten, stored, placement, inserted, reused, goes_to_main, into_main, into_small, into_small_at, evicting_tail, promoting_tail, replacing_victim, joining_main, slot_of, vacancy, vacated, vacated_all, removed_at, by_slot, victim_leaves, victim_evicted, tail_evicted}
use Rattle.clock2q_machine.specs.Steps.{refused_slots, is_at, replaced_at, after}
use Rattle.clock2q_machine.specs.Bounds.{goes_on}
use Rattle.clock2q_machine.specs.Lifetimes.{newer, is_remembered, evictions_of}
use Rattle.clock2q_machine.specs.Whole.{IsWhole}
use Rattle.clock2q_machine.proofs.Weights.{sum_by-filter-le}
use Rattle.clock2q_machine.proofs.Whole.{one_if}
use Rattle.clock2q_machine.proofs.MachineInvariant.{lasting-after}
use Rattle.clock2q_machine.proofs.Standing.{absent_if}

-- what Small's tail adds to the history
abbrev of_tail : {K : Type 0} → (K → Bool) → Option (SmallEntry K) → ℕ
of_tail is None = 0
of_tail is (Some tail) = one_if (is tail.key)

module _ {K V : Type 0} where
  remembered_main : (is : K → Bool) (key : K) (m : Machine K V) (full : Bool) (es : List (MainEntry K)) (v : Option ℕ)
      → count_by is (if full then replacing_victim key es m else joining_main key v m).machine.history ≡ count_by is m.history
  remembered_main is key m true [] v = refl
  remembered_main is key m true (victim ∷ others) v = refl
  remembered_main is key m false es None = refl
  remembered_main is key m false es (Some slot) = refl

  remembered_promoting : (is : K → Bool) (key : K) (tail : SmallEntry K) (es : List (MainEntry K)) (m : Machine K V)
      → count_by is (promoting_tail key tail es m).machine.history ≡ count_by is m.history
  remembered_promoting is key tail [] m = refl
  remembered_promoting is key tail (victim ∷ others) m = refl

  remembered_evicting : (is : K → Bool) (key : K) (tail : SmallEntry K) (m : Machine K V) → count_by is (evicting_tail key tail m).machine.history ≤ count_by is m.history + one_if (is tail.key)
  remembered_evicting is key tail m = omega (arith, sum_by-take-le (λ k. one_if (is k)) (tail.key ∷ m.history) m.shares.history, sum_by-cons (λ k. one_if (is k)) tail.key m.history)

  remembered_small : (is : K → Bool) (key : K) (m : Machine K V) (v : Option ℕ) (t : Option (SmallEntry K))
      → count_by is (into_small_at key v t m).machine.history ≤ count_by is m.history + of_tail is t
  remembered_small is key m (Some slot) t = omega arith
  remembered_small is key m None None = omega arith
  remembered_small is key m None (Some tail) =
      elim (is_promoted tail.age) as
      (λ b. count_by is (if b then promoting_tail key tail (from_victim m.main) m else evicting_tail key tail m).machine.history ≤ count_by is m.history + one_if (is tail.key))
      [ true ↦ omega (arith, remembered_promoting is key tail (from_victim m.main) m) | false ↦ remembered_evicting is key tail m ]

  remembered_forgotten : (is known : K → Bool) (m : Machine K V) → count_by is (forgotten known m).history ≤ count_by is m.history
  remembered_forgotten is known m = sum_by-filter-le (λ k. one_if (is k)) (λ k. not (known k)) m.history

  remembered_placement : (is known : K → Bool) (key : K) (m : Machine K V) → count_by is (placement known key m).machine.history ≤ count_by is m.history + of_tail is (last_or None m.small)
  remembered_placement is known key m =
      elim (goes_to_main (list_any known m.history) m) as
      (λ b. count_by is (if b then into_main key (forgotten known m) else into_small key (forgotten known m)).machine.history ≤ count_by is m.history + of_tail is (last_or None m.small)) [
        | true ↦ omega (arith, remembered_main is key (forgotten known m) (length m.main == main_share m.shares) (from_victim m.main) (vacancy m), remembered_forgotten is known m)
        | false ↦ omega (arith, remembered_small is key (forgotten known m) (vacancy m) (last_or None m.small), remembered_forgotten is known m)
      ]

  remembered_evicted : (is : K → Bool) (m : Machine K V) (b : Bool) (t : Option (SmallEntry K)) (es : List (MainEntry K))
      → count_by is (if b then victim_evicted t es m else tail_evicted t m).history ≤ count_by is m.history + of_tail is t
  remembered_evicted is m true None [] = omega arith
  remembered_evicted is m true (Some tail) [] = omega arith
  remembered_evicted is m true None (victim ∷ others) = omega arith
  remembered_evicted is m true (Some tail) (victim ∷ others) = omega arith
  remembered_evicted is m false None es = omega arith
  remembered_evicted is m false (Some tail) es = remembered_evicting is tail.key tail m

  same_history-vacated : (slots : List ℕ) (m : Machine K V) → (vacated_all slots m).history ≡ m.history
  same_history-vacated [] m = refl
  same_history-vacated (slot ∷ slots) m = same_history-vacated slots (vacated slot m)

  module _ (eq : K → K → Bool) (m : Machine K V) (is : K → Bool) where
    abbrev most : ℕ
    most = count_by is m.history + of_tail is (last_or None m.small)

    remembered_replaced : (test : K → Bool) (value : V) (o : Option ℕ) → count_by is (replaced_at test value o m).history ≤ most
    remembered_replaced test value None = omega arith
    remembered_replaced test value (Some slot) = omega arith

    remembered_wanted : (o : Option ℕ) (hits inserts : Machine K V) → count_by is hits.history ≤ most
        → count_by is inserts.history ≤ most → count_by is (if is_some o then hits else inserts).history ≤ most
    remembered_wanted None hits inserts stays enters = enters
    remembered_wanted (Some slot) hits inserts stays enters = stays

    remembered_reused : (key : K) (fresh : V) → count_by is (reused (eq key) key fresh m).history ≤ most
    remembered_reused key fresh =
        let p = placement (eq key) key m in
        elim (nat_lt p.slot (length m.values)) as (λ b. count_by is (if b then p.machine else stored p.slot fresh p.machine).history ≤ most)
        [ true ↦ remembered_placement is (eq key) key m | false ↦ remembered_placement is (eq key) key m ]

    remembered_removed : (test : K → Bool) (o : Option ℕ) → count_by is (removed_at test o m).history ≤ most
    remembered_removed test None = omega (arith, remembered_forgotten is test m)
    remembered_removed test (Some slot) = omega arith

    remembered : (call : Call K V) → count_by is (after eq call m).history ≤ most
    remembered (Put key value) =
        remembered_wanted (slot_of (eq key) m) (replaced_at (eq key) value (slot_of (eq key) m) m) (inserted (eq key) key value m)
        (remembered_replaced (eq key) value (slot_of (eq key) m)) (remembered_placement is (eq key) key m)
    remembered (Get key) = omega arith
    remembered (Peek key) = omega arith
    remembered (Contains key) = omega arith
    remembered (GetAt slot key) = elim (is_at slot (slot_of (eq key) m)) as (λ b. count_by is (if b then hit (eq key) m else m).history ≤ most) [ true ↦ omega arith | false ↦ omega arith ]
    remembered (Set key value) = remembered_replaced (eq key) value (slot_of (eq key) m)
    remembered (With key value) = remembered_wanted (slot_of (eq key) m) (hit (eq key) m) (inserted (eq key) key value m) (omega arith) (remembered_placement is (eq key) key m)
    remembered (Try key (Some value)) = remembered_wanted (slot_of (eq key) m) (hit (eq key) m) (inserted (eq key) key value m) (omega arith) (remembered_placement is (eq key) key m)
    remembered (Try key None) = omega arith
    remembered (SlotFor key fresh) = remembered_wanted (slot_of (eq key) m) (hit (eq key) m) (reused (eq key) key fresh m) (omega arith) (remembered_reused key fresh)
    remembered (Remove key) = remembered_removed (eq key) (slot_of (eq key) m)
    remembered (Retain keep) = omega (arith, ap (count_by is) (same_history-vacated (refused_slots keep (map (λ r. r.1) (by_slot m))) m))
    remembered Clear = omega arith
    remembered Evict = remembered_evicted is m (victim_leaves m) (last_or None m.small) (from_victim m.main)
    remembered (Prefill values) = omega arith
    remembered Len = omega arith
    remembered IsEmpty = omega arith
    remembered Capacity = omega arith

  module _ (eq : K → K → Bool) (laws : IsEquivalence eq) (m : Machine K V) (h : IsWhole eq m) where
    -- a key that a call adds to the history was Small's tail, and is no longer resident
    pub only_tail_remembered : (call : Call K V) (k : K) → count_by (eq k) m.history ≡ 0 → 0 < count_by (eq k) (after eq call m).history
        → ((tail : SmallEntry K) × ((last_or None m.small ≡ Some tail) × (eq k tail.key ≡ true))) × (slot_of (eq k) (after eq call m) ≡ None)
    only_tail_remembered call k new some = (by_tail (last_or None m.small) refl, gone) where
      whole : IsWhole eq (after eq call m)
      whole = lasting-after eq laws call m h

      gone : slot_of (eq k) (after eq call m) ≡ None
      gone = absent_if (eq k) (after eq call m) (omega (arith, whole.keys_once k, some))

      tail_passes : (b : Bool) → 0 < one_if b → b ≡ true
      tail_passes true one = refl
      tail_passes false none = absurd (omega (arith, none))

      by_tail : (o : Option (SmallEntry K)) → last_or None m.small ≡ o → (tail : SmallEntry K) × ((o ≡ Some tail) × (eq k tail.key ≡ true))
      by_tail None last = absurd (omega (arith, remembered eq m (eq k) call, ap (of_tail (eq k)) last, new, some))
      by_tail (Some tail) last = (tail, (refl, tail_passes (eq k tail.key) (omega (arith, remembered eq m (eq k) call, ap (of_tail (eq k)) last, new, some))))

-- Small's tail is the newest key of the history once it is evicted.

abbrev one_unless : Bool → ℕ
one_unless b = if b then 0 else 1

newest_taken : {K : Type 0} (is : K → Bool) (key : K) (history : List K) (n : ℕ) → is key ≡ true → 0 < n
    → (list_any is (take n (key ∷ history)) ≡ true) × (newer is (take n (key ∷ history)) ≡ 0)
newest_taken is key history zero passes some = absurd (omega (arith, some))
newest_taken is key history (suc n) passes some = (ap (λ b. b || list_any is (take n history)) passes, ap (λ b. if b then 0 else 1 + newer is (take n history)) passes)

module _ {K V : Type 0} (is : K → Bool) where
  abbrev IsNewest : Machine K V → Type 0
  IsNewest m = (is_remembered is m ≡ true) × (newer is m.history ≡ 0)

  newest_wanted : (o : Option ℕ) (n : ℕ) (hits inserts : Machine K V) → (n ≡ 1 → IsNewest inserts) → (if is_some o then 0 else n) ≡ 1 → IsNewest (if is_some o then hits else inserts)
  newest_wanted None n hits inserts newest one = newest one
  newest_wanted (Some slot) n hits inserts newest one = absurd (omega (arith, one))

  module _ (m : Machine K V) (tail : SmallEntry K) (last : last_or None m.small ≡ Some tail) (passes : is tail.key ≡ true) (some : 0 < m.shares.history) where
    module _ (test : K → Bool) (key : K) where
      newest_tail : (b : Bool) → one_unless (false || false || b) ≡ 1
          → IsNewest (if b then promoting_tail key tail (from_victim m.main) (forgotten test m) else evicting_tail key tail (forgotten test m)).machine
      newest_tail true one = absurd (omega (arith, one))
      newest_tail false one = newest_taken is tail.key (forgotten test m).history m.shares.history passes some

      newest_small : (v : Option ℕ) → one_unless (false || is_some v || goes_on (Some tail)) ≡ 1 → IsNewest (into_small_at key v (Some tail) (forgotten test m)).machine
      newest_small (Some slot) one = absurd (omega (arith, one))
      newest_small None one = newest_tail (is_promoted tail.age) one

      newest_placed : (b : Bool) → one_unless (b || is_some (vacancy m) || goes_on (last_or None m.small)) ≡ 1
          → IsNewest (if b then into_main key (forgotten test m) else into_small key (forgotten test m)).machine
      newest_placed true one = absurd (omega (arith, one))
      newest_placed false one =
          subst (λ t. IsNewest (into_small_at key (vacancy m) t (forgotten test m)).machine) (sym last)
          (newest_small (vacancy m) (ap (λ t. one_unless (false || is_some (vacancy m) || goes_on t)) (sym last) ∙ one))

      newest_reused : (fresh : V) → IsNewest (placement test key m).machine → IsNewest (reused test key fresh m)
      newest_reused fresh newest =
          let p = placement test key m in
          elim (nat_lt p.slot (length m.values)) as (λ b. IsNewest (if b then p.machine else stored p.slot fresh p.machine)) [ true ↦ newest | false ↦ newest ]

    newest_evicted : (b : Bool) → one_unless (b || not (is_some (last_or None m.small))) ≡ 1
        → IsNewest (if b then victim_evicted (last_or None m.small) (from_victim m.main) m else tail_evicted (last_or None m.small) m)
    newest_evicted true one = absurd (omega (arith, one))
    newest_evicted false one = subst (λ t. IsNewest (tail_evicted t m)) (sym last) (newest_taken is tail.key m.history m.shares.history passes some)

module _ {K V : Type 0} (eq : K → K → Bool) (laws : IsEquivalence eq) (m : Machine K V) where
  -- a key that a call evicts from Small is remembered, if the history has room for any, and none is newer
  pub evicted_newest : (call : Call K V) (tail : SmallEntry K) → last_or None m.small ≡ Some tail → evictions_of eq call m ≡ 1 → 0 < m.shares.history
      → (is_remembered (eq tail.key) (after eq call m) ≡ true) × (newer (eq tail.key) (after eq call m).history ≡ 0)
  evicted_newest call tail last one some = by_call call one where
    wanted : (key : K) → ℕ
    wanted key = one_unless (goes_to_main (list_any (eq key) m.history) m || is_some (vacancy m) || goes_on (last_or None m.small))

    placed : (key : K) → wanted key ≡ 1 → IsNewest (eq tail.key) (placement (eq key) key m).machine
    placed key = newest_placed (eq tail.key) m tail last (laws.refl tail.key) some (eq key) key (goes_to_main (list_any (eq key) m.history) m)

    by_call : (call : Call K V) → evictions_of eq call m ≡ 1 → IsNewest (eq tail.key) (after eq call m)
    by_call (Put key value) one =
        newest_wanted (eq tail.key) (slot_of (eq key) m) (wanted key) (replaced_at (eq key) value (slot_of (eq key) m) m) (inserted (eq key) key value m) (placed key) one
    by_call (Get key) one = absurd (omega (arith, one))
    by_call (Peek key) one = absurd (omega (arith, one))
    by_call (Contains key) one = absurd (omega (arith, one))
    by_call (GetAt slot key) one = absurd (omega (arith, one))
    by_call (Set key value) one = absurd (omega (arith, one))
    by_call (With key value) one = newest_wanted (eq tail.key) (slot_of (eq key) m) (wanted key) (hit (eq key) m) (inserted (eq key) key value m) (placed key) one
    by_call (Try key (Some value)) one = newest_wanted (eq tail.key) (slot_of (eq key) m) (wanted key) (hit (eq key) m) (inserted (eq key) key value m) (placed key) one
    by_call (Try key None) one = absurd (omega (arith, one))
    by_call (SlotFor key fresh) one =
        newest_wanted (eq tail.key) (slot_of (eq key) m) (wanted key) (hit (eq key) m) (reused (eq key) key fresh m)
        (λ evicts. newest_reused (eq tail.key) m tail last (laws.refl tail.key) some (eq key) key fresh (placed key evicts)) one
    by_call (Remove key) one = absurd (omega (arith, one))
    by_call (Retain bits) one = absurd (omega (arith, one))
    by_call Clear one = absurd (omega (arith, one))
    by_call Evict one = newest_evicted (eq tail.key) m tail last (laws.refl tail.key) some (victim_leaves m) one
    by_call (Prefill values) one = absurd (omega (arith, one))
    by_call Len one = absurd (omega (arith, one))
    by_call IsEmpty one = absurd (omega (arith, one))
    by_call Capacity one = absurd (omega (arith, one))
