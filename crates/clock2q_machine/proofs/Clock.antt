-- The CLOCK bound: an inspection by the hand is paid for by Main's victim, or by a bit that a hit had set.
use Rattle.std.proofs.Common.{◌≡◌, ℕ, suc, ◌+◌, ◌≤◌, ◌==◌, Bool, true, false, not, ◌&&◌, cond, List, [], ◌∷◌, ◌++◌, map, length, take, drop, Option, Some, None, refl, sym, ap, ◌∙◌, arith}
use Rattle.std.specs.Prelude.{if◌then◌else◌, is_some, nat_lt}
use Rattle.std.specs.List.{count_by, list_any, last_or, find}
use Rattle.std.proofs.lemmas.List.Sums.{sum_by-cons, sum_by-append, sum_by_push, sum_by-take-drop, sum_by-le-sum_by, count_by-le-length}
use Rattle.clock2q_machine.specs.Ages.{is_promoted}
use Rattle.clock2q_machine.specs.Shares.{Shares, main_share}
use Rattle.clock2q_machine.specs.Entries.{SmallEntry, MainEntry, main_hit, set_front, inspections, from_victim, behind_hand, with_bit}
use Rattle.clock2q_machine.specs.Calls.{Call, Put, Get, Peek, Contains, GetAt, Set, With, Try, SlotFor, Remove, Retain, Clear, Evict, Prefill, Len, IsEmpty, Capacity}
use Rattle.clock2q_machine.specs.Machine.{Machine, empty, hit, forgotten, stored, placement, inserted, reused, goes_to_main, into_main, into_small, into_small_at, evicting_tail, promoting_tail, replacing_victim, joining_main, slot_of, vacancy, vacated, vacated_all, removed_at, by_slot, victim_leaves, victim_evicted, tail_evicted, evicted}
use Rattle.clock2q_machine.specs.Steps.{refused_slots, is_at, replaced_at, after}
use Rattle.clock2q_machine.specs.Bounds.{set_bits, settings_of_hit, goes_on, takes_victim, takes_out, inspections_of, main_victims, settings, summed, IsPaid, IsClockBounded, IsRunBounded}
use Rattle.clock2q_machine.proofs.Weights.{sum_by-filter-le, count_by-not_found, length-from_victim}
use Rattle.clock2q_machine.proofs.Residents.{slot_in_small, slot_in_main, slot_among, neither}
use Rattle.clock2q_machine.proofs.Whole.{one_if, map_none}

module _ {K : Type 0} where
  abbrev pub bits : List (MainEntry K) → ℕ
  bits es = count_by (λ e. e.bit) es

  bits-cons : (e : MainEntry K) (es : List (MainEntry K)) → bits (e ∷ es) ≡ one_if e.bit + bits es
  bits-cons e es = sum_by-cons (λ x. one_if x.bit) e es

  bits-cleared : (es : List (MainEntry K)) → bits (map (λ e. with_bit e false) es) ≡ 0
  bits-cleared [] = refl
  bits-cleared (e ∷ es) = omega (arith, bits-cons (with_bit e false) (map (λ x. with_bit x false) es), bits-cleared es)

  -- the hand passes only set bits
  pub bits-passed : (es : List (MainEntry K)) → bits (take (set_front es) es) ≡ set_front es
  bits-passed [] = refl
  bits-passed (e ∷ es) =
      (elim e.bit as (λ b. e.bit ≡ b → bits (take (cond b (1 + set_front es) 0) (e ∷ es)) ≡ cond b (1 + set_front es) 0) [
        | true ↦ λ is_set. let n : 1 + set_front es ≡ suc (set_front es) = omega arith in rw n (omega (arith, bits-cons e (take (set_front es) es), ap one_if is_set, bits-passed es))
        | false ↦ λ _. refl
      ]) refl

  -- and clears them, and no others
  pub bits-from_victim : (es : List (MainEntry K)) → bits (from_victim es) + set_front es ≡ bits es
  bits-from_victim es =
      omega (
        arith,
        sum_by-append (λ e. one_if e.bit) (drop (set_front es) es) (map (λ e. with_bit e false) (take (set_front es) es)),
        bits-cleared (take (set_front es) es),
        bits-passed es,
        sum_by-take-drop (λ e. one_if e.bit) es (set_front es),
      )

  clear_first : (e : MainEntry K) (es : List (MainEntry K)) → bits (e ∷ es) ≡ 0 → e.bit ≡ false
  clear_first e es none =
      (elim e.bit as (λ b. e.bit ≡ b → b ≡ false) [ true ↦ λ is_set. absurd (omega (arith, bits-cons e es, ap one_if is_set, none)) | false ↦ λ _. refl ]) refl

  first_is : (e f : MainEntry K) (es fs : List (MainEntry K)) → e ∷ es ≡ f ∷ fs → e ≡ f
  first_is e f es fs same = cc

  first_behind : (es cleared : List (MainEntry K)) → bits cleared ≡ 0 → (victim : MainEntry K) (others : List (MainEntry K)) → drop (set_front es) es ++ cleared ≡ victim ∷ others → victim.bit ≡ false
  first_behind [] cleared none victim others is = clear_first victim others (ap bits (sym is) ∙ none)
  first_behind (e ∷ es) cleared none victim others is =
      (elim e.bit as (λ b. e.bit ≡ b → drop (cond b (1 + set_front es) 0) (e ∷ es) ++ cleared ≡ victim ∷ others → victim.bit ≡ false) [
        | true ↦ λ _ later. let n : 1 + set_front es ≡ suc (set_front es) = omega arith in first_behind es cleared none victim others (rw n at later)
        | false ↦ λ clear same. ap (λ (x : MainEntry K). x.bit) (sym (first_is e victim (es ++ cleared) others same)) ∙ clear
      ]) refl is

  -- the victim leaves with a clear bit
  pub victim_clear : (es : List (MainEntry K)) (victim : MainEntry K) (others : List (MainEntry K)) → from_victim es ≡ victim ∷ others → victim.bit ≡ false
  victim_clear es victim others choice = first_behind es (map (λ e. with_bit e false) (take (set_front es) es)) (bits-cleared (take (set_front es) es)) victim others choice

  -- the eviction of a victim
  paid_leaving : (es : List (MainEntry K)) (victim : MainEntry K) (others : List (MainEntry K)) → from_victim es ≡ victim ∷ others → inspections es + bits others ≡ 1 + bits es
  paid_leaving es victim others choice = omega (arith, bits-cons victim others, ap one_if (victim_clear es victim others choice), ap bits choice, bits-from_victim es)

  -- and the entry that is added behind the hand
  paid_victim : (es : List (MainEntry K)) (victim : MainEntry K) (others : List (MainEntry K))
      → from_victim es ≡ victim ∷ others → (key : K) (slot : ℕ) → inspections es + bits (behind_hand key slot others) ≡ 1 + bits es
  paid_victim es victim others choice key slot =
      omega (arith, sum_by_push (λ e. one_if e.bit) others (record { key = key; slot = slot; bit = false }), paid_leaving es victim others choice)

  -- if Main has no entry, one inspection is counted
  paid_none : (es : List (MainEntry K)) → from_victim es ≡ [] → inspections es + bits es ≡ 1 + bits es
  paid_none es choice = omega (arith, bits-from_victim es, ap (length {A = MainEntry K}) choice, length-from_victim es, count_by-le-length (λ (e : MainEntry K). e.bit) es)

  -- a hit
  bits-hit : (is : K → Bool) (es : List (MainEntry K)) → bits (main_hit is es) ≡ count_by (λ e. is e.key && not e.bit) es + bits es
  bits-hit is [] = refl
  bits-hit is (e ∷ es) =
      (elim (is e.key) as (λ a. (b : Bool) → is e.key ≡ a → e.bit ≡ b → bits ((if a then with_bit e true else e) ∷ main_hit is es) ≡ count_by (λ x. is x.key && not x.bit) (e ∷ es) + bits (e ∷ es)) [
        | true ↦ λ b found at. omega (
          arith,
          bits-cons (with_bit e true) (main_hit is es),
          bits-cons e es,
          sum_by-cons (λ x. one_if (is x.key && not x.bit)) e es,
          ap (λ x. one_if (x && not e.bit)) found,
          ap (λ x. one_if (not x)) at,
          ap one_if at,
          one_of b,
          bits-hit is es,
        )
        | false ↦ λ b other at. omega (
          arith,
          bits-cons e (main_hit is es),
          bits-cons e es,
          sum_by-cons (λ x. one_if (is x.key && not x.bit)) e es,
          ap (λ x. one_if (x && not e.bit)) other,
          bits-hit is es,
        )
      ]) e.bit refl refl where
        one_of : (b : Bool) → one_if (not b) + one_if b ≡ 1
        one_of true = refl
        one_of false = refl

module _ {K V : Type 0} where
  paid_replacing : (key : K) (m : Machine K V) (es : List (MainEntry K)) → from_victim m.main ≡ es → inspections m.main + set_bits (replacing_victim key es m).machine ≡ 1 + set_bits m
  paid_replacing key m [] choice = paid_none m.main choice
  paid_replacing key m (victim ∷ others) choice = paid_victim m.main victim others choice key victim.slot

  paid_promoting : (key : K) (tail : SmallEntry K) (m : Machine K V) (es : List (MainEntry K))
      → from_victim m.main ≡ es → inspections m.main + set_bits (promoting_tail key tail es m).machine ≡ 1 + set_bits m
  paid_promoting key tail m [] choice = paid_none m.main choice
  paid_promoting key tail m (victim ∷ others) choice = paid_victim m.main victim others choice tail.key tail.slot

  paid_joining : (key : K) (m : Machine K V) (o : Option ℕ) → set_bits (joining_main key o m).machine ≡ set_bits m
  paid_joining key m None = refl
  paid_joining key m (Some slot) = omega (arith, sum_by_push (λ e. one_if e.bit) m.main (record { key = key; slot = slot; bit = false }))

  paid_main : (key : K) (m : Machine K V) (full : Bool)
      → (if full then inspections m.main else 0) + set_bits (if full then replacing_victim key (from_victim m.main) m else joining_main key (vacancy m) m).machine
      ≡ (if full then 1 else 0) + set_bits m
  paid_main key m true = paid_replacing key m (from_victim m.main) refl
  paid_main key m false = omega (arith, paid_joining key m (vacancy m))

  paid_small : (key : K) (m : Machine K V) (v : Option ℕ) (t : Option (SmallEntry K))
      → (if not (is_some v) && goes_on t then inspections m.main else 0) + set_bits (into_small_at key v t m).machine ≡ (if not (is_some v) && goes_on t then 1 else 0) + set_bits m
  paid_small key m (Some slot) t = refl
  paid_small key m None None = refl
  paid_small key m None (Some tail) =
      elim (is_promoted tail.age) as (λ b. (if b then inspections m.main else 0) + set_bits
      (if b then promoting_tail key tail (from_victim m.main) m else evicting_tail key tail m).machine ≡ (if b then 1 else 0) + set_bits m)
      [ true ↦ paid_promoting key tail m (from_victim m.main) refl | false ↦ refl ]

  -- an insertion
  paid_placement : (is : K → Bool) (key : K) (m : Machine K V)
      → (if takes_victim is m then inspections m.main else 0) + set_bits (placement is key m).machine ≡ (if takes_victim is m then 1 else 0) + set_bits m
  paid_placement is key m =
      let full = length m.main == main_share m.shares in
      let goes = not (is_some (vacancy m)) && goes_on (last_or None m.small) in
      elim (goes_to_main (list_any is m.history) m)
      as (λ b. (if (if b then full else goes) then inspections m.main else 0) + set_bits (if b then into_main key (forgotten is m) else into_small key (forgotten is m)).machine
      ≡ (if (if b then full else goes) then 1 else 0) + set_bits m)
      [ true ↦ paid_main key (forgotten is m) full | false ↦ paid_small key (forgotten is m) (vacancy m) (last_or None m.small) ]

  -- an eviction though no key comes
  paid_evicting : (m : Machine K V) (t : Option (SmallEntry K)) (es : List (MainEntry K)) → from_victim m.main ≡ es → inspections m.main + set_bits (victim_evicted t es m) ≡ 1 + set_bits m
  paid_evicting m None [] choice = paid_none m.main choice
  paid_evicting m (Some tail) [] choice = paid_none m.main choice
  paid_evicting m None (victim ∷ others) choice = paid_leaving m.main victim others choice
  paid_evicting m (Some tail) (victim ∷ others) choice = paid_victim m.main victim others choice tail.key tail.slot

  bits-tail_evicted : (m : Machine K V) (t : Option (SmallEntry K)) → set_bits (tail_evicted t m) ≡ set_bits m
  bits-tail_evicted m None = refl
  bits-tail_evicted m (Some tail) = refl

  paid_evicted : (m : Machine K V) → (if victim_leaves m then inspections m.main else 0) + set_bits (evicted m) ≡ (if victim_leaves m then 1 else 0) + 0 + set_bits m
  paid_evicted m =
      elim (victim_leaves m) as (λ b. (if b then inspections m.main else 0)
      + set_bits (if b then victim_evicted (last_or None m.small) (from_victim m.main) m else tail_evicted (last_or None m.small) m) ≡ (if b then 1 else 0) + 0 + set_bits m)
      [ true ↦ omega (arith, paid_evicting m (last_or None m.small) (from_victim m.main) refl) | false ↦ omega (arith, bits-tail_evicted m (last_or None m.small)) ]

  -- a hit on a key that is not resident sets no bit
  pub no_settings : (is : K → Bool) (m : Machine K V) → slot_of is m ≡ None → settings_of_hit is m ≡ 0
  no_settings is m absent =
      let none = neither (slot_in_small is m.small) (slot_in_main is m.main) (sym (slot_among is m.small m.main) ∙ absent) in
      let in_main = count_by-not_found (λ e. is e.key) m.main (map_none (λ e. e.slot) (find (λ e. is e.key) m.main) none.1) in
      omega (arith, in_main, sum_by-le-sum_by (λ (e : MainEntry K). one_if (is e.key && not e.bit)) (λ e. one_if (is e.key)) m.main (λ e. fewer (is e.key) (not e.bit))) where
        fewer : (a b : Bool) → one_if (a && b) ≤ one_if a
        fewer true true = omega arith
        fewer true false = omega arith
        fewer false b = omega arith

  -- a call that hits the key if it is resident, and otherwise inserts it
  paid_wanted : (is : K → Bool) (o : Option ℕ) (m hits inserts : Machine K V) → slot_of is m ≡ o → set_bits hits ≡ set_bits (hit is m)
      → (if takes_victim is m then inspections m.main else 0) + set_bits inserts ≡ (if takes_victim is m then 1 else 0) + set_bits m
      → (if is_some o then 0 else (if takes_victim is m then inspections m.main else 0)) + set_bits (if is_some o then hits else inserts)
      ≡ (if is_some o then 0 else (if takes_victim is m then 1 else 0)) + settings_of_hit is m + set_bits m
  paid_wanted is (Some slot) m hits inserts found same paid = omega (arith, same, bits-hit is m.main)
  paid_wanted is None m hits inserts absent same paid = omega (arith, paid, no_settings is m absent)

  bits-replaced : (is : K → Bool) (value : V) (o : Option ℕ) (m : Machine K V) → slot_of is m ≡ o → set_bits (replaced_at is value o m) ≡ settings_of_hit is m + set_bits m
  bits-replaced is value None m absent = omega (arith, no_settings is m absent)
  bits-replaced is value (Some slot) m found = bits-hit is m.main

  bits-reused : (is : K → Bool) (key : K) (fresh : V) (m : Machine K V) → set_bits (reused is key fresh m) ≡ set_bits (placement is key m).machine
  bits-reused is key fresh m =
      let p = placement is key m in
      elim (nat_lt p.slot (length m.values)) as (λ b. set_bits (if b then p.machine else stored p.slot fresh p.machine) ≡ set_bits p.machine) [ true ↦ refl | false ↦ refl ]

  -- residents that are removed take their bits with them
  fewer_bits-vacated : (slots : List ℕ) (m : Machine K V) → set_bits (vacated_all slots m) ≤ set_bits m
  fewer_bits-vacated [] m = omega arith
  fewer_bits-vacated (slot ∷ slots) m = omega (arith, fewer_bits-vacated slots (vacated slot m), sum_by-filter-le (λ e. one_if e.bit) (λ (e : MainEntry K). not (e.slot == slot)) m.main)

  fewer_bits-removed : (is : K → Bool) (o : Option ℕ) (m : Machine K V) → set_bits (removed_at is o m) ≤ set_bits m
  fewer_bits-removed is None m = omega arith
  fewer_bits-removed is (Some slot) m = fewer_bits-vacated (slot ∷ []) m

  module _ (eq : K → K → Bool) where
    paid_insertion : (key : K) (value : V) (m : Machine K V)
        → (if takes_victim (eq key) m then inspections m.main else 0) + set_bits (inserted (eq key) key value m) ≡ (if takes_victim (eq key) m then 1 else 0) + set_bits m
    paid_insertion key value m = paid_placement (eq key) key m

    -- each inspection is paid for, exactly if the call removes nothing
    pub paid : (call : Call K V) (m : Machine K V) → takes_out call ≡ false → IsPaid eq call m
    paid (Put key value) m stays =
        paid_wanted (eq key) (slot_of (eq key) m) m (replaced_at (eq key) value (slot_of (eq key) m) m) (inserted (eq key) key value m)
        refl (bits-replaced (eq key) value (slot_of (eq key) m) m refl ∙ sym (bits-hit (eq key) m.main)) (paid_insertion key value m)
    paid (Get key) m stays = omega (arith, bits-hit (eq key) m.main)
    paid (Peek key) m stays = refl
    paid (Contains key) m stays = refl
    paid (GetAt slot key) m stays =
        elim (is_at slot (slot_of (eq key) m)) as (λ b. 0 + set_bits (if b then hit (eq key) m else m) ≡ 0 + (if b then settings_of_hit (eq key) m else 0) + set_bits m)
        [ true ↦ omega (arith, bits-hit (eq key) m.main) | false ↦ refl ]
    paid (Set key value) m stays = omega (arith, bits-replaced (eq key) value (slot_of (eq key) m) m refl)
    paid (With key value) m stays = paid_wanted (eq key) (slot_of (eq key) m) m (hit (eq key) m) (inserted (eq key) key value m) refl refl (paid_insertion key value m)
    paid (Try key (Some value)) m stays = paid_wanted (eq key) (slot_of (eq key) m) m (hit (eq key) m) (inserted (eq key) key value m) refl refl (paid_insertion key value m)
    paid (Try key None) m stays = omega (arith, bits-hit (eq key) m.main)
    paid (SlotFor key fresh) m stays =
        paid_wanted (eq key) (slot_of (eq key) m) m (hit (eq key) m) (reused (eq key) key fresh m) refl refl (omega (arith, bits-reused (eq key) key fresh m, paid_placement (eq key) key m))
    paid (Remove key) m stays = cc
    paid (Retain keep) m stays = cc
    paid Clear m stays = cc
    paid Evict m stays = paid_evicted m
    paid (Prefill values) m stays = refl
    paid Len m stays = refl
    paid IsEmpty m stays = refl
    paid Capacity m stays = refl

    paid_bounded : (call : Call K V) (m : Machine K V) → takes_out call ≡ false → IsClockBounded eq call m
    paid_bounded call m stays = omega (arith, paid call m stays)

    -- the bound of one call
    pub clock_bounded : (call : Call K V) (m : Machine K V) → IsClockBounded eq call m
    clock_bounded (Put key value) m = paid_bounded (Put key value) m refl
    clock_bounded (Get key) m = paid_bounded (Get key) m refl
    clock_bounded (Peek key) m = paid_bounded (Peek key) m refl
    clock_bounded (Contains key) m = paid_bounded (Contains key) m refl
    clock_bounded (GetAt slot key) m = paid_bounded (GetAt slot key) m refl
    clock_bounded (Set key value) m = paid_bounded (Set key value) m refl
    clock_bounded (With key value) m = paid_bounded (With key value) m refl
    clock_bounded (Try key value) m = paid_bounded (Try key value) m refl
    clock_bounded (SlotFor key fresh) m = paid_bounded (SlotFor key fresh) m refl
    clock_bounded (Remove key) m = omega (arith, fewer_bits-removed (eq key) (slot_of (eq key) m) m)
    clock_bounded (Retain keep) m = omega (arith, fewer_bits-vacated (refused_slots keep (map (λ r. r.1) (by_slot m))) m)
    clock_bounded Clear m = omega arith
    clock_bounded Evict m = paid_bounded Evict m refl
    clock_bounded (Prefill values) m = paid_bounded (Prefill values) m refl
    clock_bounded Len m = paid_bounded Len m refl
    clock_bounded IsEmpty m = paid_bounded IsEmpty m refl
    clock_bounded Capacity m = paid_bounded Capacity m refl

    -- and of a run
    pub run_bounded : (calls : List (Call K V)) (m : Machine K V) → IsRunBounded eq calls m
    run_bounded [] m = omega arith
    run_bounded (call ∷ calls) m = omega (arith, clock_bounded call m, run_bounded calls (after eq call m))

    -- from a new cache there are no more inspections than victims of Main and bits that hits set
    pub new_run_bounded : (shares : Shares) (calls : List (Call K V))
        → summed eq (inspections_of eq) calls (empty shares) ≤ summed eq (main_victims eq) calls (empty shares) + summed eq (settings eq) calls (empty shares)
    new_run_bounded shares calls = omega (arith, run_bounded calls (empty shares))
