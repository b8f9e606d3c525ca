-- Main's turnover in any calls that remove nothing: a key leaves it only for one that was hit in Small, or that belongs
-- in Main.
use Rattle.std.proofs.Common.{◌≡◌, ℕ, ◌+◌, ◌-◌, ◌≤◌, ◌==◌, Bool, true, false, not, ◌||◌, ◌&&◌, List, [], ◌∷◌, length, take, Option, Some, None, refl, ap, arith, eqb-true}
use Rattle.std.specs.Prelude.{if◌then◌else◌, is_some, nat_lt, nat_le}
use Rattle.std.specs.Cmp.{IsEquivalence}
use Rattle.std.specs.List.{list_any, last_or, AllByRecursion}
use Rattle.std.proofs.lemmas.Bool.{and_parts}
use Rattle.clock2q_machine.specs.Shares.{main_share}
use Rattle.clock2q_machine.specs.Ages.{is_promoted}
use Rattle.clock2q_machine.specs.Entries.{SmallEntry, MainEntry, from_victim}
use Rattle.clock2q_machine.specs.Calls.{Call, Put, Get, Peek, Contains, GetAt, Set, With, Try, SlotFor, Remove, Retain, Clear, Evict, Prefill, Len, IsEmpty, Capacity}
use Rattle.clock2q_machine.specs.Machine.{Machine, hit, reused, replacing_victim, joining_main, forgotten, stored, placement, inserted, goes_to_main, into_main, into_small, into_small_at, evicting_tail, promoting_tail, keeps_tail, slot_of, vacancy, victim_leaves, victim_evicted, tail_evicted}
use Rattle.clock2q_machine.specs.Steps.{is_at, replaced_at, after, after_all}
use Rattle.clock2q_machine.specs.Bounds.{takes_out, summed}
use Rattle.clock2q_machine.specs.Whole.{IsWhole}
use Rattle.clock2q_machine.specs.Scans.{set_in_small, left_main}
use Rattle.clock2q_machine.specs.Turnover.{settings_in_small, belongs_in_main, earned}
use Rattle.clock2q_machine.proofs.Whole.{one_if, tail_some}
use Rattle.clock2q_machine.proofs.MachineInvariant.{lasting-after, lasting-run}
use Rattle.clock2q_machine.proofs.Changes.{belongs_there}
use Rattle.clock2q_machine.proofs.LeftKeys.{shared, AreApart, shared_hit, shared_behind, lost_victim, lost_one, main_apart, left_or_shared}
use Rattle.clock2q_machine.proofs.PromotedKeys.{admitted_count, promoted_hit, promoted_without}

module _ {K V : Type 0} (eq : K → K → Bool) (entries : List (MainEntry K)) (apart : AreApart eq entries) where
  -- Main keeps these keys but for as many as the call earned, or Small had earned before and no longer has
  abbrev Turns : ℕ → Machine K V → Machine K V → Type 0
  Turns n m later = shared eq entries m.main + set_in_small later ≤ shared eq entries later.main + set_in_small m + n

  turns_hit : (is : K → Bool) (m : Machine K V) → Turns (settings_in_small is m) m (hit is m)
  turns_hit is m = omega (arith, promoted_hit is m.small, shared_hit eq entries is m.main)

  turns_replaced : (is : K → Bool) (value : V) (o : Option ℕ) (m : Machine K V) → Turns (settings_in_small is m) m (replaced_at is value o m)
  turns_replaced is value None m = omega arith
  turns_replaced is value (Some slot) m = turns_hit is m

  -- a key goes to Main
  turns_main : (key : K) (n : ℕ) (m : Machine K V) (full : Bool) → one_if full ≤ n → (es : List (MainEntry K)) → from_victim m.main ≡ es → (v : Option ℕ)
      → Turns n m (if full then replacing_victim key es m else joining_main key v m).machine
  turns_main key n m true paid [] choice v = omega arith
  turns_main key n m true paid (victim ∷ others) choice v = omega (arith, paid, lost_one eq entries apart m.main others victim choice key victim.slot)
  turns_main key n m false paid es choice None = omega arith
  turns_main key n m false paid es choice (Some slot) = omega (arith, shared_behind eq entries m.main key slot)

  -- a key goes to Small, and its tail leaves
  module _ (key : K) (tail : SmallEntry K) (m : Machine K V) (last : last_or None m.small ≡ Some tail) where
    turns_promoting : is_promoted tail.age ≡ true → (es : List (MainEntry K)) → from_victim m.main ≡ es → Turns 0 m (promoting_tail key tail es m).machine
    turns_promoting goes [] choice = omega arith
    turns_promoting goes (victim ∷ others) choice =
        omega (
          arith,
          lost_one eq entries apart m.main others victim choice tail.key tail.slot,
          promoted_without m.small tail (tail_some m.small tail last) last,
          ap one_if goes,
          admitted_count m.shares.window key victim.slot (take (length m.small - 1) m.small),
        )

    turns_tail : Turns 0 m (into_small_at key None (Some tail) m).machine
    turns_tail =
        (elim (is_promoted tail.age)
        as (λ b. is_promoted tail.age ≡ b → Turns 0 m (if b then promoting_tail key tail (from_victim m.main) m else evicting_tail key tail m).machine) [
          | true ↦ λ goes. turns_promoting goes (from_victim m.main) refl
          | false ↦ λ _. omega (arith, promoted_without m.small tail (tail_some m.small tail last) last, admitted_count m.shares.window key tail.slot (take (length m.small - 1) m.small))
        ]) refl

  turns_small : (key : K) (m : Machine K V) (v : Option ℕ) (t : Option (SmallEntry K)) → last_or None m.small ≡ t → Turns 0 m (into_small_at key v t m).machine
  turns_small key m (Some slot) t last = omega (arith, admitted_count m.shares.window key slot m.small)
  turns_small key m None None last = omega arith
  turns_small key m None (Some tail) last = turns_tail key tail m last

  -- a key goes to Main though it doesn't belong there only while Small is full and a slot is vacant: Main has room then
  turns_placed : (is : K → Bool) (key : K) (m : Machine K V) → IsWhole eq m → Turns (belongs_in_main is m) m (placement is key m).machine
  turns_placed is key m h =
      let rest : Machine K V = forgotten is m in
      (elim (goes_to_main (list_any is m.history) m)
      as (λ b. goes_to_main (list_any is m.history) m ≡ b → Turns (belongs_in_main is m) m (if b then into_main key rest else into_small key rest).machine) [
        | true ↦ λ goes.
            turns_main key (belongs_in_main is m) rest (length m.main == main_share m.shares) (paid (list_any is m.history || (m.shares.small == 0)) goes) (from_victim m.main) refl (vacancy m)
        | false ↦ λ _. omega (arith, turns_small key rest (vacancy m) (last_or None m.small) refl)
      ]) refl where
        paid : (b : Bool) → (b || (is_some (vacancy m) && nat_le m.shares.small (length m.small))) ≡ true → one_if (length m.main == main_share m.shares) ≤ one_if b
        paid b goes = by_full (length m.main == main_share m.shares) refl where
          by_full : (full : Bool) → (length m.main == main_share m.shares) ≡ full → one_if full ≤ one_if b
          by_full false room = omega arith
          by_full true filling = omega (arith, ap one_if (belongs_there eq m h (eqb-true (length m.main) (main_share m.shares) filling) b goes))

  turns_wanted : (is : K → Bool) (o : Option ℕ) (m hits inserts : Machine K V) → Turns (settings_in_small is m) m hits → Turns (belongs_in_main is m) m inserts
      → Turns (if is_some o then settings_in_small is m else belongs_in_main is m) m (if is_some o then hits else inserts)
  turns_wanted is None m hits inserts hit_turns in_turns = in_turns
  turns_wanted is (Some slot) m hits inserts hit_turns in_turns = hit_turns

  turns_reused : (n : ℕ) (is : K → Bool) (key : K) (fresh : V) (m : Machine K V) → Turns n m (placement is key m).machine → Turns n m (reused is key fresh m)
  turns_reused n is key fresh m turns =
      let p = placement is key m in
      elim (nat_lt p.slot (length m.values)) as (λ b. Turns n m (if b then p.machine else stored p.slot fresh p.machine)) [ true ↦ turns | false ↦ turns ]

  -- an eviction though no key comes
  turns_leaving : (m : Machine K V) (t : Option (SmallEntry K)) → last_or None m.small ≡ t → keeps_tail t ≡ true → (es : List (MainEntry K)) → from_victim m.main ≡ es
      → Turns (if not (is_some t) then 1 else 0) m (victim_evicted t es m)
  turns_leaving m None last keeps [] choice = omega arith
  turns_leaving m (Some tail) last keeps [] choice = omega arith
  turns_leaving m None last keeps (victim ∷ others) choice = omega (arith, lost_victim eq entries apart m.main others victim choice)
  turns_leaving m (Some tail) last keeps (victim ∷ others) choice =
      omega (
        arith,
        lost_one eq entries apart m.main others victim choice tail.key tail.slot,
        promoted_without m.small tail (tail_some m.small tail last) last,
        ap one_if keeps,
      )

  turns_tail_evicted : (m : Machine K V) (t : Option (SmallEntry K)) → last_or None m.small ≡ t → Turns 0 m (tail_evicted t m)
  turns_tail_evicted m None last = omega arith
  turns_tail_evicted m (Some tail) last = omega (arith, promoted_without m.small tail (tail_some m.small tail last) last)

  turns_evicted : (m : Machine K V) → Turns (earned eq Evict m) m (after eq Evict m)
  turns_evicted m =
      let tail = last_or None m.small in
      (elim (victim_leaves m) as (λ b. victim_leaves m ≡ b → Turns (if b && not (is_some tail) then 1 else 0) m (if b then victim_evicted tail (from_victim m.main) m else tail_evicted tail m)) [
        | true ↦ λ goes. turns_leaving m tail refl (and_parts (nat_lt 0 (length m.main)) (keeps_tail tail) goes).1 (from_victim m.main) refl
        | false ↦ λ _. turns_tail_evicted m tail refl
      ]) refl

  turns_after : (call : Call K V) (m : Machine K V) → IsWhole eq m → takes_out call ≡ false → Turns (earned eq call m) m (after eq call m)
  turns_after (Put key value) m h keeps =
      turns_wanted (eq key) (slot_of (eq key) m) m (replaced_at (eq key) value (slot_of (eq key) m) m) (inserted (eq key) key value m)
      (turns_replaced (eq key) value (slot_of (eq key) m) m) (turns_placed (eq key) key m h)
  turns_after (Get key) m h keeps = turns_hit (eq key) m
  turns_after (Peek key) m h keeps = omega arith
  turns_after (Contains key) m h keeps = omega arith
  turns_after (GetAt slot key) m h keeps =
      elim (is_at slot (slot_of (eq key) m)) as (λ b. Turns (if b then settings_in_small (eq key) m else 0) m (if b then hit (eq key) m else m)) [ true ↦ turns_hit (eq key) m | false ↦ omega arith ]
  turns_after (Set key value) m h keeps = turns_replaced (eq key) value (slot_of (eq key) m) m
  turns_after (With key value) m h keeps =
      turns_wanted (eq key) (slot_of (eq key) m) m (hit (eq key) m) (inserted (eq key) key value m) (turns_hit (eq key) m) (turns_placed (eq key) key m h)
  turns_after (Try key (Some value)) m h keeps =
      turns_wanted (eq key) (slot_of (eq key) m) m (hit (eq key) m) (inserted (eq key) key value m) (turns_hit (eq key) m) (turns_placed (eq key) key m h)
  turns_after (Try key None) m h keeps = turns_hit (eq key) m
  turns_after (SlotFor key fresh) m h keeps =
      turns_wanted (eq key) (slot_of (eq key) m) m (hit (eq key) m) (reused (eq key) key fresh m)
      (turns_hit (eq key) m) (turns_reused (belongs_in_main (eq key) m) (eq key) key fresh m (turns_placed (eq key) key m h))
  turns_after (Remove key) m h keeps = cc
  turns_after (Retain bits) m h keeps = cc
  turns_after Clear m h keeps = cc
  turns_after Evict m h keeps = turns_evicted m
  turns_after (Prefill values) m h keeps = omega arith
  turns_after Len m h keeps = omega arith
  turns_after IsEmpty m h keeps = omega arith
  turns_after Capacity m h keeps = omega arith

  turns_run : IsEquivalence eq → (calls : List (Call K V)) (m : Machine K V) → IsWhole eq m → AllByRecursion (λ call. takes_out call ≡ false) calls
      → Turns (summed eq (earned eq) calls m) m (after_all eq calls m)
  turns_run laws [] m h keeps = omega arith
  turns_run laws (call ∷ calls) m h keeps =
      let n = after eq call m in
      omega (arith, turns_after call m h keeps.0, turns_run laws calls n (lasting-after eq laws call m h) keeps.1)

module _ {K V : Type 0} (eq : K → K → Bool) (laws : IsEquivalence eq) (m : Machine K V) (h : IsWhole eq m) where
  -- in any calls that remove nothing no more keys of Main leave than Small had old keys that were hit, and than were
  -- earned since
  pub main_turnover : (calls : List (Call K V)) → AllByRecursion (λ call. takes_out call ≡ false) calls
      → left_main eq m (after_all eq calls m) ≤ set_in_small m + summed eq (earned eq) calls m
  main_turnover calls keeps =
      omega (
        arith,
        left_or_shared eq laws m h (after_all eq calls m) (lasting-run eq laws calls m h),
        turns_run eq m.main (main_apart eq laws m h) laws calls m h keeps,
      )
