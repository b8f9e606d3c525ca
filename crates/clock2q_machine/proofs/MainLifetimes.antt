-- How long a key stays in Main: while the hand makes no more inspections than there are entries ahead of the key.
use Rattle.std.proofs.Common.{◌≡◌, ℕ, zero, suc, ◌+◌, ◌≤◌, ◌==◌, Bool, true, false, not, ◌||◌, ◌&&◌, List, [], ◌∷◌, ◌++◌, map, length, take, drop, Option, Some, None, refl, sym, ap, ◌∙◌, subst, arith}
use Rattle.std.specs.Prelude.{if◌then◌else◌, is_some, nat_lt}
use Rattle.std.specs.List.{list_any, last_or, AllByRecursion}
use Rattle.std.proofs.lemmas.List.{map-append, drop-map, take-map}
use Rattle.clock2q_machine.specs.Ages.{is_promoted}
use Rattle.clock2q_machine.specs.Shares.{main_share}
use Rattle.clock2q_machine.specs.Entries.{SmallEntry, MainEntry, main_hit, set_front, inspections, from_victim, behind_hand, with_bit}
use Rattle.clock2q_machine.specs.Calls.{Call, Put, Get, Peek, Contains, GetAt, Set, With, Try, SlotFor, Remove, Retain, Clear, Evict, Prefill, Len, IsEmpty, Capacity}
use Rattle.clock2q_machine.specs.Machine.{Machine, hit, forgotten, stored, placement, inserted, reused, goes_to_main, into_main, into_small, into_small_at, evicting_tail, promoting_tail, replacing_victim, joining_main, slot_of, vacancy, victim_leaves, victim_evicted, tail_evicted}
use Rattle.clock2q_machine.specs.Steps.{replaced_at, is_at, after, after_all}
use Rattle.clock2q_machine.specs.Bounds.{set_bits, goes_on, takes_victim, takes_out, inspections_of, main_victims, settings, summed}
use Rattle.clock2q_machine.specs.Lifetimes.{newer, ahead, is_in_main}
use Rattle.clock2q_machine.proofs.Clock.{run_bounded}

-- Main's keys from the hand.

module _ {K : Type 0} where
  abbrev keys_of : List (MainEntry K) → List K
  keys_of main = map (λ e. e.key) main

  same_keys : (f : MainEntry K → MainEntry K) → ((e : MainEntry K) → (f e).key ≡ e.key) → (main : List (MainEntry K)) → keys_of (map f main) ≡ keys_of main
  same_keys f keeps [] = refl
  same_keys f keeps (e ∷ main) = ap (λ k. k ∷ keys_of (map f main)) (keeps e) ∙ ap (λ l. e.key ∷ l) (same_keys f keeps main)

  keys_hit : (is : K → Bool) (main : List (MainEntry K)) → keys_of (main_hit is main) ≡ keys_of main
  keys_hit is main = same_keys (λ e. if is e.key then with_bit e true else e) (λ e. elim (is e.key) as (λ b. (if b then with_bit e true else e).key ≡ e.key) [ true ↦ refl | false ↦ refl ]) main

  keys_from_victim : (main : List (MainEntry K)) → keys_of (from_victim main) ≡ drop (set_front main) (keys_of main) ++ take (set_front main) (keys_of main)
  keys_from_victim main =
      let n = set_front main in
      map-append (λ (e : MainEntry K). e.key) (drop n main) (map (λ e. with_bit e false) (take n main))
      ∙ ap (λ l. l ++ keys_of (map (λ e. with_bit e false) (take n main))) (sym (drop-map (λ (e : MainEntry K). e.key) n main))
      ∙ ap (λ l. drop n (keys_of main) ++ l) (same_keys (λ e. with_bit e false) (λ e. refl) (take n main) ∙ sym (take-map (λ (e : MainEntry K). e.key) n main))

module _ {K : Type 0} (is : K → Bool) where
  -- the key is there, and this many others are ahead of it
  abbrev IsBehind : ℕ → List K → Type 0
  IsBehind a keys = (list_any is keys ≡ true) × (a ≤ newer is keys)

  -- those ahead leave
  behind_fewer : (n a : ℕ) (keys : List K) → IsBehind (n + a) keys → IsBehind a (drop n keys)
  behind_fewer zero a keys b = (b.0, omega (arith, b.1))
  behind_fewer (suc n) a [] b = cc
  behind_fewer (suc n) a (k ∷ keys) b =
      (elim (is k) as (λ c. (c || list_any is keys) ≡ true → suc n + a ≤ (if c then 0 else 1 + newer is keys) → IsBehind a (drop n keys)) [
        | true ↦ λ _ none. absurd (omega (arith, none))
        | false ↦ λ later enough. behind_fewer n a keys (later, omega (arith, enough))
      ]) b.0 b.1

  -- more come after it
  behind_more : (a : ℕ) (keys more : List K) → IsBehind a keys → IsBehind a (keys ++ more)
  behind_more a [] more b = cc
  behind_more a (k ∷ keys) more b =
      (elim (is k) as (λ c. (c || list_any is keys) ≡ true → a ≤ (if c then 0 else 1 + newer is keys)
      → ((c || list_any is (keys ++ more)) ≡ true) × (a ≤ (if c then 0 else 1 + newer is (keys ++ more)))) [
        | true ↦ λ _ enough. (refl, enough)
        | false ↦ λ later enough. let rest = behind_more (newer is keys) keys more (later, omega arith) in (rest.0, omega (arith, enough, rest.1))
      ]) b.0 b.1

  -- the hand chooses its victim
  behind_victim : (a : ℕ) (main others : List (MainEntry K)) (victim : MainEntry K) → from_victim main ≡ victim ∷ others → IsBehind (inspections main + a) (keys_of main) → IsBehind a (keys_of others)
  behind_victim a main others victim choice b =
      let n = set_front main in
      let rest = behind_fewer n (1 + a) (keys_of main) (b.0, omega (arith, b.1)) in
      behind_fewer 1 a (victim.key ∷ keys_of others)
      (subst (IsBehind (1 + a)) (sym (keys_from_victim main) ∙ ap keys_of choice) (behind_more (1 + a) (drop n (keys_of main)) (take n (keys_of main)) rest))

  -- and another key comes
  behind_new : (a : ℕ) (main : List (MainEntry K)) (key : K) (slot : ℕ) → IsBehind a (keys_of main) → IsBehind a (keys_of (behind_hand key slot main))
  behind_new a main key slot b =
      subst (IsBehind a) (sym (map-append (λ (e : MainEntry K). e.key) main (record { key = key; slot = slot; bit = false } ∷ []))) (behind_more a (keys_of main) (key ∷ []) b)

module _ {K V : Type 0} (is : K → Bool) where
  -- the key is in Main, and this many others are ahead of it there
  abbrev Waits : ℕ → Machine K V → Type 0
  Waits a m = IsBehind is a (keys_of m.main)

  waits_hit : (a : ℕ) (test : K → Bool) (m : Machine K V) → Waits a m → Waits a (hit test m)
  waits_hit a test m w = subst (IsBehind is a) (sym (keys_hit test m.main)) w

  waits_less : (n a : ℕ) (m : Machine K V) → Waits (n + a) m → Waits a m
  waits_less n a m w = (w.0, omega (arith, w.1))

  waits_main : (a : ℕ) (key : K) (m : Machine K V) (full : Bool) (es : List (MainEntry K)) → from_victim m.main ≡ es → (v : Option ℕ)
      → Waits ((if full then inspections m.main else 0) + a) m → Waits a (if full then replacing_victim key es m else joining_main key v m).machine
  waits_main a key m true [] choice v w = waits_less (inspections m.main) a m w
  waits_main a key m true (victim ∷ others) choice v w = behind_new is a others key victim.slot (behind_victim is a m.main others victim choice w)
  waits_main a key m false es choice None w = waits_less 0 a m w
  waits_main a key m false es choice (Some slot) w = behind_new is a m.main key slot (waits_less 0 a m w)

  waits_promoting : (a : ℕ) (key : K) (tail : SmallEntry K) (m : Machine K V) (es : List (MainEntry K)) → from_victim m.main ≡ es → Waits (inspections m.main + a) m
      → Waits a (promoting_tail key tail es m).machine
  waits_promoting a key tail m [] choice w = waits_less (inspections m.main) a m w
  waits_promoting a key tail m (victim ∷ others) choice w = behind_new is a others tail.key tail.slot (behind_victim is a m.main others victim choice w)

  waits_small : (a : ℕ) (key : K) (m : Machine K V) (v : Option ℕ) (t : Option (SmallEntry K))
      → Waits ((if not (is_some v) && goes_on t then inspections m.main else 0) + a) m → Waits a (into_small_at key v t m).machine
  waits_small a key m (Some slot) t w = waits_less 0 a m w
  waits_small a key m None None w = waits_less 0 a m w
  waits_small a key m None (Some tail) w =
      (elim (is_promoted tail.age) as (λ b. Waits ((if b then inspections m.main else 0) + a) m
      → Waits a (if b then promoting_tail key tail (from_victim m.main) m else evicting_tail key tail m).machine) [
        | true ↦ waits_promoting a key tail m (from_victim m.main) refl
        | false ↦ waits_less 0 a m
      ]) w

  waits_placed : (a : ℕ) (test : K → Bool) (key : K) (m : Machine K V) → Waits ((if takes_victim test m then inspections m.main else 0) + a) m → Waits a (placement test key m).machine
  waits_placed a test key m w =
      let full = length m.main == main_share m.shares in
      let goes = not (is_some (vacancy m)) && goes_on (last_or None m.small) in
      (elim (goes_to_main (list_any test m.history) m) as (λ b. Waits ((if (if b then full else goes) then inspections m.main else 0) + a) m
      → Waits a (if b then into_main key (forgotten test m) else into_small key (forgotten test m)).machine) [
        | true ↦ waits_main a key (forgotten test m) full (from_victim m.main) refl (vacancy m)
        | false ↦ waits_small a key (forgotten test m) (vacancy m) (last_or None m.small)
      ]) w

  waits_reused : (a : ℕ) (test : K → Bool) (key : K) (fresh : V) (m : Machine K V) → Waits a (placement test key m).machine → Waits a (reused test key fresh m)
  waits_reused a test key fresh m w =
      let p = placement test key m in
      elim (nat_lt p.slot (length m.values)) as (λ b. Waits a (if b then p.machine else stored p.slot fresh p.machine)) [ true ↦ w | false ↦ w ]

  waits_replaced : (a : ℕ) (test : K → Bool) (value : V) (o : Option ℕ) (m : Machine K V) → Waits a m → Waits a (replaced_at test value o m)
  waits_replaced a test value None m w = w
  waits_replaced a test value (Some slot) m w = waits_hit a test m w

  waits_wanted : (a n : ℕ) (o : Option ℕ) (m hits inserts : Machine K V) → (Waits a m → Waits a hits) → (Waits (n + a) m → Waits a inserts)
      → Waits ((if is_some o then 0 else n) + a) m → Waits a (if is_some o then hits else inserts)
  waits_wanted a n None m hits inserts when_hit when_inserted w = when_inserted w
  waits_wanted a n (Some slot) m hits inserts when_hit when_inserted w = when_hit (waits_less 0 a m w)

  waits_leaving : (a : ℕ) (m : Machine K V) (t : Option (SmallEntry K)) (es : List (MainEntry K)) → from_victim m.main ≡ es → Waits (inspections m.main + a) m → Waits a (victim_evicted t es m)
  waits_leaving a m None [] choice w = waits_less (inspections m.main) a m w
  waits_leaving a m (Some tail) [] choice w = waits_less (inspections m.main) a m w
  waits_leaving a m None (victim ∷ others) choice w = behind_victim is a m.main others victim choice w
  waits_leaving a m (Some tail) (victim ∷ others) choice w = behind_new is a others tail.key tail.slot (behind_victim is a m.main others victim choice w)

  waits_tail_evicted : (a : ℕ) (m : Machine K V) (t : Option (SmallEntry K)) → Waits a m → Waits a (tail_evicted t m)
  waits_tail_evicted a m None w = w
  waits_tail_evicted a m (Some tail) w = w

  module _ (eq : K → K → Bool) where
    waits_asked : (a : ℕ) (key : K) (m hits inserts : Machine K V) → (Waits a m → Waits a hits)
        → (Waits ((if takes_victim (eq key) m then inspections m.main else 0) + a) m → Waits a inserts)
        → Waits ((if is_some (slot_of (eq key) m) then 0 else (if takes_victim (eq key) m then inspections m.main else 0)) + a) m
        → Waits a (if is_some (slot_of (eq key) m) then hits else inserts)
    waits_asked a key m = waits_wanted a (if takes_victim (eq key) m then inspections m.main else 0) (slot_of (eq key) m) m

    waits_after : (a : ℕ) (call : Call K V) (m : Machine K V) → takes_out call ≡ false → Waits (inspections_of eq call m + a) m → Waits a (after eq call m)
    waits_after a (Put key value) m keeps w =
        waits_asked a key m (replaced_at (eq key) value (slot_of (eq key) m) m) (inserted (eq key) key value m)
        (waits_replaced a (eq key) value (slot_of (eq key) m) m) (waits_placed a (eq key) key m) w
    waits_after a (Get key) m keeps w = waits_hit a (eq key) m (waits_less 0 a m w)
    waits_after a (Peek key) m keeps w = waits_less 0 a m w
    waits_after a (Contains key) m keeps w = waits_less 0 a m w
    waits_after a (GetAt slot key) m keeps w =
        elim (is_at slot (slot_of (eq key) m)) as (λ b. Waits a (if b then hit (eq key) m else m)) [ true ↦ waits_hit a (eq key) m (waits_less 0 a m w) | false ↦ waits_less 0 a m w ]
    waits_after a (Set key value) m keeps w = waits_replaced a (eq key) value (slot_of (eq key) m) m (waits_less 0 a m w)
    waits_after a (With key value) m keeps w = waits_asked a key m (hit (eq key) m) (inserted (eq key) key value m) (waits_hit a (eq key) m) (waits_placed a (eq key) key m) w
    waits_after a (Try key (Some value)) m keeps w = waits_asked a key m (hit (eq key) m) (inserted (eq key) key value m) (waits_hit a (eq key) m) (waits_placed a (eq key) key m) w
    waits_after a (Try key None) m keeps w = waits_hit a (eq key) m (waits_less 0 a m w)
    waits_after a (SlotFor key fresh) m keeps w =
        waits_asked a key m (hit (eq key) m) (reused (eq key) key fresh m) (waits_hit a (eq key) m) (λ v. waits_reused a (eq key) key fresh m (waits_placed a (eq key) key m v)) w
    waits_after a (Remove key) m keeps w = cc
    waits_after a (Retain bits) m keeps w = cc
    waits_after a Clear m keeps w = cc
    waits_after a Evict m keeps w =
        (elim (victim_leaves m) as (λ b. Waits ((if b then inspections m.main else 0) + a) m
        → Waits a (if b then victim_evicted (last_or None m.small) (from_victim m.main) m else tail_evicted (last_or None m.small) m)) [
          | true ↦ waits_leaving a m (last_or None m.small) (from_victim m.main) refl
          | false ↦ λ v. waits_tail_evicted a m (last_or None m.small) (waits_less 0 a m v)
        ]) w
    waits_after a (Prefill values) m keeps w = waits_less 0 a m w
    waits_after a Len m keeps w = waits_less 0 a m w
    waits_after a IsEmpty m keeps w = waits_less 0 a m w
    waits_after a Capacity m keeps w = waits_less 0 a m w

    -- a key of Main stays there while the hand makes no more inspections than there are entries ahead of the key
    pub in_main_still : (calls : List (Call K V)) (m : Machine K V) → AllByRecursion (λ call. takes_out call ≡ false) calls
        → is_in_main is m ≡ true → summed eq (inspections_of eq) calls m ≤ ahead is m.main → is_in_main is (after_all eq calls m) ≡ true
    in_main_still [] m keeps in_it enough = in_it
    in_main_still (call ∷ calls) m keeps in_it enough =
        let n = after eq call m in
        let next : Waits (summed eq (inspections_of eq) calls n) n = waits_after (summed eq (inspections_of eq) calls n) call m keeps.0 (in_it, enough) in
        in_main_still calls n keeps.1 next.0 next.1

    -- so while Main's victims, the bits that hits set, and those that were set before are no more than these entries
    pub victims_pass : (calls : List (Call K V)) (m : Machine K V) → AllByRecursion (λ call. takes_out call ≡ false) calls
        → is_in_main is m ≡ true → summed eq (main_victims eq) calls m + summed eq (settings eq) calls m + set_bits m ≤ ahead is m.main
        → is_in_main is (after_all eq calls m) ≡ true
    victims_pass calls m keeps in_it enough = in_main_still calls m keeps in_it (omega (arith, run_bounded eq calls m, enough))
