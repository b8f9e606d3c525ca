-- A call that removes nothing evicts at most one resident, which is known before the call.
use Rattle.std.proofs.Common.{◌≡◌, ℕ, ◌+◌, ◌-◌, ◌<◌, ◌≤◌, ◌==◌, Bool, true, false, ◌||◌, ◌&&◌, List, [], ◌∷◌, map, length, take, Option, Some, None, refl, sym, ap, ◌∙◌, subst, arith, eqb-true}
use Rattle.std.specs.Prelude.{IfSome, if◌then◌else◌, is_some, nat_lt, nat_le}
use Rattle.std.specs.Cmp.{IsEquivalence}
use Rattle.std.specs.List.{sum_by, count_by, list_any, last_or}
use Rattle.std.proofs.lemmas.Bool.{eqb-false, lt-ltb}
use Rattle.std.proofs.lemmas.List.Sums.{sum_by-cons, sum_by-append}
use Rattle.clock2q_machine.specs.Shares.{main_share}
use Rattle.clock2q_machine.specs.Ages.{is_promoted}
use Rattle.clock2q_machine.specs.Entries.{SmallEntry, MainEntry, first_of, from_victim}
use Rattle.clock2q_machine.specs.Calls.{Call, Put, Get, Peek, Contains, GetAt, Set, With, Try, SlotFor, Remove, Retain, Clear, Evict, Prefill, Len, IsEmpty, Capacity}
use Rattle.clock2q_machine.specs.Machine.{Machine, Placement, hit, forgotten, stored, placement, inserted, reused, goes_to_main, into_main, into_small, into_small_at, evicting_tail, promoting_tail, replacing_victim, joining_main, slot_of, vacancy, keeps_tail, victim_leaves, leaves_now}
use Rattle.clock2q_machine.specs.Steps.{replaced_at, is_at, after}
use Rattle.clock2q_machine.specs.Bounds.{takes_out, makes_room}
use Rattle.clock2q_machine.specs.Whole.{IsWhole}
use Rattle.clock2q_machine.specs.Leaving.{one_with, leaves_for_small, leaves_for, leaves_wanted, comes_wanted, next_victim, resident_with, leaver, comer, OneLeaves}
use Rattle.clock2q_machine.proofs.Weights.{sum_by-same, weight-from_victim, weight-behind, weight-admitted, weight-last, length-from_victim}
use Rattle.clock2q_machine.proofs.Whole.{one_if, some_is, none_is, weight, all_resident, small_share, tail_some, empty_small, whole-forgotten}
use Rattle.clock2q_machine.proofs.Standing.{none_counted, found_counted, found_at, absent_if, resident_once, counted_as}
use Rattle.clock2q_machine.proofs.Entering.{weight-hit, weight-replaced}
use Rattle.clock2q_machine.proofs.MachineInvariant.{lasting-after}
use Rattle.clock2q_machine.proofs.Evicted.{resident_weight, weight-evicted}
use Rattle.std.specs.Option.{option_map}

module _ {K V : Type 0} where
  -- at most one resident leaves, and a key enters
  abbrev Leaves : Option (K × ℕ) → K → Machine K V → Placement K V → Type 0
  Leaves out key m p = (w : K → ℕ → ℕ) → weight w p.machine + resident_weight w out ≡ weight w m + w key p.slot

  module _ (key : K) (m : Machine K V) where
    leaves_replacing : (victim : MainEntry K) (others : List (MainEntry K)) → from_victim m.main ≡ victim ∷ others
        → Leaves (Some (victim.key, victim.slot)) key m (replacing_victim key (victim ∷ others) m)
    leaves_replacing victim others choice w =
        let g : MainEntry K → ℕ = λ e. w e.key e.slot in
        omega (arith, weight-behind g (λ e bit. refl) key victim.slot others, sum_by-cons g victim others, ap (sum_by g) choice, weight-from_victim g (λ e bit. refl) m.main)

    leaves_joining : (slot : ℕ) → Leaves None key m (joining_main key (Some slot) m)
    leaves_joining slot w = omega (arith, weight-behind (λ e. w e.key e.slot) (λ e bit. refl) key slot m.main)

    leaves_admitted : (slot : ℕ) (tail : Option (SmallEntry K)) → Leaves None key m (into_small_at key (Some slot) tail m)
    leaves_admitted slot tail w = omega (arith, weight-admitted (λ e. w e.key e.slot) (λ e age. refl) m.shares.window key slot m.small)

    module _ (tail : SmallEntry K) (last : last_or None m.small ≡ Some tail) where
      abbrev front : List (SmallEntry K)
      front = take (length m.small - 1) m.small

      out_of_small : (w : K → ℕ → ℕ) → sum_by (λ e. w e.key e.slot) front + w tail.key tail.slot ≡ sum_by (λ e. w e.key e.slot) m.small
      out_of_small w = (weight-last (λ e. w e.key e.slot) None m.small tail (tail_some m.small tail last) last).0

      leaves_evicting : Leaves (Some (tail.key, tail.slot)) key m (evicting_tail key tail m)
      leaves_evicting w = omega (arith, weight-admitted (λ e. w e.key e.slot) (λ e age. refl) m.shares.window key tail.slot front, out_of_small w)

      leaves_promoting : (victim : MainEntry K) (others : List (MainEntry K)) → from_victim m.main ≡ victim ∷ others
          → Leaves (Some (victim.key, victim.slot)) key m (promoting_tail key tail (victim ∷ others) m)
      leaves_promoting victim others choice w =
          let g : MainEntry K → ℕ = λ e. w e.key e.slot in
          omega (
            arith,
            weight-admitted (λ e. w e.key e.slot) (λ e age. refl) m.shares.window key victim.slot front,
            out_of_small w,
            weight-behind g (λ e bit. refl) tail.key tail.slot others,
            sum_by-cons g victim others,
            ap (sum_by g) choice,
            weight-from_victim g (λ e bit. refl) m.main,
          )

  module _ (eq : K → K → Bool) (key : K) (m : Machine K V) (h : IsWhole eq m) where
    leaves_main : (b : Bool) → (length m.main == main_share m.shares) ≡ b → (es : List (MainEntry K)) → from_victim m.main ≡ es → (v : Option ℕ) → vacancy m ≡ v
        → Leaves (if b then first_of es else None) key m (if b then replacing_victim key es m else joining_main key v m)
    leaves_main true full [] choice v is =
        absurd (omega (arith, h.small_below, eqb-true (length m.main) (main_share m.shares) full, ap (length {A = MainEntry K}) choice, length-from_victim m.main))
    leaves_main true full (victim ∷ others) choice v is = leaves_replacing key m victim others choice
    leaves_main false room es choice None is = absurd (omega (arith, all_resident eq m h is, h.small_within, h.main_within, h.small_below, eqb-false (length m.main) (main_share m.shares) room))
    leaves_main false room es choice (Some slot) is = leaves_joining key m slot

    leaves_tail : (tail : SmallEntry K) → last_or None m.small ≡ Some tail → vacancy m ≡ None → (es : List (MainEntry K)) → from_victim m.main ≡ es
        → Leaves (if is_promoted tail.age then first_of es else Some (tail.key, tail.slot)) key m (if is_promoted tail.age then promoting_tail key tail es m else evicting_tail key tail m)
    leaves_tail tail last none es choice =
        elim (is_promoted tail.age)
        as (λ b. Leaves (if b then first_of es else Some (tail.key, tail.slot)) key m (if b then promoting_tail key tail es m else evicting_tail key tail m))
        [ true ↦ by_main es choice | false ↦ leaves_evicting key m tail last ] where
          by_main : (es : List (MainEntry K)) → from_victim m.main ≡ es → Leaves (first_of es) key m (promoting_tail key tail es m)
          by_main [] none_there = absurd (omega (arith, all_resident eq m h none, h.small_within, h.small_below, ap (length {A = MainEntry K}) none_there, length-from_victim m.main))
          by_main (victim ∷ others) choice = leaves_promoting key m tail last victim others choice

    leaves_small : (v : Option ℕ) → vacancy m ≡ v → (t : Option (SmallEntry K)) → last_or None m.small ≡ t → goes_to_main false m ≡ false
        → Leaves (leaves_for_small v t m.main) key m (into_small_at key v t m)
    leaves_small (Some slot) is t last goes = leaves_admitted key m slot t
    leaves_small None is None last goes =
        absurd (omega (
          arith,
          all_resident eq m h is,
          h.main_within,
          h.small_below,
          empty_small m.small last,
          small_share m.shares.small (is_some (vacancy m) && nat_le m.shares.small (length m.small)) goes,
        ))
    leaves_small None is (Some tail) last goes = leaves_tail tail last is (from_victim m.main) refl

  module _ (eq : K → K → Bool) (key : K) (m : Machine K V) (h : IsWhole eq m) where
    unknown_goes : (known a b : Bool) → (known || a || b) ≡ false → (false || a || b) ≡ false
    unknown_goes true a b e = cc
    unknown_goes false a b e = e

    -- in an insertion
    leaves_placed : Leaves (leaves_for (list_any (eq key) m.history) m) key m (placement (eq key) key m)
    leaves_placed w =
        let rest = forgotten (eq key) m in
        let whole = whole-forgotten eq m h (eq key) in
        (elim (goes_to_main (list_any (eq key) m.history) m) as (λ b. goes_to_main (list_any (eq key) m.history) m ≡ b →
        let p = if b then into_main key rest else into_small key rest in
        weight w p.machine + resident_weight w
        (if b then (if length m.main == main_share m.shares then first_of (from_victim m.main) else None) else
        leaves_for_small (vacancy m) (last_or None m.small) m.main)
        ≡ weight w m + w key p.slot) [
          | true ↦ λ _. leaves_main eq key rest whole (length m.main == main_share m.shares) refl (from_victim m.main) refl (vacancy m) refl w
          | false ↦ λ small. leaves_small eq key rest whole (vacancy m) refl (last_or None m.small) refl
              (unknown_goes (list_any (eq key) m.history) (m.shares.small == 0) (is_some (vacancy m) && nat_le m.shares.small (length m.small)) small) w
        ]) refl

-- The residents as a list.

module _ {K : Type 0} (is : K → ℕ → Bool) where
  count_small : (es : List (SmallEntry K)) → count_by (λ (r : K × ℕ). is r.0 r.1) (map (λ e. (e.key, e.slot)) es) ≡ sum_by (λ e. one_if (is e.key e.slot)) es
  count_small [] = refl
  count_small (e ∷ es) =
      omega (
        arith,
        sum_by-cons (λ (r : K × ℕ). one_if (is r.0 r.1)) (e.key, e.slot) (map (λ x. (x.key, x.slot)) es),
        sum_by-cons (λ (x : SmallEntry K). one_if (is x.key x.slot)) e es,
        count_small es,
      )

  count_main : (es : List (MainEntry K)) → count_by (λ (r : K × ℕ). is r.0 r.1) (map (λ e. (e.key, e.slot)) es) ≡ sum_by (λ e. one_if (is e.key e.slot)) es
  count_main [] = refl
  count_main (e ∷ es) =
      omega (
        arith,
        sum_by-cons (λ (r : K × ℕ). one_if (is r.0 r.1)) (e.key, e.slot) (map (λ x. (x.key, x.slot)) es),
        sum_by-cons (λ (x : MainEntry K). one_if (is x.key x.slot)) e es,
        count_main es,
      )

  one_weighed : (o : Option (K × ℕ)) → one_with is o ≡ resident_weight (λ k s. one_if (is k s)) o
  one_weighed None = refl
  one_weighed (Some r) = refl

module _ {K V : Type 0} (is : K → ℕ → Bool) (m : Machine K V) where
  pub counted_residents : resident_with is m ≡ weight (λ k s. one_if (is k s)) m
  counted_residents =
      omega (
        arith,
        sum_by-append (λ (r : K × ℕ). one_if (is r.0 r.1)) (map (λ e. (e.key, e.slot)) m.small) (map (λ e. (e.key, e.slot)) m.main),
        count_small is m.small,
        count_main is m.main,
      )

module _ {K V : Type 0} (eq : K → K → Bool) (m : Machine K V) (h : IsWhole eq m) where
  -- the residents after a call, as weights
  abbrev Weighs : Machine K V → Option (K × ℕ) → Option (K × ℕ) → Type 0
  Weighs n out come = (w : K → ℕ → ℕ) → weight w n + resident_weight w out ≡ weight w m + resident_weight w come

  weighs_same : (n : Machine K V) → ((w : K → ℕ → ℕ) → weight w n ≡ weight w m) → Weighs n None None
  weighs_same n same w = omega (arith, same w)

  weighs_wanted : (key : K) (o : Option ℕ) (hits inserts : Machine K V) → ((w : K → ℕ → ℕ) → weight w hits ≡ weight w m)
      → ((w : K → ℕ → ℕ) → weight w inserts ≡ weight w (placement (eq key) key m).machine)
      → Weighs (if is_some o then hits else inserts) (if is_some o then None else leaves_for (list_any (eq key) m.history) m) (if is_some o then None else Some (key, (placement (eq key) key m).slot))
  weighs_wanted key (Some slot) hits inserts same placed w = omega (arith, same w)
  weighs_wanted key None hits inserts same placed w = omega (arith, placed w, leaves_placed eq key m h w)

  weight-reused : (key : K) (fresh : V) (w : K → ℕ → ℕ) → weight w (reused (eq key) key fresh m) ≡ weight w (placement (eq key) key m).machine
  weight-reused key fresh w =
      let p = placement (eq key) key m in
      elim (nat_lt p.slot (length m.values)) as (λ b. weight w (if b then p.machine else stored p.slot fresh p.machine) ≡ weight w p.machine) [ true ↦ refl | false ↦ refl ]

  weighs : (call : Call K V) → takes_out call ≡ false → Weighs (after eq call m) (leaver eq call m) (comer eq call m)
  weighs (Put key value) keeps =
      weighs_wanted key (slot_of (eq key) m) (replaced_at (eq key) value (slot_of (eq key) m) m) (inserted (eq key) key value m)
      (λ w. weight-replaced w (eq key) value (slot_of (eq key) m) m) (λ w. refl)
  weighs (Get key) keeps = weighs_same (hit (eq key) m) (λ w. weight-hit w (eq key) m)
  weighs (Peek key) keeps = weighs_same m (λ w. refl)
  weighs (Contains key) keeps = weighs_same m (λ w. refl)
  weighs (GetAt slot key) keeps =
      elim (is_at slot (slot_of (eq key) m)) as (λ b. Weighs (if b then hit (eq key) m else m) None None)
      [ true ↦ weighs_same (hit (eq key) m) (λ w. weight-hit w (eq key) m) | false ↦ weighs_same m (λ w. refl) ]
  weighs (Set key value) keeps = weighs_same (replaced_at (eq key) value (slot_of (eq key) m) m) (λ w. weight-replaced w (eq key) value (slot_of (eq key) m) m)
  weighs (With key value) keeps = weighs_wanted key (slot_of (eq key) m) (hit (eq key) m) (inserted (eq key) key value m) (λ w. weight-hit w (eq key) m) (λ w. refl)
  weighs (Try key (Some value)) keeps = weighs_wanted key (slot_of (eq key) m) (hit (eq key) m) (inserted (eq key) key value m) (λ w. weight-hit w (eq key) m) (λ w. refl)
  weighs (Try key None) keeps = weighs_same (hit (eq key) m) (λ w. weight-hit w (eq key) m)
  weighs (SlotFor key fresh) keeps = weighs_wanted key (slot_of (eq key) m) (hit (eq key) m) (reused (eq key) key fresh m) (λ w. weight-hit w (eq key) m) (weight-reused key fresh)
  weighs (Remove key) keeps = cc
  weighs (Retain bits) keeps = cc
  weighs Clear keeps = cc
  weighs Evict keeps = λ w. omega (arith, weight-evicted m w)
  weighs (Prefill values) keeps = weighs_same (after eq (Prefill values) m) (λ w. refl)
  weighs Len keeps = weighs_same m (λ w. refl)
  weighs IsEmpty keeps = weighs_same m (λ w. refl)
  weighs Capacity keeps = weighs_same m (λ w. refl)

  -- the residents afterwards are those before, minus the victim, plus the key that enters
  pub one_leaves : (call : Call K V) → takes_out call ≡ false → OneLeaves eq call m
  one_leaves call keeps is =
      omega (
        arith,
        counted_residents is (after eq call m),
        counted_residents is m,
        one_weighed is (leaver eq call m),
        one_weighed is (comer eq call m),
        weighs call keeps (λ k s. one_if (is k s)),
      )

  -- which resident leaves for a key that isn't remembered doesn't depend on the key
  pub next_leaves : (key : K) → list_any (eq key) m.history ≡ false → slot_of (eq key) m ≡ None → leaves_wanted (eq key) m ≡ next_victim m
  next_leaves key forgotten absent = ap (λ o. if is_some o then None else leaves_for (list_any (eq key) m.history) m) absent ∙ ap (λ b. leaves_for b m) forgotten

  -- What follows for a single key.

  comes_absent : (is : K → Bool) (key : K) (o : Option ℕ) → slot_of is m ≡ o → (r : K × ℕ) → (if is_some o then None else Some (key, (placement is key m).slot)) ≡ Some r
      → (r.0 ≡ key) × (slot_of is m ≡ None)
  comes_absent is key (Some slot) found r come = absurd (none_is r come)
  comes_absent is key None absent r come = (ap (λ (x : K × ℕ). x.0) (some_is r (key, (placement is key m).slot) (sym come)), absent)

  comes_new : (key : K) (r : K × ℕ) → comes_wanted (eq key) key m ≡ Some r → slot_of (eq r.0) m ≡ None
  comes_new key r come = let both = comes_absent (eq key) key (slot_of (eq key) m) refl r come in subst (λ k. slot_of (eq k) m ≡ None) (sym both.0) both.1

  -- the key that enters wasn't resident
  pub comer_new : (call : Call K V) (r : K × ℕ) → comer eq call m ≡ Some r → slot_of (eq r.0) m ≡ None
  comer_new (Put key value) r come = comes_new key r come
  comer_new (Get key) r come = absurd (none_is r come)
  comer_new (Peek key) r come = absurd (none_is r come)
  comer_new (Contains key) r come = absurd (none_is r come)
  comer_new (GetAt slot key) r come = absurd (none_is r come)
  comer_new (Set key value) r come = absurd (none_is r come)
  comer_new (With key value) r come = comes_new key r come
  comer_new (Try key (Some value)) r come = comes_new key r come
  comer_new (Try key None) r come = absurd (none_is r come)
  comer_new (SlotFor key fresh) r come = comes_new key r come
  comer_new (Remove key) r come = absurd (none_is r come)
  comer_new (Retain bits) r come = absurd (none_is r come)
  comer_new Clear r come = absurd (none_is r come)
  comer_new Evict r come = absurd (none_is r come)
  comer_new (Prefill values) r come = absurd (none_is r come)
  comer_new Len r come = absurd (none_is r come)
  comer_new IsEmpty r come = absurd (none_is r come)
  comer_new Capacity r come = absurd (none_is r come)

  module _ (laws : IsEquivalence eq) (call : Call K V) (keeps : takes_out call ≡ false) where
    -- the victim isn't resident afterwards
    pub victim_gone : (r : K × ℕ) → leaver eq call m ≡ Some r → slot_of (eq r.0) (after eq call m) ≡ None
    victim_gone r out =
        let w : K → ℕ → ℕ = λ k s. one_if (eq r.0 k) in
        absent_if (eq r.0) (after eq call m)
        (omega (arith, weighs call keeps w, ap (resident_weight w) out, ap one_if (laws.refl r.0), at_most_one_comes (comer eq call m) refl)) where
          at_most_one_comes : (o : Option (K × ℕ)) → comer eq call m ≡ o → weight (λ k s. one_if (eq r.0 k)) m + resident_weight (λ k s. one_if (eq r.0 k)) o ≤ 1
          at_most_one_comes None come = omega (arith, resident_once eq m h r.0)
          at_most_one_comes (Some c) come =
              (elim (eq r.0 c.0) as (λ b. eq r.0 c.0 ≡ b → weight (λ k s. one_if (eq r.0 k)) m + one_if b ≤ 1) [
                | true ↦ λ same. omega (arith, counted_as eq m laws c.0 r.0 same, none_counted (eq c.0) m (comer_new call c come))
                | false ↦ λ _. omega (arith, resident_once eq m h r.0)
              ]) refl

    -- and each other resident is, at its slot
    pub others_stay : (k : K) (s : ℕ) → slot_of (eq k) m ≡ Some s → IfSome (leaver eq call m) (λ r. eq k r.0 ≡ false) → slot_of (eq k) (after eq call m) ≡ Some s
    others_stay k s found other =
        let n = after eq call m in
        found_at (eq k) n (resident_once eq n (lasting-after eq laws call m h) k) s
        (omega (arith, weighs call keeps (λ x at. one_if (eq k x && at == s)), found_counted (eq k) m s found, apart (leaver eq call m) other)) where
          apart : (o : Option (K × ℕ)) → IfSome o (λ r. eq k r.0 ≡ false) → resident_weight (λ x at. one_if (eq k x && at == s)) o ≡ 0
          apart None other = refl
          apart (Some r) other = ap (λ b. one_if (b && r.1 == s)) other

    -- Small's tail that was hit after its window isn't the victim.

    module _ (tail : SmallEntry K) (last : last_or None m.small ≡ Some tail) (goes : is_promoted tail.age ≡ true) where
      tail_counted : 0 < count_by (λ e. eq tail.key e.key) m.small
      tail_counted = omega (arith, (weight-last (λ e. one_if (eq tail.key e.key)) None m.small tail (tail_some m.small tail last) last).0, ap one_if (laws.refl tail.key))

      not_tail : (k : K) → 0 < count_by (λ (e : MainEntry K). eq k e.key) m.main → eq tail.key k ≡ false
      not_tail k in_main =
          (elim (eq tail.key k) as (λ b. eq tail.key k ≡ b → b ≡ false) [
            | true ↦ λ same. absurd (omega (
              arith,
              h.keys_once tail.key,
              tail_counted,
              in_main,
              sum_by-same (λ (e : MainEntry K). one_if (eq tail.key e.key)) (λ e. one_if (eq k e.key)) (λ e. ap one_if (laws.congr tail.key k e.key same)) m.main,
            ))
            | false ↦ λ _. refl
          ]) refl

      not_first : (es : List (MainEntry K)) → from_victim m.main ≡ es → IfSome (first_of es) (λ r. eq tail.key r.0 ≡ false)
      not_first [] choice = tt
      not_first (victim ∷ others) choice =
          let g : MainEntry K → ℕ = λ e. one_if (eq victim.key e.key) in
          not_tail victim.key (omega (arith, weight-from_victim g (λ e bit. refl) m.main, ap (sum_by g) choice, sum_by-cons g victim others, ap one_if (laws.refl victim.key)))

      not_for_main : (full : Bool) → IfSome (if full then first_of (from_victim m.main) else None) (λ r. eq tail.key r.0 ≡ false)
      not_for_main true = not_first (from_victim m.main) refl
      not_for_main false = tt

      not_for_small : (v : Option ℕ) → IfSome (leaves_for_small v (last_or None m.small) m.main) (λ r. eq tail.key r.0 ≡ false)
      not_for_small v = subst (λ t. IfSome (leaves_for_small v t m.main) (λ r. eq tail.key r.0 ≡ false)) (sym last) (by_vacancy v) where
        by_vacancy : (v : Option ℕ) → IfSome (leaves_for_small v (Some tail) m.main) (λ r. eq tail.key r.0 ≡ false)
        by_vacancy (Some slot) = tt
        by_vacancy None =
            subst (λ b. IfSome (if b then first_of (from_victim m.main) else Some (tail.key, tail.slot)) (λ r. eq tail.key r.0 ≡ false)) (sym goes) (not_first (from_victim m.main) refl)

      not_for : (remembered : Bool) → IfSome (leaves_for remembered m) (λ r. eq tail.key r.0 ≡ false)
      not_for remembered =
          elim (goes_to_main remembered m)
          as (λ b. IfSome
          (if b then (if length m.main == main_share m.shares then first_of (from_victim m.main) else None) else
          leaves_for_small (vacancy m) (last_or None m.small) m.main) (λ r. eq tail.key r.0 ≡ false))
          [ true ↦ not_for_main (length m.main == main_share m.shares) | false ↦ not_for_small (vacancy m) ]

      not_wanted : (key : K) (o : Option ℕ) → IfSome (if is_some o then None else leaves_for (list_any (eq key) m.history) m) (λ r. eq tail.key r.0 ≡ false)
      not_wanted key (Some slot) = tt
      not_wanted key None = not_for (list_any (eq key) m.history)

      not_now : 0 < length m.main → IfSome (leaves_now m) (λ r. eq tail.key r.0 ≡ false)
      not_now some =
          let goes_now : victim_leaves m ≡ true = ap (λ b. b && keeps_tail (last_or None m.small)) (lt-ltb 0 (length m.main) some) ∙ ap keeps_tail last ∙ goes in
          subst (λ b. IfSome (if b then first_of (from_victim m.main) else option_map (λ t. (t.key, t.slot)) (last_or None m.small)) (λ r. eq tail.key r.0 ≡ false)) (sym goes_now)
          (not_first (from_victim m.main) refl)

      not_leaver : (call : Call K V) → (makes_room call ≡ true → 0 < length m.main) → IfSome (leaver eq call m) (λ r. eq tail.key r.0 ≡ false)
      not_leaver (Put key value) main = not_wanted key (slot_of (eq key) m)
      not_leaver (Get key) main = tt
      not_leaver (Peek key) main = tt
      not_leaver (Contains key) main = tt
      not_leaver (GetAt slot key) main = tt
      not_leaver (Set key value) main = tt
      not_leaver (With key value) main = not_wanted key (slot_of (eq key) m)
      not_leaver (Try key (Some value)) main = not_wanted key (slot_of (eq key) m)
      not_leaver (Try key None) main = tt
      not_leaver (SlotFor key fresh) main = not_wanted key (slot_of (eq key) m)
      not_leaver (Remove key) main = tt
      not_leaver (Retain bits) main = tt
      not_leaver Clear main = tt
      not_leaver Evict main = not_now (main refl)
      not_leaver (Prefill values) main = tt
      not_leaver Len main = tt
      not_leaver IsEmpty main = tt
      not_leaver Capacity main = tt

      -- so no call that removes none evicts it, but for an eviction while Main is empty
      pub hit_tail_stays : (makes_room call ≡ true → 0 < length m.main) → (s : ℕ) → slot_of (eq tail.key) m ≡ Some s → slot_of (eq tail.key) (after eq call m) ≡ Some s
      hit_tail_stays main s found = others_stay tail.key s found (not_leaver call main)
