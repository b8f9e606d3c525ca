-- The second chance that a hit gives in Main: no entry whose bit is set is the victim while another's is clear.
use Rattle.std.proofs.Common.{◌≡◌, ℕ, ◌<◌, ◌≤◌, ◌==◌, Bool, true, false, ◌&&◌, List, [], ◌∷◌, ◌++◌, map, length, take, drop, Option, Some, None, refl, sym, ap, ◌∙◌, arith}
use Rattle.std.specs.Prelude.{if◌then◌else◌, is_some, nat_lt}
use Rattle.std.specs.Cmp.{IsEquivalence}
use Rattle.std.specs.List.{count_by, list_any, last_or}
use Rattle.std.proofs.lemmas.List.{length-drop}
use Rattle.std.proofs.lemmas.List.Sums.{sum_by-cons, sum_by-append, sum_by_push, sum_by-take-drop, sum_by-le-sum_by}
use Rattle.clock2q_machine.specs.Ages.{is_promoted}
use Rattle.clock2q_machine.specs.Shares.{main_share}
use Rattle.clock2q_machine.specs.Entries.{SmallEntry, MainEntry, set_front, from_victim, with_bit}
use Rattle.clock2q_machine.specs.Calls.{Call, Put, Get, Peek, Contains, GetAt, Set, With, Try, SlotFor, Remove, Retain, Clear, Evict, Prefill, Len, IsEmpty, Capacity}
use Rattle.clock2q_machine.specs.Machine.{Machine, hit, forgotten, stored, placement, inserted, reused, goes_to_main, into_main, into_small, into_small_at, evicting_tail, promoting_tail, replacing_victim, joining_main, slot_of, vacancy, victim_leaves, victim_evicted, tail_evicted, evicted}
use Rattle.clock2q_machine.specs.Steps.{is_at, replaced_at, after}
use Rattle.clock2q_machine.specs.Bounds.{set_bits, takes_out}
use Rattle.clock2q_machine.specs.Whole.{IsWhole}
use Rattle.clock2q_machine.proofs.Clock.{bits, bits-passed, victim_clear}
use Rattle.clock2q_machine.proofs.Whole.{one_if, weight}
use Rattle.clock2q_machine.proofs.Standing.{fewer, key_count, none_counted}
use Rattle.clock2q_machine.proofs.Entering.{weight-hit, weight-replaced}
use Rattle.clock2q_machine.proofs.Laws.{slot_stays}

module _ {K : Type 0} (is : K → Bool) where
  -- the number of entries of Main that pass the test, and of those whose bit is set
  abbrev passing : List (MainEntry K) → ℕ
  passing es = count_by (λ e. is e.key) es

  abbrev pub hit_passing : List (MainEntry K) → ℕ
  hit_passing es = count_by (λ e. is e.key && e.bit) es

  hit_fewer : (es : List (MainEntry K)) → hit_passing es ≤ passing es
  hit_fewer es = sum_by-le-sum_by (λ (e : MainEntry K). one_if (is e.key && e.bit)) (λ e. one_if (is e.key)) es (λ e. fewer (is e.key) e.bit)

  passing-cleared : (es : List (MainEntry K)) → passing (map (λ e. with_bit e false) es) ≡ passing es
  passing-cleared [] = refl
  passing-cleared (e ∷ es) = omega (arith, sum_by-cons (λ x. one_if (is x.key)) (with_bit e false) (map (λ x. with_bit x false) es), sum_by-cons (λ x. one_if (is x.key)) e es, passing-cleared es)

  no_bit : (a b : Bool) → b ≡ false → one_if (a && b) ≡ 0
  no_bit true true e = cc
  no_bit true false e = refl
  no_bit false b e = refl

  split_first : (x v : MainEntry K) (xs vs : List (MainEntry K)) → x ∷ xs ≡ v ∷ vs → (x ≡ v) × (xs ≡ vs)
  split_first x v xs vs e = (cc, cc)

  -- if some bit of Main is clear, an entry whose bit is set isn't the victim
  spared : (es : List (MainEntry K)) → bits es < length es → (victim : MainEntry K) (others : List (MainEntry K)) → from_victim es ≡ victim ∷ others → hit_passing es ≤ passing others
  spared es clear victim others choice = from (drop (set_front es) es) refl where
    cleared : List (MainEntry K)
    cleared = map (λ e. with_bit e false) (take (set_front es) es)

    from : (rest : List (MainEntry K)) → drop (set_front es) es ≡ rest → hit_passing es ≤ passing others
    from [] none =
        absurd (omega (arith, clear, bits-passed es, sum_by-take-drop (λ (e : MainEntry K). one_if e.bit) es (set_front es), ap (length {A = MainEntry K}) none, length-drop (set_front es) es))
    from (first ∷ rest) parts =
        let both = split_first first victim (rest ++ cleared) others (sym (ap (λ z. z ++ cleared) parts) ∙ choice) in
        let unset : first.bit ≡ false = ap (λ (e : MainEntry K). e.bit) both.0 ∙ victim_clear es victim others choice in
        let passed_ones = take (set_front es) es in
        omega (
          arith,
          sum_by-take-drop (λ (e : MainEntry K). one_if (is e.key && e.bit)) es (set_front es),
          ap hit_passing parts,
          sum_by-cons (λ (e : MainEntry K). one_if (is e.key && e.bit)) first rest,
          no_bit (is first.key) first.bit unset,
          hit_fewer passed_ones,
          hit_fewer rest,
          passing-cleared passed_ones,
          sum_by-append (λ (e : MainEntry K). one_if (is e.key)) rest cleared,
          ap passing both.1,
        )

module _ {K V : Type 0} where
  -- so it stays resident in an insertion
  spared_replacing : (is : K → Bool) (key : K) (m : Machine K V) (es : List (MainEntry K)) → from_victim m.main ≡ es
      → bits m.main < length m.main → hit_passing is m.main ≤ key_count is (replacing_victim key es m).machine
  spared_replacing is key m [] choice clear = omega (arith, hit_fewer is m.main)
  spared_replacing is key m (victim ∷ others) choice clear =
      omega (arith, spared is m.main clear victim others choice, sum_by_push (λ e. one_if (is e.key)) others (record { key = key; slot = victim.slot; bit = false }))

  spared_promoting : (is : K → Bool) (key : K) (tail : SmallEntry K) (m : Machine K V) (es : List (MainEntry K))
      → from_victim m.main ≡ es → bits m.main < length m.main → hit_passing is m.main ≤ key_count is (promoting_tail key tail es m).machine
  spared_promoting is key tail m [] choice clear = omega (arith, hit_fewer is m.main)
  spared_promoting is key tail m (victim ∷ others) choice clear =
      omega (arith, spared is m.main clear victim others choice, sum_by_push (λ e. one_if (is e.key)) others (record { key = tail.key; slot = tail.slot; bit = false }))

  spared_joining : (is : K → Bool) (key : K) (m : Machine K V) (o : Option ℕ) → hit_passing is m.main ≤ key_count is (joining_main key o m).machine
  spared_joining is key m None = omega (arith, hit_fewer is m.main)
  spared_joining is key m (Some slot) = omega (arith, hit_fewer is m.main, sum_by_push (λ e. one_if (is e.key)) m.main (record { key = key; slot = slot; bit = false }))

  spared_main : (is : K → Bool) (key : K) (m : Machine K V) (full : Bool) → bits m.main < length m.main
      → hit_passing is m.main ≤ key_count is (if full then replacing_victim key (from_victim m.main) m else joining_main key (vacancy m) m).machine
  spared_main is key m true clear = spared_replacing is key m (from_victim m.main) refl clear
  spared_main is key m false clear = spared_joining is key m (vacancy m)

  spared_small : (is : K → Bool) (key : K) (m : Machine K V) (v : Option ℕ) (t : Option (SmallEntry K))
      → bits m.main < length m.main → hit_passing is m.main ≤ key_count is (into_small_at key v t m).machine
  spared_small is key m (Some slot) t clear = omega (arith, hit_fewer is m.main)
  spared_small is key m None None clear = omega (arith, hit_fewer is m.main)
  spared_small is key m None (Some tail) clear =
      elim (is_promoted tail.age) as (λ b. hit_passing is m.main ≤ key_count is (if b then promoting_tail key tail (from_victim m.main) m else evicting_tail key tail m).machine)
      [ true ↦ spared_promoting is key tail m (from_victim m.main) refl clear | false ↦ omega (arith, hit_fewer is m.main) ]

  spared_placement : (is known : K → Bool) (key : K) (m : Machine K V) → bits m.main < length m.main → hit_passing is m.main ≤ key_count is (placement known key m).machine
  spared_placement is known key m clear =
      elim (goes_to_main (list_any known m.history) m) as (λ b. hit_passing is m.main ≤ key_count is (if b then into_main key (forgotten known m) else into_small key (forgotten known m)).machine)
      [ true ↦ spared_main is key (forgotten known m) (length m.main == main_share m.shares) clear | false ↦ spared_small is key (forgotten known m) (vacancy m) (last_or None m.small) clear ]

  -- and if none comes
  spared_evicting : (is : K → Bool) (m : Machine K V) (t : Option (SmallEntry K)) (es : List (MainEntry K)) → from_victim m.main ≡ es
      → bits m.main < length m.main → hit_passing is m.main ≤ key_count is (victim_evicted t es m)
  spared_evicting is m None [] choice clear = omega (arith, hit_fewer is m.main)
  spared_evicting is m (Some tail) [] choice clear = omega (arith, hit_fewer is m.main)
  spared_evicting is m None (victim ∷ others) choice clear = omega (arith, spared is m.main clear victim others choice)
  spared_evicting is m (Some tail) (victim ∷ others) choice clear =
      omega (arith, spared is m.main clear victim others choice, sum_by_push (λ e. one_if (is e.key)) others (record { key = tail.key; slot = tail.slot; bit = false }))

  spared_by_tail : (is : K → Bool) (m : Machine K V) (t : Option (SmallEntry K)) → hit_passing is m.main ≤ key_count is (tail_evicted t m)
  spared_by_tail is m None = omega (arith, hit_fewer is m.main)
  spared_by_tail is m (Some tail) = omega (arith, hit_fewer is m.main)

  spared_evicted : (is : K → Bool) (m : Machine K V) → bits m.main < length m.main → hit_passing is m.main ≤ key_count is (evicted m)
  spared_evicted is m clear =
      elim (victim_leaves m) as (λ b. hit_passing is m.main ≤ key_count is (if b then victim_evicted (last_or None m.small) (from_victim m.main) m else tail_evicted (last_or None m.small) m))
      [ true ↦ spared_evicting is m (last_or None m.small) (from_victim m.main) refl clear | false ↦ spared_by_tail is m (last_or None m.small) ]

  module _ (eq : K → K → Bool) (laws : IsEquivalence eq) (m : Machine K V) (h : IsWhole eq m) where
    module _ (k : K) (clear : set_bits m < length m.main) where
      stays_counted : (n : Machine K V) → ((w : K → ℕ → ℕ) → weight w n ≡ weight w m) → hit_passing (eq k) m.main ≤ key_count (eq k) n
      stays_counted n same = omega (arith, same (λ x s. one_if (eq k x)), hit_fewer (eq k) m.main)

      hit_fewer_all : hit_passing (eq k) m.main ≤ key_count (eq k) m
      hit_fewer_all = stays_counted m (λ w. refl)

      spared_wanted : (o : Option ℕ) (hits inserts : Machine K V) → hit_passing (eq k) m.main ≤ key_count (eq k) hits
          → hit_passing (eq k) m.main ≤ key_count (eq k) inserts → hit_passing (eq k) m.main ≤ key_count (eq k) (if is_some o then hits else inserts)
      spared_wanted None hits inserts stays enters = enters
      spared_wanted (Some slot) hits inserts stays enters = stays

      spared_reused : (key : K) (fresh : V) → hit_passing (eq k) m.main ≤ key_count (eq k) (reused (eq key) key fresh m)
      spared_reused key fresh =
          let p = placement (eq key) key m in
          elim (nat_lt p.slot (length m.values)) as (λ b. hit_passing (eq k) m.main ≤ key_count (eq k) (if b then p.machine else stored p.slot fresh p.machine))
          [ true ↦ spared_placement (eq k) (eq key) key m clear | false ↦ spared_placement (eq k) (eq key) key m clear ]

      spared_after : (call : Call K V) → takes_out call ≡ false → hit_passing (eq k) m.main ≤ key_count (eq k) (after eq call m)
      spared_after (Put key value) keeps =
          spared_wanted (slot_of (eq key) m) (replaced_at (eq key) value (slot_of (eq key) m) m) (inserted (eq key) key value m)
          (stays_counted (replaced_at (eq key) value (slot_of (eq key) m) m) (λ w. weight-replaced w (eq key) value (slot_of (eq key) m) m)) (spared_placement (eq k) (eq key) key m clear)
      spared_after (Get key) keeps = stays_counted (hit (eq key) m) (λ w. weight-hit w (eq key) m)
      spared_after (Peek key) keeps = hit_fewer_all
      spared_after (Contains key) keeps = hit_fewer_all
      spared_after (GetAt slot key) keeps =
          elim (is_at slot (slot_of (eq key) m)) as (λ b. hit_passing (eq k) m.main ≤ key_count (eq k) (if b then hit (eq key) m else m))
          [ true ↦ stays_counted (hit (eq key) m) (λ w. weight-hit w (eq key) m) | false ↦ hit_fewer_all ]
      spared_after (Set key value) keeps = stays_counted (replaced_at (eq key) value (slot_of (eq key) m) m) (λ w. weight-replaced w (eq key) value (slot_of (eq key) m) m)
      spared_after (With key value) keeps =
          spared_wanted (slot_of (eq key) m) (hit (eq key) m) (inserted (eq key) key value m)
          (stays_counted (hit (eq key) m) (λ w. weight-hit w (eq key) m)) (spared_placement (eq k) (eq key) key m clear)
      spared_after (Try key (Some value)) keeps =
          spared_wanted (slot_of (eq key) m) (hit (eq key) m) (inserted (eq key) key value m)
          (stays_counted (hit (eq key) m) (λ w. weight-hit w (eq key) m)) (spared_placement (eq k) (eq key) key m clear)
      spared_after (Try key None) keeps = stays_counted (hit (eq key) m) (λ w. weight-hit w (eq key) m)
      spared_after (SlotFor key fresh) keeps =
          spared_wanted (slot_of (eq key) m) (hit (eq key) m) (reused (eq key) key fresh m) (stays_counted (hit (eq key) m) (λ w. weight-hit w (eq key) m)) (spared_reused key fresh)
      spared_after (Remove key) keeps = cc
      spared_after (Retain keep) keeps = cc
      spared_after Clear keeps = cc
      spared_after Evict keeps = spared_evicted (eq k) m clear
      spared_after (Prefill values) keeps = hit_fewer_all
      spared_after Len keeps = hit_fewer_all
      spared_after IsEmpty keeps = hit_fewer_all
      spared_after Capacity keeps = hit_fewer_all

    -- if a bit of Main is clear, no key of Main whose bit is set leaves by a call that removes none
    pub second_chance : (call : Call K V) (k : K) → takes_out call ≡ false → set_bits m < length m.main → 0 < hit_passing (eq k) m.main → slot_of (eq k) (after eq call m) ≡ slot_of (eq k) m
    second_chance call k keeps clear some = by_slots (slot_of (eq k) m) refl (slot_of (eq k) (after eq call m)) refl where
      by_slots : (o : Option ℕ) → slot_of (eq k) m ≡ o → (p : Option ℕ) → slot_of (eq k) (after eq call m) ≡ p → p ≡ o
      by_slots None absent p found = absurd (omega (arith, none_counted (eq k) m absent, hit_fewer (eq k) m.main, some))
      by_slots (Some s) had None gone = absurd (omega (arith, none_counted (eq k) (after eq call m) gone, spared_after k clear call keeps, some))
      by_slots (Some s) had (Some t) found = ap Some (slot_stays eq laws m h call k s t had found)
