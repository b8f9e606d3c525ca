-- How long a key stays: in Small while fewer keys are admitted than are older, and in the history while Small evicts
-- fewer than there is room for.
use Rattle.std.proofs.Common.{◌≡◌, ℕ, zero, suc, ◌+◌, ◌-◌, ◌<◌, ◌≤◌, ◌==◌, Bool, true, false, not, ◌||◌, cond, List, [], ◌∷◌, map, length, take, Option, Some, None, refl, sym, ap, ◌∙◌, subst, arith}
use Rattle.std.specs.Prelude.{if◌then◌else◌, is_some, nat_lt}
use Rattle.std.specs.Cmp.{IsEquivalence}
use Rattle.std.specs.List.{list_any, last_or, filter, AllByRecursion}
use Rattle.std.proofs.lemmas.List.{length-map}
use Rattle.clock2q_machine.specs.Shares.{main_share}
use Rattle.clock2q_machine.specs.Ages.{touched, grown_older, is_promoted}
use Rattle.clock2q_machine.specs.Entries.{SmallEntry, MainEntry, small_admitted, from_victim, with_age}
use Rattle.clock2q_machine.specs.Calls.{Call, Put, Get, Peek, Contains, GetAt, Set, With, Try, SlotFor, Remove, Retain, Clear, Evict, Prefill, Len, IsEmpty, Capacity}
use Rattle.clock2q_machine.specs.Machine.{Machine, hit, forgotten, stored, placement, inserted, reused, goes_to_main, into_main, into_small, into_small_at, evicting_tail, promoting_tail, replacing_victim, joining_main, slot_of, vacancy, vacated, vacated_all, victim_leaves, victim_evicted, tail_evicted, removed_at, by_slot}
use Rattle.clock2q_machine.specs.Steps.{refused_slots, replaced_at, is_at, after, after_all}
use Rattle.clock2q_machine.specs.Bounds.{goes_on, makes_room, summed}
use Rattle.clock2q_machine.specs.Lifetimes.{older, newer, is_in_small, is_remembered, admissions_of, evictions_of, LetsBe}

or_right : (a b : Bool) → b ≡ true → (a || b) ≡ true
or_right true b is = refl
or_right false b is = is

-- Small's keys that are older.

module _ {K : Type 0} (is : K → Bool) where
  abbrev there : List (SmallEntry K) → Bool
  there small = list_any (λ e. is e.key) small

  older-le-length : (small : List (SmallEntry K)) → older is small ≤ length small
  older-le-length [] = omega arith
  older-le-length (e ∷ small) = elim (is e.key) as (λ b. (if b then length small else older is small) ≤ suc (length small)) [ true ↦ omega arith | false ↦ omega (arith, older-le-length small) ]

  -- a change of ages
  module _ (f : SmallEntry K → SmallEntry K) (keeps : (e : SmallEntry K) → (f e).key ≡ e.key) where
    there-map : (small : List (SmallEntry K)) → there (map f small) ≡ there small
    there-map [] = refl
    there-map (e ∷ small) = ap (λ k. is k || there (map f small)) (keeps e) ∙ ap (λ b. is e.key || b) (there-map small)

    older-map : (small : List (SmallEntry K)) → older is (map f small) ≡ older is small
    older-map [] = refl
    older-map (e ∷ small) =
        ap (λ k. if is k then length (map f small) else older is (map f small)) (keeps e)
        ∙ ap (λ n. if is e.key then n else older is (map f small)) (length-map small f)
        ∙ ap (λ n. if is e.key then length small else n) (older-map small)

  -- Small without its tail, if the tail is older than the key
  without_tail : (small : List (SmallEntry K)) → 0 < older is small
      → (there (take (length small - 1) small) ≡ true) × (older is (take (length small - 1) small) + 1 ≡ older is small)
  without_tail [] some = absurd (omega (arith, some))
  without_tail (e ∷ []) some =
      (elim (is e.key) as (λ b. 0 < (if b then 0 else 0) → (there (take (1 - 1) (e ∷ [])) ≡ true) × (older is (take (1 - 1) (e ∷ [])) + 1 ≡ (if b then 0 else 0)))
      [ true ↦ λ none. absurd (omega (arith, none)) | false ↦ λ none. absurd (omega (arith, none)) ]) some
  without_tail (e ∷ s ∷ small) some =
      let n : suc (suc (length small)) - 1 ≡ suc (suc (length small) - 1) = omega arith in
      let rest : List (SmallEntry K) = take (suc (length small) - 1) (s ∷ small) in
      let shorter : length rest + 1 ≡ suc (length small) = length_without s small in
      subst (λ k. (there (take k (e ∷ s ∷ small)) ≡ true) × (older is (take k (e ∷ s ∷ small)) + 1 ≡ older is (e ∷ s ∷ small))) (sym n)
      ((elim (is e.key) as (λ b. 0 < (if b then suc (length small) else older is (s ∷ small))
      → ((b || there rest) ≡ true) × ((if b then length rest else older is rest) + 1 ≡ (if b then suc (length small) else older is (s ∷ small)))) [
        | true ↦ λ _. (refl, shorter)
        | false ↦ λ more. without_tail (s ∷ small) more
      ]) some) where
        length_without : (s : SmallEntry K) (small : List (SmallEntry K)) → length (take (suc (length small) - 1) (s ∷ small)) + 1 ≡ suc (length small)
        length_without s [] = refl
        length_without s (t ∷ small) =
            let n : suc (suc (length small)) - 1 ≡ suc (suc (length small) - 1) = omega arith in
            subst (λ k. length (take k (s ∷ t ∷ small)) + 1 ≡ suc (suc (length small))) (sym n) (omega (arith, length_without t small))

module _ {K V : Type 0} (is : K → Bool) where
  -- the key is in Small, and this many keys there are older
  abbrev pub Stays : ℕ → Machine K V → Type 0
  Stays a m = (is_in_small is m ≡ true) × (a ≤ older is m.small)

  stays_admitted : (a : ℕ) (key : K) (slot : ℕ) (m : Machine K V) (small : List (SmallEntry K)) → there is small ≡ true → a ≤ older is small
      → (there is (small_admitted m.shares.window key slot small) ≡ true) × (a ≤ older is (small_admitted m.shares.window key slot small))
  stays_admitted a key slot m small in_it enough =
      let grow : SmallEntry K → SmallEntry K = λ e. with_age e (grown_older m.shares.window e.age) in
      let rest : List (SmallEntry K) = map grow small in (
        or_right (is key) (there is rest) (there-map is grow (λ e. refl) small ∙ in_it),
        elim (is key) as (λ b. a ≤ (if b then length rest else older is rest))
            [ true ↦ omega (arith, enough, older-map is grow (λ e. refl) small, older-le-length is rest) | false ↦ omega (arith, enough, older-map is grow (λ e. refl) small) ],
      )

  stays_hit : (a : ℕ) (test : K → Bool) (m : Machine K V) → Stays a m → Stays a (hit test m)
  stays_hit a test m stays =
      let touch : SmallEntry K → SmallEntry K = λ e. if test e.key then with_age e (touched e.age) else e in
      let keeps : (e : SmallEntry K) → (touch e).key ≡ e.key = λ e. elim (test e.key) as (λ b. (if b then with_age e (touched e.age) else e).key ≡ e.key) [ true ↦ refl | false ↦ refl ] in
      (there-map is touch keeps m.small ∙ stays.0, omega (arith, stays.1, older-map is touch keeps m.small))

  stays_replaced : (a : ℕ) (test : K → Bool) (value : V) (o : Option ℕ) (m : Machine K V) → Stays a m → Stays a (replaced_at test value o m)
  stays_replaced a test value None m stays = stays
  stays_replaced a test value (Some slot) m stays = stays_hit a test m stays

  -- a key goes to Main
  stays_main : (a : ℕ) (key : K) (m : Machine K V) (full : Bool) (es : List (MainEntry K)) (v : Option ℕ) → Stays a m
      → Stays a (if full then replacing_victim key es m else joining_main key v m).machine
  stays_main a key m true [] v stays = stays
  stays_main a key m true (victim ∷ others) v stays = stays
  stays_main a key m false es None stays = stays
  stays_main a key m false es (Some slot) stays = stays

  -- a key goes to Small
  stays_tail : (a : ℕ) (key : K) (tail : SmallEntry K) (m : Machine K V) (es : List (MainEntry K)) (b : Bool) → Stays (1 + a) m
      → Stays a (if b then promoting_tail key tail es m else evicting_tail key tail m).machine
  stays_tail a key tail m [] true stays = (stays.0, omega (arith, stays.1))
  stays_tail a key tail m (victim ∷ others) true stays =
      let out = without_tail is m.small (omega (arith, stays.1)) in
      stays_admitted a key victim.slot m (take (length m.small - 1) m.small) out.0 (omega (arith, out.1, stays.1))
  stays_tail a key tail m es false stays =
      let out = without_tail is m.small (omega (arith, stays.1)) in
      stays_admitted a key tail.slot m (take (length m.small - 1) m.small) out.0 (omega (arith, out.1, stays.1))

  stays_small : (a : ℕ) (key : K) (m : Machine K V) (v : Option ℕ) (t : Option (SmallEntry K)) → Stays (1 + a) m → Stays a (into_small_at key v t m).machine
  stays_small a key m (Some slot) t stays = stays_admitted a key slot m m.small stays.0 (omega (arith, stays.1))
  stays_small a key m None None stays = (stays.0, omega (arith, stays.1))
  stays_small a key m None (Some tail) stays = stays_tail a key tail m (from_victim m.main) (is_promoted tail.age) stays

  stays_placed : (a : ℕ) (test : K → Bool) (key : K) (m : Machine K V) (b : Bool) → Stays ((if b then 0 else 1) + a) m
      → Stays a (if b then into_main key (forgotten test m) else into_small key (forgotten test m)).machine
  stays_placed a test key m true stays = stays_main a key (forgotten test m) (length m.main == main_share m.shares) (from_victim m.main) (vacancy m) (stays.0, omega (arith, stays.1))
  stays_placed a test key m false stays = stays_small a key (forgotten test m) (vacancy m) (last_or None m.small) stays

  stays_inserted : (a : ℕ) (test : K → Bool) (key : K) (m : Machine K V) → Stays ((if goes_to_main (list_any test m.history) m then 0 else 1) + a) m → Stays a (placement test key m).machine
  stays_inserted a test key m stays = stays_placed a test key m (goes_to_main (list_any test m.history) m) stays

  stays_reused : (a : ℕ) (test : K → Bool) (key : K) (fresh : V) (m : Machine K V) → Stays a (placement test key m).machine → Stays a (reused test key fresh m)
  stays_reused a test key fresh m stays =
      let p = placement test key m in
      elim (nat_lt p.slot (length m.values)) as (λ b. Stays a (if b then p.machine else stored p.slot fresh p.machine)) [ true ↦ stays | false ↦ stays ]

  stays_wanted : (a : ℕ) (test : K → Bool) (o : Option ℕ) (m hits inserts : Machine K V) → (Stays a m → Stays a hits)
      → (Stays ((if goes_to_main (list_any test m.history) m then 0 else 1) + a) m → Stays a inserts)
      → Stays ((if is_some o then 0 else (if goes_to_main (list_any test m.history) m then 0 else 1)) + a) m → Stays a (if is_some o then hits else inserts)
  stays_wanted a test None m hits inserts when_hit when_inserted stays = when_inserted stays
  stays_wanted a test (Some slot) m hits inserts when_hit when_inserted stays = when_hit (stays.0, omega (arith, stays.1))

  module _ (eq : K → K → Bool) where
    none_more : (a : ℕ) (m : Machine K V) → Stays (0 + a) m → Stays a m
    none_more a m stays = (stays.0, omega (arith, stays.1))

    pub stays_after : (a : ℕ) (call : Call K V) (m : Machine K V) → makes_room call ≡ false → Stays (admissions_of eq call m + a) m → Stays a (after eq call m)
    stays_after a (Put key value) m keeps stays =
        stays_wanted a (eq key) (slot_of (eq key) m) m (replaced_at (eq key) value (slot_of (eq key) m) m) (inserted (eq key) key value m)
        (stays_replaced a (eq key) value (slot_of (eq key) m) m) (stays_inserted a (eq key) key m) stays
    stays_after a (Get key) m keeps stays = stays_hit a (eq key) m (none_more a m stays)
    stays_after a (Peek key) m keeps stays = none_more a m stays
    stays_after a (Contains key) m keeps stays = none_more a m stays
    stays_after a (GetAt slot key) m keeps stays =
        elim (is_at slot (slot_of (eq key) m)) as (λ b. Stays a (if b then hit (eq key) m else m)) [ true ↦ stays_hit a (eq key) m (none_more a m stays) | false ↦ none_more a m stays ]
    stays_after a (Set key value) m keeps stays = stays_replaced a (eq key) value (slot_of (eq key) m) m (none_more a m stays)
    stays_after a (With key value) m keeps stays =
        stays_wanted a (eq key) (slot_of (eq key) m) m (hit (eq key) m) (inserted (eq key) key value m) (stays_hit a (eq key) m) (stays_inserted a (eq key) key m) stays
    stays_after a (Try key (Some value)) m keeps stays =
        stays_wanted a (eq key) (slot_of (eq key) m) m (hit (eq key) m) (inserted (eq key) key value m) (stays_hit a (eq key) m) (stays_inserted a (eq key) key m) stays
    stays_after a (Try key None) m keeps stays = stays_hit a (eq key) m (none_more a m stays)
    stays_after a (SlotFor key fresh) m keeps stays =
        stays_wanted a (eq key) (slot_of (eq key) m) m (hit (eq key) m) (reused (eq key) key fresh m)
        (stays_hit a (eq key) m) (λ s. stays_reused a (eq key) key fresh m (stays_inserted a (eq key) key m s)) stays
    stays_after a (Remove key) m keeps stays = cc
    stays_after a (Retain bits) m keeps stays = cc
    stays_after a Clear m keeps stays = cc
    stays_after a Evict m keeps stays = cc
    stays_after a (Prefill values) m keeps stays = none_more a m stays
    stays_after a Len m keeps stays = none_more a m stays
    stays_after a IsEmpty m keeps stays = none_more a m stays
    stays_after a Capacity m keeps stays = none_more a m stays

    -- through a list of calls that remove nothing
    pub in_small_still : (calls : List (Call K V)) (m : Machine K V) → AllByRecursion (λ call. makes_room call ≡ false) calls
        → is_in_small is m ≡ true → summed eq (admissions_of eq) calls m ≤ older is m.small → is_in_small is (after_all eq calls m) ≡ true
    in_small_still [] m keeps in_it enough = in_it
    in_small_still (call ∷ calls) m keeps in_it enough =
        let n = after eq call m in
        let next : Stays (summed eq (admissions_of eq) calls n) n = stays_after (summed eq (admissions_of eq) calls n) call m keeps.0 (in_it, enough) in
        in_small_still calls n keeps.1 next.0 next.1

    -- so the newest key of Small stays while fewer keys are admitted than Small has
    pub newest_stays : (calls : List (Call K V)) (m : Machine K V) → AllByRecursion (λ call. makes_room call ≡ false) calls → (e : SmallEntry K) (small : List (SmallEntry K)) → m.small ≡ e ∷ small
        → is e.key ≡ true → summed eq (admissions_of eq) calls m < length m.small → is_in_small is (after_all eq calls m) ≡ true
    newest_stays calls m keeps e small is_small passes fewer =
        let all_older : older is m.small ≡ length small = ap (older is) is_small ∙ ap (λ b. if b then length small else older is small) passes in
        in_small_still calls m keeps (ap (λ s. list_any (λ x. is x.key) s) is_small ∙ ap (λ b. b || list_any (λ x. is x.key) small) passes)
        (omega (arith, fewer, all_older, ap (length {A = SmallEntry K}) is_small))

-- The history's keys that are newer.

-- one if a key that goes to Small takes the place of its tail
abbrev eviction : {K : Type 0} → Bool → Option ℕ → Option (SmallEntry K) → ℕ
eviction b v t = if b || is_some v || goes_on t then 0 else 1

module _ {K : Type 0} (is : K → Bool) where
  newer_taken : (history : List K) (n : ℕ) → list_any is history ≡ true → newer is history < n → (list_any is (take n history) ≡ true) × (newer is (take n history) ≤ newer is history)
  newer_taken [] n in_it few = cc
  newer_taken (k ∷ history) zero in_it few = absurd (omega (arith, few))
  newer_taken (k ∷ history) (suc n) in_it few =
      (elim (is k) as (λ b. (b || list_any is history) ≡ true → (if b then 0 else 1 + newer is history) < suc n
      → ((b || list_any is (take n history)) ≡ true) × ((if b then 0 else 1 + newer is (take n history)) ≤ (if b then 0 else 1 + newer is history))) [
        | true ↦ λ _ _. (refl, omega arith)
        | false ↦ λ later few_later. let rest = newer_taken history n later (omega (arith, few_later)) in (rest.0, omega (arith, rest.1))
      ]) in_it few

  newer_filtered : (p : K → Bool) → ((k : K) → is k ≡ true → p k ≡ true) → (history : List K) → list_any is history ≡ true
      → (list_any is (filter p history) ≡ true) × (newer is (filter p history) ≤ newer is history)
  newer_filtered p keeps [] in_it = cc
  newer_filtered p keeps (k ∷ history) in_it =
      (elim (is k) as (λ b. is k ≡ b → (b || list_any is history) ≡ true
      → (list_any is (cond (p k) (k ∷ filter p history) (filter p history)) ≡ true) × (newer is (cond (p k) (k ∷ filter p history) (filter p history)) ≤ (if b then 0 else 1 + newer is history))) [
        | true ↦ λ passes _.
            subst (λ c. (list_any is (cond c (k ∷ filter p history) (filter p history)) ≡ true) × (newer is (cond c (k ∷ filter p history) (filter p history)) ≤ 0)) (sym (keeps k passes))
            (ap (λ b. b || list_any is (filter p history)) passes, omega (arith, ap (λ b. if b then 0 else 1 + newer is (filter p history)) passes))
        | false ↦ λ differs later.
            let rest = newer_filtered p keeps history later in
            elim (p k) as (λ c. (list_any is (cond c (k ∷ filter p history) (filter p history)) ≡ true) × (newer is (cond c (k ∷ filter p history) (filter p history)) ≤ 1 + newer is history)) [
              | true ↦ (or_right (is k) (list_any is (filter p history)) rest.0, omega (arith, rest.1, ap (λ b. if b then 0 else 1 + newer is (filter p history)) differs))
              | false ↦ (rest.0, omega (arith, rest.1))
            ]
      ]) refl in_it

module _ {K V : Type 0} (is : K → Bool) where
  -- the key is remembered, and stays so while this many more are
  abbrev Remembers : ℕ → Machine K V → Type 0
  Remembers a m = (is_remembered is m ≡ true) × (newer is m.history + a < m.shares.history)

  remembers_less : (n : ℕ) (a : ℕ) (m : Machine K V) → Remembers (n + a) m → Remembers a m
  remembers_less n a m was = (was.0, omega (arith, was.1))

  remembers_forgotten : (a : ℕ) (test : K → Bool) → ((k : K) → is k ≡ true → not (test k) ≡ true) → (m : Machine K V) → Remembers a m → Remembers a (forgotten test m)
  remembers_forgotten a test apart m was = let rest = newer_filtered is (λ k. not (test k)) apart m.history was.0 in (rest.0, omega (arith, rest.1, was.1))

  remembers_main : (a : ℕ) (key : K) (m : Machine K V) (full : Bool) (es : List (MainEntry K)) (v : Option ℕ) → Remembers a m
      → Remembers a (if full then replacing_victim key es m else joining_main key v m).machine
  remembers_main a key m true [] v was = was
  remembers_main a key m true (victim ∷ others) v was = was
  remembers_main a key m false es None was = was
  remembers_main a key m false es (Some slot) was = was

  remembers_tail : (a : ℕ) (key : K) (tail : SmallEntry K) (m : Machine K V) (es : List (MainEntry K)) (b : Bool) → Remembers ((if b then 0 else 1) + a) m
      → Remembers a (if b then promoting_tail key tail es m else evicting_tail key tail m).machine
  remembers_tail a key tail m [] true was = remembers_less 0 a m was
  remembers_tail a key tail m (victim ∷ others) true was = (was.0, omega (arith, was.1))
  remembers_tail a key tail m es false was =
      let in_front : (list_any is (tail.key ∷ m.history) ≡ true) × (newer is (tail.key ∷ m.history) ≤ 1 + newer is m.history) = (
        or_right (is tail.key) (list_any is m.history) was.0,
        elim (is tail.key) as
            (λ b. (if b then 0 else 1 + newer is m.history) ≤
            1 + newer is m.history) [ true ↦ omega arith | false ↦ omega arith ],
      ) in
      let cut = newer_taken is (tail.key ∷ m.history) m.shares.history in_front.0 (omega (arith, in_front.1, was.1)) in
      (cut.0, omega (arith, cut.1, in_front.1, was.1))

  remembers_small : (a : ℕ) (key : K) (m : Machine K V) (v : Option ℕ) (t : Option (SmallEntry K)) → Remembers (eviction false v t + a) m → Remembers a (into_small_at key v t m).machine
  remembers_small a key m (Some slot) t was = (was.0, omega (arith, was.1))
  remembers_small a key m None None was = (was.0, omega (arith, was.1))
  remembers_small a key m None (Some tail) was = remembers_tail a key tail m (from_victim m.main) (is_promoted tail.age) was

  module _ (test : K → Bool) (apart : (k : K) → is k ≡ true → not (test k) ≡ true) where
    remembers_placed : (a : ℕ) (key : K) (m : Machine K V) (b : Bool) → Remembers (eviction b (vacancy m) (last_or None m.small) + a) m
        → Remembers a (if b then into_main key (forgotten test m) else into_small key (forgotten test m)).machine
    remembers_placed a key m true was =
        remembers_main a key (forgotten test m) (length m.main == main_share m.shares) (from_victim m.main) (vacancy m) (remembers_forgotten a test apart m (remembers_less 0 a m was))
    remembers_placed a key m false was =
        let n : ℕ = eviction false (vacancy m) (last_or None m.small) + a in
        remembers_small a key (forgotten test m) (vacancy m) (last_or None m.small) (remembers_forgotten n test apart m was)

    remembers_inserted : (a : ℕ) (key : K) (m : Machine K V) → Remembers (eviction (goes_to_main (list_any test m.history) m) (vacancy m) (last_or None m.small) + a) m
        → Remembers a (placement test key m).machine
    remembers_inserted a key m was = remembers_placed a key m (goes_to_main (list_any test m.history) m) was

    remembers_reused : (a : ℕ) (key : K) (fresh : V) (m : Machine K V) → Remembers a (placement test key m).machine → Remembers a (reused test key fresh m)
    remembers_reused a key fresh m was =
        let p = placement test key m in
        elim (nat_lt p.slot (length m.values)) as (λ b. Remembers a (if b then p.machine else stored p.slot fresh p.machine)) [ true ↦ was | false ↦ was ]

    remembers_removed : (a : ℕ) (o : Option ℕ) (m : Machine K V) → Remembers a m → Remembers a (removed_at test o m)
    remembers_removed a None m was = remembers_forgotten a test apart m was
    remembers_removed a (Some slot) m was = was

  remembers_wanted : (a n : ℕ) (o : Option ℕ) (m hits inserts : Machine K V) → (Remembers a m → Remembers a hits) → (Remembers (n + a) m → Remembers a inserts)
      → Remembers ((if is_some o then 0 else n) + a) m → Remembers a (if is_some o then hits else inserts)
  remembers_wanted a n None m hits inserts when_hit when_inserted was = when_inserted was
  remembers_wanted a n (Some slot) m hits inserts when_hit when_inserted was = when_hit (remembers_less 0 a m was)

  remembers_replaced : (a : ℕ) (test : K → Bool) (value : V) (o : Option ℕ) (m : Machine K V) → Remembers a m → Remembers a (replaced_at test value o m)
  remembers_replaced a test value None m was = was
  remembers_replaced a test value (Some slot) m was = was

  remembers_evicted : (a : ℕ) (m : Machine K V) (b : Bool) (t : Option (SmallEntry K)) (es : List (MainEntry K)) → Remembers ((if b || not (is_some t) then 0 else 1) + a) m
      → Remembers a (if b then victim_evicted t es m else tail_evicted t m)
  remembers_evicted a m true None [] was = remembers_less 0 a m was
  remembers_evicted a m true (Some tail) [] was = remembers_less 0 a m was
  remembers_evicted a m true None (victim ∷ others) was = (was.0, omega (arith, was.1))
  remembers_evicted a m true (Some tail) (victim ∷ others) was = (was.0, omega (arith, was.1))
  remembers_evicted a m false None es was = remembers_less 0 a m was
  remembers_evicted a m false (Some tail) es was = remembers_tail a tail.key tail m es false was

  remembers_vacated : (a : ℕ) (slots : List ℕ) (m : Machine K V) → Remembers a m → Remembers a (vacated_all slots m)
  remembers_vacated a [] m was = was
  remembers_vacated a (slot ∷ slots) m was = remembers_vacated a slots (vacated slot m) was

module _ {K : Type 0} (eq : K → K → Bool) (laws : IsEquivalence eq) (k : K) where
  -- another key's history is erased
  others_apart : (key : K) → eq k key ≡ false → (x : K) → eq k x ≡ true → not (eq key x) ≡ true
  others_apart key differ x same = ap not (sym (laws.congr k x key same ∙ laws.symm x key) ∙ differ)

module _ {K V : Type 0} (eq : K → K → Bool) (laws : IsEquivalence eq) (k : K) where
  remembers_after : (a : ℕ) (call : Call K V) (m : Machine K V) → LetsBe eq k call → Remembers (eq k) (evictions_of eq call m + a) m → Remembers (eq k) a (after eq call m)
  remembers_after a (Put key value) m lets was =
      remembers_wanted (eq k) a (eviction (goes_to_main (list_any (eq key) m.history) m) (vacancy m) (last_or None m.small)) (slot_of (eq key) m) m
      (replaced_at (eq key) value (slot_of (eq key) m) m) (inserted (eq key) key value m)
      (remembers_replaced (eq k) a (eq key) value (slot_of (eq key) m) m) (remembers_inserted (eq k) (eq key) (others_apart eq laws k key lets) a key m) was
  remembers_after a (Get key) m lets was = remembers_less (eq k) 0 a m was
  remembers_after a (Peek key) m lets was = remembers_less (eq k) 0 a m was
  remembers_after a (Contains key) m lets was = remembers_less (eq k) 0 a m was
  remembers_after a (GetAt slot key) m lets was =
      elim (is_at slot (slot_of (eq key) m)) as (λ b. Remembers (eq k) a (if b then hit (eq key) m else m)) [ true ↦ remembers_less (eq k) 0 a m was | false ↦ remembers_less (eq k) 0 a m was ]
  remembers_after a (Set key value) m lets was = remembers_replaced (eq k) a (eq key) value (slot_of (eq key) m) m (remembers_less (eq k) 0 a m was)
  remembers_after a (With key value) m lets was =
      remembers_wanted (eq k) a (eviction (goes_to_main (list_any (eq key) m.history) m) (vacancy m) (last_or None m.small)) (slot_of (eq key) m) m
      (hit (eq key) m) (inserted (eq key) key value m) (λ w. w) (remembers_inserted (eq k) (eq key) (others_apart eq laws k key lets) a key m) was
  remembers_after a (Try key (Some value)) m lets was =
      remembers_wanted (eq k) a (eviction (goes_to_main (list_any (eq key) m.history) m) (vacancy m) (last_or None m.small)) (slot_of (eq key) m) m
      (hit (eq key) m) (inserted (eq key) key value m) (λ w. w) (remembers_inserted (eq k) (eq key) (others_apart eq laws k key lets) a key m) was
  remembers_after a (Try key None) m lets was = remembers_less (eq k) 0 a m was
  remembers_after a (SlotFor key fresh) m lets was =
      remembers_wanted (eq k) a (eviction (goes_to_main (list_any (eq key) m.history) m) (vacancy m) (last_or None m.small)) (slot_of (eq key) m) m
      (hit (eq key) m) (reused (eq key) key fresh m) (λ w. w)
      (λ w. remembers_reused (eq k) (eq key) (others_apart eq laws k key lets) a key fresh m (remembers_inserted (eq k) (eq key) (others_apart eq laws k key lets) a key m w)) was
  remembers_after a (Remove key) m lets was = remembers_removed (eq k) (eq key) (others_apart eq laws k key lets) a (slot_of (eq key) m) m (remembers_less (eq k) 0 a m was)
  remembers_after a (Retain bits) m lets was = remembers_vacated (eq k) a (refused_slots bits (map (λ r. r.1) (by_slot m))) m (remembers_less (eq k) 0 a m was)
  remembers_after a Clear m lets was = absurd lets
  remembers_after a Evict m lets was = remembers_evicted (eq k) a m (victim_leaves m) (last_or None m.small) (from_victim m.main) was
  remembers_after a (Prefill values) m lets was = remembers_less (eq k) 0 a m was
  remembers_after a Len m lets was = remembers_less (eq k) 0 a m was
  remembers_after a IsEmpty m lets was = remembers_less (eq k) 0 a m was
  remembers_after a Capacity m lets was = remembers_less (eq k) 0 a m was

  -- a key is remembered while fewer keys than the history has room for were evicted after it
  pub remembered_still : (calls : List (Call K V)) (m : Machine K V) → AllByRecursion (LetsBe eq k) calls
      → is_remembered (eq k) m ≡ true → newer (eq k) m.history + summed eq (evictions_of eq) calls m < m.shares.history → is_remembered (eq k) (after_all eq calls m) ≡ true
  remembered_still [] m lets in_it few = in_it
  remembered_still (call ∷ calls) m lets in_it few =
      let n = after eq call m in
      let next : Remembers (eq k) (summed eq (evictions_of eq) calls n) n = remembers_after (summed eq (evictions_of eq) calls n) call m lets.0 (in_it, few) in
      remembered_still calls n lets.1 next.0 next.1
