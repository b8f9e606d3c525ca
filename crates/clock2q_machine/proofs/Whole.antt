-- The invariant of machines holds after a hit, after a key's history is erased, and after an insertion.
use Rattle.std.proofs.Common.{◌≡◌, ℕ, zero, suc, ◌+◌, ◌-◌, ◌<◌, ◌≤◌, ◌==◌, ◌⊎◌, Bool, true, false, not, ◌||◌, ◌&&◌, cond, List, [], ◌∷◌, length, take, drop, inl, inr, Option, Some, None, refl, sym, ap, ◌∙◌, subst, arith, eq-eqb, ne_eqb, eqb-true, length-append}
use Rattle.std.specs.Prelude.{if◌then◌else◌, nat_lt, nat_le, is_some}
use Rattle.std.specs.Cmp.{IsEquivalence}
use Rattle.std.specs.List.{sum_by, count_by, find, last_or, AllByRecursion}
use Rattle.std.specs.Option.{option_map}
use Rattle.std.proofs.lemmas.Bool.{cases_lt, lt-ltb, le-ltb, leb-false, eqb-false, both_ways}
use Rattle.std.proofs.lemmas.List.{length-map, length-take}
use Rattle.std.proofs.lemmas.List.Sums.{sum_by-cons, sum_by-take-le, length-filter, count_by-le-length}
use Rattle.std.proofs.Math.ListN.{length-set}
use Rattle.clock2q_machine.specs.Shares.{main_share}
use Rattle.clock2q_machine.specs.Ages.{Age, Young, is_promoted}
use Rattle.clock2q_machine.specs.Entries.{SmallEntry, MainEntry, small_hit, main_hit, small_admitted, from_victim, behind_hand, with_age, with_bit}
use Rattle.clock2q_machine.specs.Machine.{Machine, Placement, hit, forgotten, stored, vacancy, vacant_slot, goes_to_main, into_main, into_small, into_small_at, evicting_tail, promoting_tail, replacing_victim, joining_main, slot_of}
use Rattle.clock2q_machine.specs.Whole.{IsWhole, known_count, standings}
use Rattle.clock2q_machine.proofs.Weights.{sum_by-same, sum_by-filter-le, count_by-filtered, count_by-not_found, weight-small_hit, weight-admitted, weight-main_hit, weight-from_victim, weight-behind, weight-last, length-admitted, length-from_victim}
use Rattle.clock2q_machine.proofs.Residents.{slot_in_small, slot_in_main, slot_among, neither}

-- a list that isn't empty has a last element
pub last_some : {X : Type 0} (ss : List X) (s : X) → (x : X) × (last_or None (s ∷ ss) ≡ Some x)
last_some [] s = (s, refl)
last_some (t ∷ ss) s = last_some ss t

abbrev pub one_if : Bool → ℕ
one_if b = cond b 1 0

-- a slot that is in a list was made
once_made : (slot made n : ℕ) → n ≡ (if nat_lt slot made then 1 else 0) → 0 < n → slot < made
once_made slot made n once some = elim (cases_lt slot made) [ inl below ↦ below | inr above ↦ absurd (omega (arith, once, ap one_if (le-ltb slot made above), some)) ]

at_most_one : (b : Bool) (n : ℕ) → 0 < n → n ≤ one_if b → suc 0 ≡ one_if b
at_most_one true n some within = refl
at_most_one false n some within = absurd (omega arith)

-- one more slot is made, and is in one list
once_more : (slot made n : ℕ) → n ≡ (if nat_lt slot made then 1 else 0) → n + cond (made == slot) 1 0 ≡ (if nat_lt slot (suc made) then 1 else 0)
once_more slot made n once =
    elim (cases_lt slot made) [
      | inl below ↦ omega (arith, once, ap one_if (lt-ltb slot made below), ap one_if (lt-ltb slot (suc made) (omega (arith, below))), ap one_if (ne_eqb made slot (λ e. omega (arith, e, below))))
      | inr above ↦ elim (cases_lt made slot) [
        | inl past ↦ omega (arith, once, ap one_if (le-ltb slot made above), ap one_if (le-ltb slot (suc made) past), ap one_if (ne_eqb made slot (λ e. omega (arith, e, past))))
        | inr same ↦
            let at : made ≡ slot = omega (arith, above, same) in
            omega (arith, once, ap one_if (le-ltb slot made above), ap one_if (lt-ltb slot (suc made) (omega (arith, at))), ap one_if (eq-eqb made slot at))
      ]
    ]

pub some_is : {X : Type 0} (x y : X) → Some x ≡ Some y → x ≡ y
some_is x y e = cc

pub none_is : {X : Type 0} (x : X) → None ≡ Some x → ⊥
none_is x e = cc

pub no_vacancy : (free : List ℕ) (made capacity : ℕ) → vacant_slot free made capacity ≡ None → (length free ≡ 0) × (capacity ≤ made)
no_vacancy (s ∷ free) made capacity none = absurd (none_is s (sym none))
no_vacancy [] made capacity none =
    elim (cases_lt made capacity) [
      | inl below ↦ absurd (none_is made (sym (sym (ap (λ b. if b then Some made else None) (lt-ltb made capacity below)) ∙ none)))
      | inr above ↦ (refl, above)
    ]

-- if a key goes to Small, Small has a share, and room if there is a vacancy
pub small_share : (share : ℕ) (b : Bool) → (false || (share == 0) || b) ≡ false → 0 < share
small_share zero b e = cc
small_share (suc n) b e = omega arith

or_false : (a b : Bool) → (false || a || b) ≡ false → b ≡ false
or_false true b e = cc
or_false false b e = e

small_room : (share len : ℕ) (vacant : Option ℕ) (slot : ℕ) → vacant ≡ Some slot → (false || (share == 0) || (is_some vacant && nat_le share len)) ≡ false → len < share
small_room share len vacant slot is e =
    leb-false share len (subst (λ v. (is_some v && nat_le share len) ≡ false) is (or_false (share == 0) (is_some vacant && nat_le share len) e))

pub below_of : (a b : ℕ) → a ≤ b → (a == b) ≡ false → a < b
below_of a b within other = elim (cases_lt a b) [ inl below ↦ below | inr above ↦ absurd (both_ways (a == b) other (eq-eqb a b (omega (arith, within, above)))) ]

pub empty_small : {K : Type 0} (small : List (SmallEntry K)) → last_or None small ≡ None → length small ≡ 0
empty_small [] last = refl
empty_small (e ∷ es) last = let x = last_some es e in absurd (none_is x.0 (sym last ∙ x.1))

pub tail_some : {K : Type 0} (small : List (SmallEntry K)) (tail : SmallEntry K) → last_or None small ≡ Some tail → 0 < length small
tail_some [] tail last = absurd (none_is tail last)
tail_some (e ∷ es) tail last = omega arith

-- the weight of a key at a slot, if there is one
abbrev pub weight_at : {K : Type 0} → (K → ℕ → ℕ) → Option K → ℕ → ℕ
weight_at w None slot = 0
weight_at w (Some key) slot = w key slot

module _ {K V : Type 0} where
  -- the number of slots in the lists
  abbrev pub standing_count : Machine K V → ℕ
  standing_count m = length m.small + length m.main + length m.free

  -- the sum of the weights of the residents, each by its key and its slot
  abbrev pub weight : (K → ℕ → ℕ) → Machine K V → ℕ
  weight w m = sum_by (λ e. w e.key e.slot) m.small + sum_by (λ e. w e.key e.slot) m.main

  -- a key entered, in place of a resident at its slot or of none, and the others stayed at theirs
  abbrev pub ComesIn : K → Machine K V → Placement K V → Type 0
  ComesIn key m p = (other : Option K) × ((w : K → ℕ → ℕ) → (weight_at w other p.slot ≤ weight w m) × (weight w p.machine + weight_at w other p.slot ≡ weight w m + w key p.slot))

  -- a key took a slot that was made before, from the list it was in
  pub record KeepsSlots (m : Machine K V) (p : Placement K V) : Type 0 where
    pub made : p.slot < length m.values
    pub standing : (slot : ℕ) → standings slot p.machine ≡ standings slot m
    pub counted : standing_count p.machine ≡ standing_count m

  -- a key took the next slot
  pub record MakesSlot (m : Machine K V) (p : Placement K V) : Type 0 where
    pub next : p.slot ≡ length m.values
    pub vacant : length m.values < m.shares.capacity
    pub standing : (slot : ℕ) → standings slot p.machine ≡ standings slot m + cond (length m.values == slot) 1 0
    pub counted : standing_count p.machine ≡ standing_count m + 1

  -- a key at its slot: no list exceeds its share, no other key becomes known, and the slot is one that was made, or the
  -- next one
  pub record IsPlaced (key : K) (m : Machine K V) (p : Placement K V) : Type 0 where
    pub shares : p.machine.shares ≡ m.shares
    pub values : p.machine.values ≡ m.values
    pub small_within : length p.machine.small ≤ m.shares.small
    pub main_within : length p.machine.main ≤ main_share m.shares
    pub history_within : length p.machine.history ≤ m.shares.history
    pub known : (is : K → Bool) → known_count is p.machine ≤ known_count is m + cond (is key) 1 0
    pub slots : KeepsSlots m p ⊎ MakesSlot m p
    pub comes : ComesIn key m p

  module _ (eq : K → K → Bool) (m : Machine K V) (h : IsWhole eq m) where
    -- a slot of Small's tail, of Main's victim or of the free ones has been made
    pub counted_made : (slot : ℕ) → 0 < standings slot m → slot < length m.values
    counted_made slot some = once_made slot (length m.values) (standings slot m) (h.slots_once slot) some

    pub whole-hit : (is : K → Bool) → IsWhole eq (hit is m)
    whole-hit is =
        let small_length : length (small_hit is m.small) ≡ length m.small = length-map m.small _ in
        let main_length : length (main_hit is m.main) ≡ length m.main = length-map m.main _ in
        record {
          small_below = h.small_below;
          small_within = rw small_length h.small_within;
          main_within = rw main_length h.main_within;
          history_within = h.history_within;
          made_within = h.made_within;
          slots_counted = rw (small_length, main_length) h.slots_counted;
          slots_once = λ slot.
              omega (arith, weight-small_hit (λ e. cond (e.slot == slot) 1 0) (λ e age. refl) is m.small, weight-main_hit (λ e. cond (e.slot == slot) 1 0) (λ e bit. refl) is m.main)
              ∙ h.slots_once slot;
          keys_once =
              λ key. omega (
                arith,
                h.keys_once key,
                weight-small_hit (λ e. cond (eq key e.key) 1 0) (λ e age. refl) is m.small,
                weight-main_hit (λ e. cond (eq key e.key) 1 0) (λ e bit. refl) is m.main,
              );
        }

    pub whole-forgotten : (is : K → Bool) → IsWhole eq (forgotten is m)
    whole-forgotten is = record {
      small_below = h.small_below;
      small_within = h.small_within;
      main_within = h.main_within;
      history_within = omega (arith, h.history_within, length-filter (λ k. not (is k)) m.history, count_by-le-length (λ k. not (is k)) m.history);
      made_within = h.made_within;
      slots_counted = h.slots_counted;
      slots_once = h.slots_once;
      keys_once = λ key. omega (arith, h.keys_once key, sum_by-filter-le (λ k. cond (eq key k) 1 0) (λ k. not (is k)) m.history);
    }

    module _ (laws : IsEquivalence eq) (key : K) (absent : known_count (eq key) m ≡ 0) (p : Placement K V) (placed : IsPlaced key m p) where
      known_as : (other : K) → eq other key ≡ true → known_count (eq other) m ≡ known_count (eq key) m
      known_as other e =
          let same : (k : K) → one_if (eq other k) ≡ one_if (eq key k) = λ k. ap one_if (laws.congr other key k e) in
          omega (
            arith,
            sum_by-same (λ e. cond (eq other e.key) 1 0) (λ e. cond (eq key e.key) 1 0) (λ e. same e.key) m.small,
            sum_by-same (λ e. cond (eq other e.key) 1 0) (λ e. cond (eq key e.key) 1 0) (λ e. same e.key) m.main,
            sum_by-same (λ k. cond (eq other k) 1 0) (λ k. cond (eq key k) 1 0) same m.history,
          )

      once : (other : K) → known_count (eq other) p.machine ≤ 1
      once other =
          (elim (eq other key) as (λ b. eq other key ≡ b → known_count (eq other) p.machine ≤ 1) [
            | true ↦ λ e. omega (arith, placed.known (eq other), ap one_if e, known_as other e, absent)
            | false ↦ λ e. omega (arith, placed.known (eq other), ap one_if e, h.keys_once other)
          ]) refl

      pub whole-stored : (value : V) → IsWhole eq (stored p.slot value p.machine)
      whole-stored value =
          elim placed.slots [
            | inl keeps ↦
                let is_made : nat_lt p.slot (length p.machine.values) ≡ true = lt-ltb p.slot (length p.machine.values) (rw placed.values keeps.made) in
                let n : length (stored p.slot value p.machine).values ≡ length m.values = rw is_made (length-set p.machine.values p.slot value ∙ ap length placed.values) in
                record {
                  small_below = rw placed.shares h.small_below;
                  small_within = rw placed.shares placed.small_within;
                  main_within = rw placed.shares placed.main_within;
                  history_within = rw placed.shares placed.history_within;
                  made_within = rw (n, placed.shares) h.made_within;
                  slots_counted = keeps.counted ∙ h.slots_counted ∙ sym n;
                  slots_once = λ slot. keeps.standing slot ∙ h.slots_once slot ∙ ap (λ k. if nat_lt slot k then 1 else 0) (sym n);
                  keys_once = once;
                }
            | inr makes ↦
                let is_next : nat_lt p.slot (length p.machine.values) ≡ false = le-ltb p.slot (length p.machine.values) (omega (arith, makes.next, ap length placed.values)) in
                let n : length (stored p.slot value p.machine).values ≡ suc (length m.values) = rw is_next (omega (arith, length-append p.machine.values (value ∷ []), ap length placed.values)) in
                record {
                  small_below = rw placed.shares h.small_below;
                  small_within = rw placed.shares placed.small_within;
                  main_within = rw placed.shares placed.main_within;
                  history_within = rw placed.shares placed.history_within;
                  made_within = rw (n, placed.shares) (omega (arith, makes.vacant));
                  slots_counted = omega (arith, makes.counted, h.slots_counted, n);
                  slots_once = λ slot. makes.standing slot ∙ once_more slot (length m.values) (standings slot m) (h.slots_once slot) ∙ ap (λ k. if nat_lt slot k then 1 else 0) (sym n);
                  keys_once = once;
                }
          ]

    -- a slot that is free, or the next one, taken for a key
    free_slot : (slot made capacity : ℕ) (free : List ℕ) → vacant_slot free made capacity ≡ Some slot
        → (((w : ℕ → ℕ) → sum_by w free ≡ w slot + sum_by w (drop 1 free)) × (length free ≡ suc (length (drop 1 free)))) ⊎ ((slot ≡ made) × ((made < capacity) × (free ≡ [])))
    free_slot slot made capacity (s ∷ free) is = inl (subst (λ z. (w : ℕ → ℕ) → sum_by w (s ∷ free) ≡ w z + sum_by w free) (some_is s slot is) (λ w. sum_by-cons w s free), refl)
    free_slot slot made capacity [] is =
        elim (cases_lt made capacity) [
          | inl below ↦ inr (sym (some_is made slot (sym (ap (λ b. if b then Some made else None) (lt-ltb made capacity below)) ∙ is)), (below, refl))
          | inr above ↦ absurd (none_is slot (sym (ap (λ b. if b then Some made else None) (le-ltb made capacity above)) ∙ is))
        ]

    at_vacancy : (p : Placement K V) → vacancy m ≡ Some p.slot
        → ((slot : ℕ) → standings slot p.machine ≡ cond (p.slot == slot) 1 0 + count_by (λ e. e.slot == slot)
        m.small + count_by (λ e. e.slot == slot) m.main + count_by (λ s. s == slot) (drop 1 m.free))
        → standing_count p.machine ≡ length m.small + length m.main + length (drop 1 m.free) + 1 → KeepsSlots m p ⊎ MakesSlot m p
    at_vacancy p is standing counted =
        elim (free_slot p.slot (length m.values) m.shares.capacity m.free is) [
          | inl free ↦ inl (record {
            made = counted_made p.slot (omega (arith, free.0 (λ s. cond (s == p.slot) 1 0), ap one_if (eq-eqb p.slot p.slot refl)));
            standing = λ slot. omega (arith, standing slot, free.0 (λ s. cond (s == slot) 1 0));
            counted = omega (arith, counted, free.1);
          })
          | inr made ↦ inr (record {
            next = made.0;
            vacant = made.1.0;
            standing =
                λ slot. omega (
                  arith,
                  standing slot,
                  ap (λ s. one_if (s == slot)) made.0,
                  ap (λ free. count_by (λ s. s == slot) (drop 1 free)) made.1.1,
                  ap (λ free. count_by (λ s. s == slot) free) made.1.1,
                );
            counted = omega (arith, counted, ap (λ free. length {A = ℕ} (drop 1 free)) made.1.1, ap (length {A = ℕ}) made.1.1);
          })
        ]

    -- if there is no vacancy, every slot is a resident's
    pub all_resident : vacancy m ≡ None → m.shares.capacity ≤ length m.small + length m.main
    all_resident none =
        let full = no_vacancy m.free (length m.values) m.shares.capacity none in
        omega (arith, h.slots_counted, full.0, full.1)

    -- Main with another entry in place of its victim
    module _ (victim : MainEntry K) (others : List (MainEntry K)) (choice : from_victim m.main ≡ victim ∷ others) where
      pub behind_length : (key : K) (slot : ℕ) → length (behind_hand key slot others) ≡ length m.main
      behind_length key slot = omega (arith, length-append others (record { key = key; slot = slot; bit = false } ∷ []), ap length choice, length-from_victim m.main)

      pub behind_weight : (key : K) (slot : ℕ) (g : MainEntry K → ℕ) → ((e : MainEntry K) (bit : Bool) → g (with_bit e bit) ≡ g e)
          → sum_by g (behind_hand key slot others) + g victim ≡ sum_by g m.main + g (record { key = key; slot = slot; bit = false })
      behind_weight key slot g bitless = omega (arith, weight-behind g bitless key slot others, sum_by-cons g victim others, ap (sum_by g) choice, weight-from_victim g bitless m.main)

      victim_weight : (g : MainEntry K → ℕ) → ((e : MainEntry K) (bit : Bool) → g (with_bit e bit) ≡ g e) → g victim ≤ sum_by g m.main
      victim_weight g bitless = omega (arith, sum_by-cons g victim others, ap (sum_by g) choice, weight-from_victim g bitless m.main)

      pub victim_made : victim.slot < length m.values
      victim_made =
          let at : MainEntry K → ℕ = λ e. one_if (e.slot == victim.slot) in
          counted_made victim.slot (omega (arith, sum_by-cons at victim others, ap (sum_by at) choice, weight-from_victim at (λ e bit. refl) m.main, ap one_if (eq-eqb victim.slot victim.slot refl)))

    module _ (key : K) where
      -- into Main, which has room
      pub placed-joining : (slot : ℕ) → vacancy m ≡ Some slot → length m.main < main_share m.shares → IsPlaced key m (joining_main key (Some slot) m)
      placed-joining slot is room = record {
        shares = refl;
        values = refl;
        small_within = h.small_within;
        main_within = omega (arith, room, length-append m.main (record { key = key; slot = slot; bit = false } ∷ []));
        history_within = h.history_within;
        known = λ is. omega (arith, weight-behind (λ e. one_if (is e.key)) (λ e bit. refl) key slot m.main);
        slots = at_vacancy (joining_main key (Some slot) m) is
            (λ s. omega (arith, weight-behind (λ e. one_if (e.slot == s)) (λ e bit. refl) key slot m.main))
            (omega (arith, length-append m.main (record { key = key; slot = slot; bit = false } ∷ [])));
        comes = (None, λ w. (omega arith, omega (arith, weight-behind (λ e. w e.key e.slot) (λ e bit. refl) key slot m.main)));
      }

      -- in place of Main's victim
      pub placed-replacing : (victim : MainEntry K) (others : List (MainEntry K)) → from_victim m.main ≡ victim ∷ others → IsPlaced key m (replacing_victim key (victim ∷ others) m)
      placed-replacing victim others choice =
          let as_long : length (behind_hand key victim.slot others) ≡ length m.main = behind_length victim others choice key victim.slot in
          record {
            shares = refl;
            values = refl;
            small_within = h.small_within;
            main_within = rw as_long h.main_within;
            history_within = h.history_within;
            known = λ is. omega (arith, behind_weight victim others choice key victim.slot (λ e. one_if (is e.key)) (λ e bit. refl));
            slots = inl (record {
              made = victim_made victim others choice;
              standing = λ s. omega (arith, behind_weight victim others choice key victim.slot (λ e. one_if (e.slot == s)) (λ e bit. refl));
              counted = omega (arith, as_long);
            });
            comes = (
              Some victim.key,
              λ w. (
                omega (arith, victim_weight victim others choice (λ e. w e.key e.slot) (λ e bit. refl)),
                omega (arith, behind_weight victim others choice key victim.slot (λ e. w e.key e.slot) (λ e bit. refl)),
              ),
            );
          }

      -- into Small, at a vacancy
      pub placed-admitted : (slot : ℕ) (tail : Option (SmallEntry K)) → vacancy m ≡ Some slot → length m.small < m.shares.small → IsPlaced key m (into_small_at key (Some slot) tail m)
      placed-admitted slot tail is room = record {
        shares = refl;
        values = refl;
        small_within = omega (arith, room, length-admitted m.shares.window key slot m.small);
        main_within = h.main_within;
        history_within = h.history_within;
        known = λ is. omega (arith, weight-admitted (λ e. one_if (is e.key)) (λ e age. refl) m.shares.window key slot m.small);
        slots = at_vacancy (into_small_at key (Some slot) tail m) is
            (λ s. omega (arith, weight-admitted (λ e. one_if (e.slot == s)) (λ e age. refl) m.shares.window key slot m.small))
            (omega (arith, length-admitted m.shares.window key slot m.small));
        comes = (None, λ w. (omega arith, omega (arith, weight-admitted (λ e. w e.key e.slot) (λ e age. refl) m.shares.window key slot m.small)));
      }

      module _ (tail : SmallEntry K) (last : last_or None m.small ≡ Some tail) (some : 0 < length m.small) where
        abbrev front : List (SmallEntry K)
        front = take (length m.small - 1) m.small

        -- a key that is admitted in place of the tail
        front_length : (slot : ℕ) → length (small_admitted m.shares.window key slot front) ≡ length m.small
        front_length slot = omega (arith, length-admitted m.shares.window key slot front, (weight-last (λ e. 0) None m.small tail some last).1)

        front_weight : (g : SmallEntry K → ℕ) → ((e : SmallEntry K) (age : Age) → g (with_age e age) ≡ g e) → (slot : ℕ)
            → sum_by g (small_admitted m.shares.window key slot front) + g tail ≡ sum_by g m.small + g (record { key = key; slot = slot; age = Young 0 })
        front_weight g ageless slot = omega (arith, weight-admitted g ageless m.shares.window key slot front, (weight-last g None m.small tail some last).0)

        pub tail_made : tail.slot < length m.values
        tail_made = counted_made tail.slot (omega (arith, (weight-last (λ e. one_if (e.slot == tail.slot)) None m.small tail some last).0, ap one_if (eq-eqb tail.slot tail.slot refl)))

        -- into Small, in place of its tail
        pub placed-evicting : IsPlaced key m (evicting_tail key tail m)
        placed-evicting = record {
          shares = refl;
          values = refl;
          small_within = rw (front_length tail.slot) h.small_within;
          main_within = h.main_within;
          history_within = omega (arith, length-take m.shares.history (tail.key ∷ m.history));
          known =
              λ is. omega (
                arith,
                front_weight (λ e. one_if (is e.key)) (λ e age. refl) tail.slot,
                sum_by-take-le (λ k. one_if (is k)) (tail.key ∷ m.history) m.shares.history,
                sum_by-cons (λ k. one_if (is k)) tail.key m.history,
              );
          slots = inl (record {
            made = tail_made;
            standing = λ s. omega (arith, front_weight (λ e. one_if (e.slot == s)) (λ e age. refl) tail.slot);
            counted = omega (arith, front_length tail.slot);
          });
          comes = (
            Some tail.key,
            λ w. (
              omega (arith, (weight-last (λ e. w e.key e.slot) None m.small tail some last).0),
              omega (arith, front_weight (λ e. w e.key e.slot) (λ e age. refl) tail.slot),
            ),
          );
        }

        -- into Small, in place of Main's victim, while Small's tail is promoted to Main
        pub placed-promoting : (victim : MainEntry K) (others : List (MainEntry K)) → from_victim m.main ≡ victim ∷ others → IsPlaced key m (promoting_tail key tail (victim ∷ others) m)
        placed-promoting victim others choice =
            let moved : MainEntry K = record { key = tail.key; slot = tail.slot; bit = false } in
            let as_long : length (behind_hand tail.key tail.slot others) ≡ length m.main = behind_length victim others choice tail.key tail.slot in
            record {
              shares = refl;
              values = refl;
              small_within = rw (front_length victim.slot) h.small_within;
              main_within = rw as_long h.main_within;
              history_within = h.history_within;
              known =
                  λ is. omega (
                    arith,
                    front_weight (λ e. one_if (is e.key)) (λ e age. refl) victim.slot,
                    behind_weight victim others choice tail.key tail.slot (λ e. one_if (is e.key)) (λ e bit. refl),
                  );
              slots = inl (record {
                made = victim_made victim others choice;
                standing =
                    λ s. omega (
                      arith,
                      front_weight (λ e. one_if (e.slot == s)) (λ e age. refl) victim.slot,
                      behind_weight victim others choice tail.key tail.slot (λ e. one_if (e.slot == s)) (λ e bit. refl),
                    );
                counted = omega (arith, front_length victim.slot, as_long);
              });
              comes = (
                Some victim.key,
                λ w. (
                  omega (arith, victim_weight victim others choice (λ e. w e.key e.slot) (λ e bit. refl)),
                  omega (arith, front_weight (λ e. w e.key e.slot) (λ e age. refl) victim.slot, behind_weight victim others choice tail.key tail.slot (λ e. w e.key e.slot) (λ e bit. refl)),
                ),
              );
            }

      into_main_by : (b : Bool) → (length m.main == main_share m.shares) ≡ b → (es : List (MainEntry K)) → from_victim m.main ≡ es → (v : Option ℕ) → vacancy m ≡ v
          → IsPlaced key m (if b then replacing_victim key es m else joining_main key v m)
      into_main_by true full [] choice v is =
          absurd (omega (arith, h.small_below, eqb-true (length m.main) (main_share m.shares) full, ap (length {A = MainEntry K}) choice, length-from_victim m.main))
      into_main_by true full (victim ∷ others) choice v is = placed-replacing victim others choice
      into_main_by false room es choice None is = absurd (omega (arith, all_resident is, h.small_within, h.main_within, h.small_below, eqb-false (length m.main) (main_share m.shares) room))
      into_main_by false room es choice (Some slot) is = placed-joining slot is (below_of (length m.main) (main_share m.shares) h.main_within room)

      -- into Main
      pub placed-main : IsPlaced key m (into_main key m)
      placed-main = into_main_by (length m.main == main_share m.shares) refl (from_victim m.main) refl (vacancy m) refl

      into_small_by : (t : Option (SmallEntry K)) → last_or None m.small ≡ t → (v : Option ℕ) → vacancy m ≡ v → (b : Bool) → goes_to_main false m ≡ false
          → (es : List (MainEntry K)) → from_victim m.main ≡ es → ((tail : SmallEntry K) → t ≡ Some tail → is_promoted tail.age ≡ b) → IsPlaced key m (into_small_at key v t m)
      into_small_by t last (Some slot) is b small es choice on = placed-admitted slot t is (small_room m.shares.small (length m.small) (vacancy m) slot is small)
      into_small_by None last None is b small es choice on =
          absurd (omega (
            arith,
            all_resident is,
            h.main_within,
            h.small_below,
            empty_small m.small last,
            small_share m.shares.small (is_some (vacancy m) && nat_le m.shares.small (length m.small)) small,
          ))
      into_small_by (Some tail) last None is true small [] choice on =
          absurd (omega (arith, all_resident is, h.small_within, h.small_below, ap (length {A = MainEntry K}) choice, length-from_victim m.main))
      into_small_by (Some tail) last None is true small (victim ∷ others) choice on = rw (on tail refl, choice) (placed-promoting tail last (tail_some m.small tail last) victim others choice)
      into_small_by (Some tail) last None is false small es choice on = rw (on tail refl) (placed-evicting tail last (tail_some m.small tail last))

      -- into Small
      pub placed-small : goes_to_main false m ≡ false → IsPlaced key m (into_small key m)
      placed-small small = by_tail (last_or None m.small) refl where
        by_tail : (t : Option (SmallEntry K)) → last_or None m.small ≡ t → IsPlaced key m (into_small_at key (vacancy m) t m)
        by_tail None last = into_small_by None last (vacancy m) refl true small (from_victim m.main) refl (λ tail e. absurd (none_is tail e))
        by_tail (Some tail) last =
            into_small_by (Some tail) last (vacancy m) refl (is_promoted tail.age) small (from_victim m.main) refl (λ other e. ap (λ x. is_promoted x.age) (some_is other tail (sym e)))

pub map_none : {X Y : Type 0} (f : X → Y) (o : Option X) → option_map f o ≡ None → o ≡ None
map_none f None none = refl
map_none f (Some x) none = cc

-- a key that isn't resident is no longer known once its history is erased
pub unknown_once_forgotten : {K V : Type 0} (is : K → Bool) (m : Machine K V) → slot_of is m ≡ None → known_count is (forgotten is m) ≡ 0
unknown_once_forgotten is m absent =
    let none = neither (slot_in_small is m.small) (slot_in_main is m.main) (sym (slot_among is m.small m.main) ∙ absent) in
    let in_small : count_by (λ e. is e.key) m.small ≡ 0 = count_by-not_found (λ e. is e.key) m.small (map_none (λ e. e.slot) (find (λ e. is e.key) m.small) none.0) in
    let in_main : count_by (λ e. is e.key) m.main ≡ 0 = count_by-not_found (λ e. is e.key) m.main (map_none (λ e. e.slot) (find (λ e. is e.key) m.main) none.1) in
    omega (arith, in_small, in_main, count_by-filtered is m.history)

-- each entry's slot has been made
module _ {X : Type 0} (slot_of_entry : X → ℕ) (made : ℕ) where
  all_made : (xs : List X) → ((slot : ℕ) → count_by (λ e. slot_of_entry e == slot) xs ≤ (if nat_lt slot made then 1 else 0)) → AllByRecursion (λ e. slot_of_entry e < made) xs
  all_made [] once = tt
  all_made (e ∷ xs) once =
      let slot = slot_of_entry e in
      let counted : 0 < count_by (λ x. slot_of_entry x == slot) (e ∷ xs) = omega (arith, sum_by-cons (λ x. one_if (slot_of_entry x == slot)) e xs, ap one_if (eq-eqb slot slot refl)) in (
        once_made slot made 1 (at_most_one (nat_lt slot made) _ counted (once slot)) (omega arith),
        all_made xs (λ s. omega (arith, once s, sum_by-cons (λ x. one_if (slot_of_entry x == s)) e xs)),
      )

pub small_made : {K V : Type 0} (eq : K → K → Bool) (m : Machine K V) → IsWhole eq m → AllByRecursion (λ e. e.slot < length m.values) m.small
small_made eq m h = all_made (λ e. e.slot) (length m.values) m.small (λ slot. omega (arith, h.slots_once slot))

pub main_made : {K V : Type 0} (eq : K → K → Bool) (m : Machine K V) → IsWhole eq m → AllByRecursion (λ e. e.slot < length m.values) m.main
main_made eq m h = all_made (λ e. e.slot) (length m.values) m.main (λ slot. omega (arith, h.slots_once slot))
