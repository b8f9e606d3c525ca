-- Demand policies: the optimum itself, for a cache that knows the trace, and LRU, FIFO and CLOCK. None of these hits
-- more than the optimum.
use Rattle.std.proofs.Common.{◌≡◌, ◌⊎◌, inl, inr, ℕ, zero, suc, ◌+◌, ◌<◌, ◌≤◌, ◌==◌, Bool, true, false, ◌||◌, List, [], ◌∷◌, ◌++◌, map, length, length-append, length-drop, length-take, take}
use Rattle.std.proofs.Common.{drop, refl, sym, ap, ◌∙◌, arith}
use Rattle.std.specs.Prelude.{nat_lt, if◌then◌else◌}
use Rattle.std.specs.Cmp.{nat_eq_equiv}
use Rattle.std.proofs.lemmas.Bool.{cases_Bool, eqb-true, eq-eqb, ltb-true, ltb-false, or_cases, or_left, or_right}
use Rattle.std.proofs.lemmas.List.{length-map}
use Rattle.clock2q_machine.specs.Hits.{hits, hit_count, is_in, without}
use Rattle.clock2q_machine.specs.SecondChance.{Ring, is_on, marked, moved_on, joined, clock_after, clock_hits}
use Rattle.clock2q_machine.specs.Optimum.{next_use, later, farthest, without_farthest, optimal_after, optimal_hits_from, optimal_hits, optimal_outcomes_from, optimal_outcomes, IsDemandPolicy}
use Rattle.clock2q_machine.proofs.Sharing.{left_without}
use Rattle.clock2q_machine.proofs.Optimum.{optimum, optimum_first, optimal_comes}
use Rattle.simulator_policies.specs.declared.plain.PlainPolicy.{PlainPolicy}
use Rattle.simulator_policies.specs.declared.plain.PlainPolicy.TheVariants.{LeastRecentlyUsed, FirstInFirstOut}
use Rattle.simulator_policies.specs.Policies.{after_hit, plain_after, plain_hits}

-- removing a key makes a list no longer, and shorter if the key was in it
without_no_longer : (key : ℕ) (held : List ℕ) → length (without key held) ≤ length held
without_no_longer key [] = omega arith
without_no_longer key (first ∷ held) = elim (cases_Bool (first == key)) [
  | inl same ↦ rw same (omega (arith, without_no_longer key held))
  | inr apart ↦ rw apart (omega (arith, without_no_longer key held))
]

pub without_shorter : (key : ℕ) (held : List ℕ) → is_in key held ≡ true → 1 + length (without key held) ≤ length held
without_shorter key [] there = absurd cc
without_shorter key (first ∷ held) there = elim (cases_Bool (first == key)) [
  | inl same ↦ rw same (omega (arith, without_no_longer key held))
  | inr apart ↦ rw apart (omega (arith, without_shorter key held (rw apart at there)))
]

in_first : (key : ℕ) (held : List ℕ) → is_in key (key ∷ held) ≡ true
in_first key held = or_left (key == key) (is_in key held) (eq-eqb key key refl)

-- a key of a list is the one in front, or one of the others
front_or_behind : (key other : ℕ) (held : List ℕ) → is_in other (key ∷ held) ≡ true → (key ≡ other) ⊎ (is_in other held ≡ true)
front_or_behind key other held there = elim (or_cases (key == other) (is_in other held) there) [
  | inl same ↦ inl (eqb-true key other same)
  | inr behind ↦ inr behind
]

-- The optimum: a cache knows the rest of the trace, and what it holds.

pub farthest_in : (trace : List ℕ) (first : ℕ) (held : List ℕ) → is_in (farthest trace first held) (first ∷ held) ≡ true
farthest_in trace first [] = in_first first []
farthest_in trace first (other ∷ held) =
    let gone : ℕ = farthest trace (later trace first other) held in
    let chosen : (b : Bool) → is_in gone ((if b then other else first) ∷ held) ≡ true → is_in gone (first ∷ other ∷ held) ≡ true = λ b.
    elim b as (λ b. is_in gone ((if b then other else first) ∷ held) ≡ true → is_in gone (first ∷ other ∷ held) ≡ true) [
      | true ↦ λ there. or_right (first == gone) (is_in gone (other ∷ held)) there
      | false ↦ λ there. elim (or_cases (first == gone) (is_in gone held) there) [
        | inl same ↦ or_left (first == gone) (is_in gone (other ∷ held)) same
        | inr behind ↦ or_right (first == gone) (is_in gone (other ∷ held)) (or_right (other == gone) (is_in gone held) behind)
      ]
    ] in
    chosen (nat_lt (next_use first trace) (next_use other trace)) (farthest_in trace (later trace first other) held)

abbrev Foreseeing : Type 0
Foreseeing = List ℕ × List ℕ

abbrev has : ℕ → Foreseeing → Bool
has key cache = is_in key cache.1

abbrev fits : ℕ → Foreseeing → Type 0
fits capacity cache = length cache.1 ≤ capacity

module _ (capacity : ℕ) (some : 0 < capacity) where
  abbrev foreseeing : ℕ → Foreseeing → Foreseeing
  foreseeing key cache = (drop 1 cache.0, optimal_after capacity key (drop 1 cache.0) cache.1)

  module _ (key : ℕ) (rest : List ℕ) where
    fewer_in : (other : ℕ) (held : List ℕ) → is_in other (without_farthest rest held) ≡ true → is_in other held ≡ true
    fewer_in other [] there = there
    fewer_in other (first ∷ held) there = (left_without (farthest rest first held) other (first ∷ held) there).1

    optimal_on_demand : (other : ℕ) (held : List ℕ) → is_in other (optimal_after capacity key rest held) ≡ true → (key ≡ other) ⊎ (is_in other held ≡ true)
    optimal_on_demand other held there = elim (cases_Bool (is_in key held)) [
      | inl is ↦ inr (rw is at there)
      | inr missed ↦ elim (cases_Bool (nat_lt (length held) capacity)) [
        | inl space ↦ front_or_behind key other held (rw space at (rw missed at there))
        | inr full ↦ elim (front_or_behind key other (without_farthest rest held) (rw full at (rw missed at there))) [ inl same ↦ inl same | inr behind ↦ inr (fewer_in other held behind) ]
      ]
    ]

    fewer_fit : (held : List ℕ) → length held ≤ capacity → 1 + length (without_farthest rest held) ≤ capacity
    fewer_fit [] within = omega (arith, some)
    fewer_fit (first ∷ held) within = omega (arith, within, without_shorter (farthest rest first held) (first ∷ held) (farthest_in rest first held))

    pub optimal_fits : (held : List ℕ) → length held ≤ capacity → length (optimal_after capacity key rest held) ≤ capacity
    optimal_fits held within = elim (cases_Bool (is_in key held)) [
      | inl is ↦ rw is within
      | inr missed ↦ elim (cases_Bool (nat_lt (length held) capacity)) [
        | inl space ↦ rw missed (rw space (omega (arith, ltb-true (length held) capacity space)))
        | inr full ↦ rw missed (rw full (omega (arith, fewer_fit held within)))
      ]
    ]

  pub optimum_is_demand : IsDemandPolicy (fits capacity) has foreseeing capacity
  optimum_is_demand = record {
    goes_on = λ key cache is. optimal_fits key (drop 1 cache.0) cache.1 is;
    comes = λ key cache is. optimal_comes capacity key (drop 1 cache.0) cache.1;
    on_demand = λ key other cache is there. optimal_on_demand key (drop 1 cache.0) other cache.1 there;
    held = λ cache. cache.1;
    listed = λ key cache is. refl;
    room = λ cache is. is;
  }

  -- so the optimum's hits are those of a demand policy
  pub attained : (trace held : List ℕ) → hits has foreseeing trace (trace, held) ≡ optimal_hits_from capacity trace held
  attained [] held = refl
  attained (key ∷ rest) held = ap (λ n. (if is_in key held then 1 else 0) + n) (attained rest (optimal_after capacity key rest held))

  seen : (m : ℕ) (trace held : List ℕ) → hits has foreseeing (take m trace) (trace, held) ≡ hit_count (take m (optimal_outcomes_from capacity trace held))
  seen zero trace held = refl
  seen (suc m) [] held = refl
  seen (suc m) (key ∷ rest) held = ap (λ n. (if is_in key held then 1 else 0) + n) (seen m rest (optimal_after capacity key rest held))

  -- and of the first keys of a trace it hits as many as if the trace ended after them
  pub first_optimal_hits : (m : ℕ) (trace : List ℕ) → hit_count (take m (optimal_outcomes capacity trace)) ≡ optimal_hits capacity (take m trace)
  first_optimal_hits m trace =
      let most = optimum (fits capacity) has foreseeing capacity optimum_is_demand (take m trace) (trace, []) (omega arith) (λ key. refl) in
      let least = optimum_first (fits capacity) has foreseeing capacity optimum_is_demand m trace (take m trace, []) (omega arith) (λ key. refl) in
      omega (arith, seen m trace [], attained (take m trace) [], most, least)

-- a demand policy of a capacity is also one of every larger capacity
pub with_more_room : {Cache : Type 0} (IsCache : Cache → Type 0) (holds : ℕ → Cache → Bool) (after : ℕ → Cache → Cache) (less more : ℕ) → less ≤ more
    → IsDemandPolicy IsCache holds after less → IsDemandPolicy IsCache holds after more
with_more_room IsCache holds after less more below demand = record {
  goes_on = demand.goes_on;
  comes = demand.comes;
  on_demand = demand.on_demand;
  held = demand.held;
  listed = demand.listed;
  room = λ cache is. omega (arith, below, demand.room cache is);
}

-- so more room costs the optimum no hit
pub more_room_no_fewer_hits : (less more : ℕ) → 0 < less → less ≤ more → (trace : List ℕ) → optimal_hits less trace ≤ optimal_hits more trace
more_room_no_fewer_hits less more some below trace =
    let demand = with_more_room (fits less) has (foreseeing less some) less more below (optimum_is_demand less some) in
    omega (arith, attained less some trace [], optimum (fits less) has (foreseeing less some) more demand trace (trace, []) (omega arith) (λ key. refl))

-- LRU and FIFO.

taken_in : (key n : ℕ) (held : List ℕ) → is_in key (take n held) ≡ true → is_in key held ≡ true
taken_in key zero held there = absurd cc
taken_in key (suc n) [] there = absurd cc
taken_in key (suc n) (first ∷ held) there = elim (or_cases (first == key) (is_in key (take n held)) there) [
  | inl same ↦ or_left (first == key) (is_in key held) same
  | inr behind ↦ or_right (first == key) (is_in key held) (taken_in key n held behind)
]

-- a list after an access to a key: it holds the key and nothing else new, within the capacity
record Demands (capacity key : ℕ) (held now : List ℕ) : Type 0 where
  comes : is_in key now ≡ true
  on_demand : (other : ℕ) → is_in other now ≡ true → (key ≡ other) ⊎ (is_in other held ≡ true)
  room : length now ≤ capacity

module _ (capacity : ℕ) (some : 0 < capacity) (key : ℕ) (held : List ℕ) (within : length held ≤ capacity) where
  hit_demands : (policy : PlainPolicy) → is_in key held ≡ true → Demands capacity key held (after_hit policy key held)
  hit_demands LeastRecentlyUsed is = record {
    comes = in_first key (without key held);
    on_demand = λ other there. elim (front_or_behind key other (without key held) there) [ inl same ↦ inl same | inr behind ↦ inr (left_without key other held behind).1 ];
    room = omega (arith, within, without_shorter key held is);
  }
  hit_demands FirstInFirstOut is = record { comes = is; on_demand = λ other there. inr there; room = within }

  brought_demands : (n : ℕ) → capacity ≡ suc n → Demands capacity key held (key ∷ take n held)
  brought_demands n is = record {
    comes = in_first key (take n held);
    on_demand = λ other there. elim (front_or_behind key other (take n held) there) [ inl same ↦ inl same | inr behind ↦ inr (taken_in other n held behind) ];
    room = omega (arith, is, length-take n held);
  }

plain_demands : (policy : PlainPolicy) (capacity : ℕ) → 0 < capacity → (key : ℕ) (held : List ℕ) → length held ≤ capacity → Demands capacity key held (plain_after policy capacity key held)
plain_demands policy zero some key held within = absurd (omega (arith, some))
plain_demands policy (suc n) some key held within = elim (cases_Bool (is_in key held)) [
  | inl is ↦ rw is (hit_demands (suc n) some key held within policy is)
  | inr missed ↦ rw missed (brought_demands (suc n) some key held within n refl)
]

pub plain_is_demand : (policy : PlainPolicy) (capacity : ℕ) → 0 < capacity → IsDemandPolicy (λ held. length held ≤ capacity) is_in (plain_after policy capacity) capacity
plain_is_demand policy capacity some = record {
  goes_on = λ key held within. (plain_demands policy capacity some key held within).room;
  comes = λ key held within. (plain_demands policy capacity some key held within).comes;
  on_demand = λ key other held within. (plain_demands policy capacity some key held within).on_demand other;
  held = λ held. held;
  listed = λ key held within. refl;
  room = λ held within. within;
}

-- CLOCK.

abbrev keys_on : Ring → List ℕ
keys_on ring = map (λ e. e.0) ring

on_is_in : (key : ℕ) (ring : Ring) → is_on key ring ≡ is_in key (keys_on ring)
on_is_in key [] = refl
on_is_in key (e ∷ ring) = ap (λ b. b || is_on key ring) (nat_eq_equiv.symm key e.0) ∙ ap (λ b. (e.0 == key) || b) (on_is_in key ring)

marked_keys : (key : ℕ) (ring : Ring) → keys_on (marked key ring) ≡ keys_on ring
marked_keys key [] = refl
marked_keys key (e ∷ ring) =
    elim (key == e.0) as (λ b. (if b then (e.0, true) else e).0 ∷ keys_on (marked key ring) ≡ e.0 ∷ keys_on ring)
    [ true ↦ ap (λ rest. e.0 ∷ rest) (marked_keys key ring) | false ↦ ap (λ rest. e.0 ∷ rest) (marked_keys key ring) ]

-- a key behind the others
behind_in : (key : ℕ) (mark : Bool) (ring : Ring) → is_in key (keys_on (ring ++ (key, mark) ∷ [])) ≡ true
behind_in key mark [] = in_first key []
behind_in key mark (e ∷ ring) = or_right (e.0 == key) (is_in key (keys_on (ring ++ (key, mark) ∷ []))) (behind_in key mark ring)

others_or_behind : (key other : ℕ) (mark : Bool) (ring : Ring) → is_in other (keys_on (ring ++ (key, mark) ∷ [])) ≡ true → (key ≡ other) ⊎ (is_in other (keys_on ring) ≡ true)
others_or_behind key other mark [] there = front_or_behind key other [] there
others_or_behind key other mark (e ∷ ring) there = elim (or_cases (e.0 == other) (is_in other (keys_on (ring ++ (key, mark) ∷ []))) there) [
  | inl same ↦ inr (or_left (e.0 == other) (is_in other (keys_on ring)) same)
  | inr later ↦ elim (others_or_behind key other mark ring later) [ inl same ↦ inl same | inr before ↦ inr (or_right (e.0 == other) (is_in other (keys_on ring)) before) ]
]

-- the hand adds no keys, and makes the ring no longer
moved_keys : (n other : ℕ) (ring : Ring) → is_in other (keys_on (moved_on n ring)) ≡ true → is_in other (keys_on ring) ≡ true
moved_keys zero other ring = λ there. there
moved_keys (suc n) other [] = λ there. there
moved_keys (suc n) other (e ∷ ring) =
    elim e.1 as (λ b. is_in other (keys_on (if b then moved_on n (ring ++ (e.0, false) ∷ []) else e ∷ ring)) ≡ true → is_in other (keys_on (e ∷ ring)) ≡ true) [
      | true ↦ λ there. elim (others_or_behind e.0 other false ring (moved_keys n other (ring ++ (e.0, false) ∷ []) there)) [
        | inl same ↦ or_left (e.0 == other) (is_in other (keys_on ring)) (eq-eqb e.0 other same)
        | inr before ↦ or_right (e.0 == other) (is_in other (keys_on ring)) before
      ]
      | false ↦ λ there. there
    ]

moved_length : (n : ℕ) (ring : Ring) → length (moved_on n ring) ≡ length ring
moved_length zero ring = refl
moved_length (suc n) [] = refl
moved_length (suc n) (e ∷ ring) =
    elim e.1 as (λ b. length (if b then moved_on n (ring ++ (e.0, false) ∷ []) else e ∷ ring) ≡ length (e ∷ ring))
    [ true ↦ omega (arith, moved_length n (ring ++ (e.0, false) ∷ []), length-append ring ((e.0, false) ∷ [])) | false ↦ refl ]

dropped_keys : (other : ℕ) (ring : Ring) → is_in other (keys_on (drop 1 ring)) ≡ true → is_in other (keys_on ring) ≡ true
dropped_keys other [] there = there
dropped_keys other (e ∷ ring) there = or_right (e.0 == other) (is_in other (keys_on ring)) there

module _ (capacity : ℕ) (some : 0 < capacity) (key : ℕ) (ring : Ring) (within : length ring ≤ capacity) where
  hit_marks : is_on key ring ≡ true → Demands capacity key (keys_on ring) (keys_on (marked key ring))
  hit_marks is = record {
    comes = ap (is_in key) (marked_keys key ring) ∙ sym (on_is_in key ring) ∙ is;
    on_demand = λ other there. inr (sym (ap (is_in other) (marked_keys key ring)) ∙ there);
    room = omega (arith, within, ap (length {A = ℕ}) (marked_keys key ring), length-map ring (λ e. e.0));
  }

  behind_demands : (others : Ring) → ((other : ℕ) → is_in other (keys_on others) ≡ true → is_in other (keys_on ring) ≡ true) → 1 + length others ≤ capacity
      → Demands capacity key (keys_on ring) (keys_on (others ++ (key, false) ∷ []))
  behind_demands others were fewer = record {
    comes = behind_in key false others;
    on_demand = λ other there. elim (others_or_behind key other false others there) [ inl same ↦ inl same | inr before ↦ inr (were other before) ];
    room = omega (arith, fewer, length-append others ((key, false) ∷ []), length-map (others ++ (key, false) ∷ []) (λ e. e.0));
  }

  joins : Demands capacity key (keys_on ring) (keys_on (joined capacity key ring))
  joins = elim (cases_Bool (nat_lt (length ring) capacity)) [
    | inl space ↦ rw space (behind_demands ring (λ other there. there) (omega (arith, ltb-true (length ring) capacity space)))
    | inr full ↦
        let round : Ring = moved_on (length ring) ring in
        rw full (behind_demands (drop 1 round) (λ other there. moved_keys (length ring) other ring (dropped_keys other round there)) (omega (
          arith,
          some,
          within,
          ltb-false (length ring) capacity full,
          length-drop 1 round,
          moved_length (length ring) ring,
        )))
  ]

  clock_demands : Demands capacity key (keys_on ring) (keys_on (clock_after capacity key ring))
  clock_demands = elim (cases_Bool (is_on key ring)) [ inl is ↦ rw is (hit_marks is) | inr missed ↦ rw missed joins ]

pub clock_is_demand : (capacity : ℕ) → 0 < capacity → IsDemandPolicy (λ ring. length ring ≤ capacity) is_on (clock_after capacity) capacity
clock_is_demand capacity some = record {
  goes_on = λ key ring within. omega (arith, (clock_demands capacity some key ring within).room, length-map (clock_after capacity key ring) (λ e. e.0));
  comes = λ key ring within. on_is_in key (clock_after capacity key ring) ∙ (clock_demands capacity some key ring within).comes;
  on_demand = λ key other ring within there. elim ((clock_demands capacity some key ring within).on_demand other (sym (on_is_in other (clock_after capacity key ring)) ∙ there)) [
    | inl same ↦ inl same
    | inr before ↦ inr (on_is_in other ring ∙ before)
  ];
  held = keys_on;
  listed = λ key ring within. on_is_in key ring;
  room = λ ring within. omega (arith, within, length-map ring (λ e. e.0));
}

-- None of them hits more keys of a trace than the optimum.

pub plain_optimum : (policy : PlainPolicy) (capacity : ℕ) → 0 < capacity → (trace : List ℕ) → plain_hits policy capacity trace ≤ optimal_hits capacity trace
plain_optimum policy capacity some trace =
    optimum (λ held. length held ≤ capacity) is_in (plain_after policy capacity) capacity (plain_is_demand policy capacity some) trace [] (omega arith) (λ key. refl)

pub clock_optimum : (capacity : ℕ) → 0 < capacity → (trace : List ℕ) → clock_hits capacity trace ≤ optimal_hits capacity trace
clock_optimum capacity some trace =
    optimum (λ ring. length ring ≤ capacity) is_on (clock_after capacity) capacity (clock_is_demand capacity some) trace [] (omega arith) (λ key. refl)
