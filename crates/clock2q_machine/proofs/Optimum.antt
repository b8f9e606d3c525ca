-- Belady's optimum is optimal: no demand policy of its capacity hits more keys of a trace.
use Rattle.std.proofs.Common.{◌≡◌, ◌⊎◌, inl, inr, ℕ, zero, suc, ◌+◌, ◌-◌, ◌≤◌, ◌==◌, Bool, true, false, eqb, List, [], ◌∷◌, length, take, refl, sym, ap, ◌∙◌, arith}
use Rattle.std.specs.Prelude.{nat_lt, if◌then◌else◌}
use Rattle.std.specs.List.{IsDistinct}
use Rattle.std.proofs.lemmas.Bool.{cases_Bool, eqb-true, eq-eqb, ltb-true, ltb-false, or_cases, or_left, or_right, true≢false}
use Rattle.clock2q_machine.specs.Hits.{hits, hit_count, is_in, without}
use Rattle.clock2q_machine.specs.Optimum.{next_use, later, farthest, without_farthest, optimal_after, optimal_hits_from, optimal_hits, optimal_outcomes_from, optimal_outcomes, IsDemandPolicy}
use Rattle.clock2q_machine.proofs.Sharing.{distinct_none, distinct_more, different, shared, absent_without, left_without, others_without, different_without, length_without, different_are, in_different}
use Rattle.clock2q_machine.proofs.Sharing.{shared_more, shared_all, shared_within, shared_without, shared_turned}

-- The farthest next use.

later_first : (trace : List ℕ) (key other : ℕ) → next_use key trace ≤ next_use (later trace key other) trace
later_first trace key other = elim (cases_Bool (nat_lt (next_use key trace) (next_use other trace))) [
  | inl less ↦ rw less (omega (arith, ltb-true (next_use key trace) (next_use other trace) less))
  | inr more ↦ rw more (omega arith)
]

later_second : (trace : List ℕ) (key other : ℕ) → next_use other trace ≤ next_use (later trace key other) trace
later_second trace key other = elim (cases_Bool (nat_lt (next_use key trace) (next_use other trace))) [
  | inl less ↦ rw less (omega arith)
  | inr more ↦ rw more (omega (arith, ltb-false (next_use key trace) (next_use other trace) more))
]

farther_than_first : (trace : List ℕ) (key : ℕ) (held : List ℕ) → next_use key trace ≤ next_use (farthest trace key held) trace
farther_than_first trace key [] = omega arith
farther_than_first trace key (other ∷ held) = omega (arith, later_first trace key other, farther_than_first trace (later trace key other) held)

farther_than_others : (trace : List ℕ) (key other : ℕ) (held : List ℕ) → is_in other held ≡ true → next_use other trace ≤ next_use (farthest trace key held) trace
farther_than_others trace key other [] there = absurd cc
farther_than_others trace key other (next ∷ held) there = elim (or_cases (next == other) (is_in other held) there) [
  | inl same ↦ rw (sym (eqb-true next other same)) (omega (arith, later_second trace key next, farther_than_first trace (later trace key next) held))
  | inr behind ↦ farther_than_others trace (later trace key next) other held behind
]

pub farthest_is : (trace : List ℕ) (first key : ℕ) (held : List ℕ) → is_in key (first ∷ held) ≡ true → next_use key trace ≤ next_use (farthest trace first held) trace
farthest_is trace first key held there = elim (or_cases (first == key) (is_in key held) there) [
  | inl same ↦ rw (sym (eqb-true first key same)) (farther_than_first trace first held)
  | inr behind ↦ farther_than_others trace first key held behind
]

-- if a key is among the next ones of a trace, so is each key that is used no later
used_sooner : (n key other : ℕ) (trace : List ℕ) → next_use other trace ≤ next_use key trace → is_in key (take n trace) ≡ true → is_in other (take n trace) ≡ true
used_sooner zero key other trace sooner there = absurd cc
used_sooner (suc n) key other [] sooner there = absurd cc
used_sooner (suc n) key other (first ∷ trace) sooner there = elim (cases_Bool (first == other)) [
  | inl now ↦ or_left (first == other) (is_in other (take n trace)) now
  | inr apart ↦ elim (cases_Bool (first == key)) [
    | inl same ↦ absurd (omega (arith, rw same at (rw apart at sooner)))
    | inr differ ↦
        let less : next_use other trace ≤ next_use key trace = omega (arith, rw differ at (rw apart at sooner)) in
        or_right (first == other) (is_in other (take n trace)) (used_sooner n key other trace less (rw differ at there))
  ]
]

-- the next keys of a trace, each once; and without one of them
abbrev coming : ℕ → List ℕ → List ℕ
coming n trace = different (take n trace)

abbrev others : ℕ → ℕ → List ℕ → List ℕ
others n key rest = without key (coming n rest)

-- a list that contains a key shares one more key with those to come than with the others, if the key is to come
with_key : (n key : ℕ) (rest held : List ℕ) → is_in key held ≡ true → shared (coming n rest) held ≡ (if is_in key (coming n rest) then 1 else 0) + shared (others n key rest) held
with_key n key rest held is = shared_without key (coming n rest) held (different_are (take n rest)) is

-- The optimum after a key of the trace.

module _ (capacity key : ℕ) (rest best : List ℕ) where
  pub optimal_comes : is_in key (optimal_after capacity key rest best) ≡ true
  optimal_comes = elim (cases_Bool (is_in key best)) [
    | inl is ↦ rw is is
    | inr missed ↦ rw missed (or_left (key == key) (is_in key (if nat_lt (length best) capacity then best else without_farthest rest best)) (eq-eqb key key refl))
  ]

  module _ (differ : IsDistinct eqb best) where
    fewer_differ : (best : List ℕ) → IsDistinct eqb best → is_in key best ≡ false → IsDistinct eqb (key ∷ without_farthest rest best)
    fewer_differ [] differ missed = distinct_more key [] refl distinct_none
    fewer_differ (first ∷ best) differ missed =
        let gone = farthest rest first best in
        distinct_more key (without gone (first ∷ best)) (still_absent gone (first ∷ best) missed) (different_without gone (first ∷ best) differ) where
          still_absent : (gone : ℕ) (keys : List ℕ) → is_in key keys ≡ false → is_in key (without gone keys) ≡ false
          still_absent gone keys absent = elim (cases_Bool (gone == key)) [
            | inl same ↦ ap (λ k. is_in key (without k keys)) (eqb-true gone key same) ∙ absent_without key keys
            | inr apart ↦ others_without gone key keys apart ∙ absent
          ]

    pub optimal_differ : IsDistinct eqb (optimal_after capacity key rest best)
    optimal_differ = elim (cases_Bool (is_in key best)) [
      | inl is ↦ rw is differ
      | inr missed ↦ elim (cases_Bool (nat_lt (length best) capacity)) [
        | inl space ↦ rw missed (rw space (distinct_more key best missed differ))
        | inr full ↦ rw missed (rw full (fewer_differ best differ missed))
      ]
    ]

  -- it shares as many of the others to come as before, or all but one of its keys are among them
  abbrev KeepsUp : ℕ → List ℕ → Type 0
  KeepsUp n now = (shared (others n key rest) best ≤ shared (others n key rest) now) ⊎ (capacity ≤ 1 + shared (others n key rest) now)

  more_keeps : (n : ℕ) → KeepsUp n (key ∷ best)
  more_keeps n = inl (shared_more (others n key rest) best (key ∷ best) (λ other there is. or_right (key == other) (is_in other best) is))

module _ (capacity key n : ℕ) (rest : List ℕ) (first : ℕ) (best : List ℕ) (differ : IsDistinct eqb (first ∷ best)) (missed : is_in key (first ∷ best) ≡ false) where
  abbrev gone : ℕ
  gone = farthest rest first best

  abbrev fewer : List ℕ
  fewer = without gone (first ∷ best)

  -- the evicted key isn't among those to come
  unwanted : is_in gone (others n key rest) ≡ false → shared (others n key rest) (first ∷ best) ≤ shared (others n key rest) (key ∷ fewer)
  unwanted absent = shared_more (others n key rest) (first ∷ best) (key ∷ fewer) (λ other there is. or_right (key == other) (is_in other fewer) (elim (cases_Bool (gone == other)) [
    | inl same ↦ absurd (true≢false (sym there ∙ ap (λ k. is_in k (others n key rest)) (sym (eqb-true gone other same)) ∙ absent))
    | inr apart ↦ others_without gone other (first ∷ best) apart ∙ is
  ]))

  -- or it is, and then all other held keys come before it
  module _ (wanted : is_in gone (others n key rest) ≡ true) where
    comes_sooner : (other : ℕ) → is_in other fewer ≡ true → is_in other (others n key rest) ≡ true
    comes_sooner other there =
        let was : is_in other (first ∷ best) ≡ true = (left_without gone other (first ∷ best) there).1 in
        let gone_comes : is_in gone (take n rest) ≡ true = sym (in_different gone (take n rest)) ∙ (left_without key gone (coming n rest) wanted).1 in
        let comes : is_in other (coming n rest) ≡ true = in_different other (take n rest) ∙ used_sooner n gone other rest (farthest_is rest first other best was) gone_comes in
        elim (cases_Bool (key == other)) [
          | inl same ↦ absurd (true≢false (sym was ∙ ap (λ k. is_in k (first ∷ best)) (sym (eqb-true key other same)) ∙ missed))
          | inr apart ↦ others_without key other (coming n rest) apart ∙ comes
        ]

    all_wanted : length (first ∷ best) ≤ 1 + shared (others n key rest) (key ∷ fewer)
    all_wanted = omega (
      arith,
      length_without gone (first ∷ best) differ,
      shared_all fewer (others n key rest) comes_sooner,
      shared_turned fewer (others n key rest) (different_without gone (first ∷ best) differ),
      shared_more (others n key rest) fewer (key ∷ fewer) (λ other there is. or_right (key == other) (is_in other fewer) is),
    )

  fewer_keeps : capacity ≤ length (first ∷ best) → KeepsUp capacity key rest (first ∷ best) n (key ∷ fewer)
  fewer_keeps full = elim (cases_Bool (is_in gone (others n key rest))) [
    | inl wanted ↦ inr (omega (arith, full, all_wanted wanted))
    | inr absent ↦ inl (unwanted absent)
  ]

full_keeps : (capacity key n : ℕ) (rest best : List ℕ) → IsDistinct eqb best → is_in key best ≡ false → capacity ≤ length best → KeepsUp capacity key rest best n (key ∷ without_farthest rest best)
full_keeps capacity key n rest [] differ missed full = inr (omega (arith, full))
full_keeps capacity key n rest (first ∷ best) differ missed full = fewer_keeps capacity key n rest first best differ missed full

keeps_up : (capacity key n : ℕ) (rest best : List ℕ) → IsDistinct eqb best → KeepsUp capacity key rest best n (optimal_after capacity key rest best)
keeps_up capacity key n rest best differ = elim (cases_Bool (is_in key best)) [
  | inl is ↦ rw is (inl (omega arith))
  | inr missed ↦ elim (cases_Bool (nat_lt (length best) capacity)) [
    | inl space ↦ rw missed (rw space (more_keeps capacity key rest best n))
    | inr full ↦ rw missed (rw full (full_keeps capacity key n rest best differ missed (ltb-false (length best) capacity full)))
  ]
]

-- Of the next n keys to come, for any n, a policy's cache shares no more than the optimum's plus a lead of hits.

abbrev IsAhead : ℕ → List ℕ → List ℕ → List ℕ → Type 0
IsAhead lead trace best held = (n : ℕ) → shared (coming n trace) held ≤ shared (coming n trace) best + lead

-- the lead after a key
abbrev lead_after : ℕ → Bool → Bool → ℕ
lead_after lead best_hits hits = ((if best_hits then 1 else 0) + lead) - (if hits then 1 else 0)

module _ {Cache : Type 0} (IsCache : Cache → Type 0) (holds : ℕ → Cache → Bool) (after : ℕ → Cache → Cache) (capacity : ℕ) (demand : IsDemandPolicy IsCache holds after capacity) where
  abbrev held : Cache → List ℕ
  held cache = demand.held cache

  module _ (key : ℕ) (rest : List ℕ) (cache : Cache) (is_cache : IsCache cache) where
    abbrev next : List ℕ
    next = held (after key cache)

    listed_next : (other : ℕ) → holds other (after key cache) ≡ is_in other next
    listed_next other = demand.listed other (after key cache) (demand.goes_on key cache is_cache)

    key_comes : is_in key next ≡ true
    key_comes = sym (listed_next key) ∙ demand.comes key cache is_cache

    module _ (n : ℕ) where
      -- of the others to come it shares no more than before
      nothing_new : shared (others n key rest) next ≤ shared (others n key rest) (held cache)
      nothing_new = shared_more (others n key rest) next (held cache) (λ other there is. elim (demand.on_demand key other cache is_cache (listed_next other ∙ is)) [
        | inl same ↦ absurd (true≢false (sym there ∙ ap (λ k. is_in k (others n key rest)) (sym same) ∙ absent_without key (coming n rest)))
        | inr before ↦ sym (demand.listed other cache is_cache) ∙ before
      ])

      -- and fewer than its capacity, as it holds the key too
      room_for_key : 1 + shared (others n key rest) next ≤ capacity
      room_for_key =
          let keys : List ℕ = key ∷ others n key rest in
          let differ : IsDistinct eqb keys =
          distinct_more key (others n key rest) (absent_without key (coming n rest)) (different_without key (coming n rest) (different_are (take n rest))) in
          omega (
            arith,
            ap (λ b. (if b then 1 else 0) + shared (others n key rest) next) key_comes,
            shared_turned keys next differ,
            shared_within next keys,
            demand.room (after key cache) (demand.goes_on key cache is_cache),
          )

      still_ahead : (best : List ℕ) (lead : ℕ) → IsDistinct eqb best → IsAhead lead (key ∷ rest) best (held cache)
          → shared (coming n rest) next ≤ shared (coming n rest) (optimal_after capacity key rest best) + lead_after lead (is_in key best) (is_in key (held cache))
      still_ahead best lead differ ahead =
          let before = ahead (suc n) in
          let best_key = with_key n key rest (optimal_after capacity key rest best) (optimal_comes capacity key rest best) in
          let held_key = with_key n key rest next key_comes in
          elim (keeps_up capacity key n rest best differ) [
            | inl kept ↦ omega (arith, before, best_key, held_key, nothing_new, kept)
            | inr full ↦ omega (arith, best_key, held_key, room_for_key, full)
          ]

  -- so its hits are at most the optimum's plus that lead
  hits_behind : (trace : List ℕ) (cache : Cache) (best : List ℕ) (lead : ℕ) → IsCache cache → IsDistinct eqb best → IsAhead lead trace best (held cache)
      → hits holds after trace cache ≤ optimal_hits_from capacity trace best + lead
  hits_behind [] cache best lead is_cache differ ahead = omega arith
  hits_behind (key ∷ rest) cache best lead is_cache differ ahead = omega (
    arith,
    ahead 1,
    ap {B = ℕ} (λ b. if b then 1 else 0) (demand.listed key cache is_cache),
    hits_behind rest (after key cache) (optimal_after capacity key rest best) (lead_after lead (is_in key best) (is_in key (held cache)))
        (demand.goes_on key cache is_cache)
        (optimal_differ capacity key rest best differ)
        (λ n. still_ahead key rest cache is_cache n best lead differ ahead),
  )

  -- and so are those among the first keys, of the optimum that knows the whole trace
  hits_behind_first : (m : ℕ) (trace : List ℕ) (cache : Cache) (best : List ℕ) (lead : ℕ) → IsCache cache → IsDistinct eqb best → IsAhead lead trace best (held cache)
      → hits holds after (take m trace) cache ≤ hit_count (take m (optimal_outcomes_from capacity trace best)) + lead
  hits_behind_first zero trace cache best lead is_cache differ ahead = omega arith
  hits_behind_first (suc m) [] cache best lead is_cache differ ahead = omega arith
  hits_behind_first (suc m) (key ∷ rest) cache best lead is_cache differ ahead = omega (
    arith,
    ahead 1,
    ap {B = ℕ} (λ b. if b then 1 else 0) (demand.listed key cache is_cache),
    hits_behind_first m rest (after key cache) (optimal_after capacity key rest best) (lead_after lead (is_in key best) (is_in key (held cache)))
        (demand.goes_on key cache is_cache)
        (optimal_differ capacity key rest best differ)
        (λ n. still_ahead key rest cache is_cache n best lead differ ahead),
  )

  -- an empty cache shares no more than the optimum's, which is empty too
  level : (trace : List ℕ) (cache : Cache) → IsCache cache → ((key : ℕ) → holds key cache ≡ false) → IsAhead 0 trace [] (held cache)
  level trace cache is_cache empty =
      let none : (key : ℕ) → is_in key (held cache) ≡ false = λ key. sym (demand.listed key cache is_cache) ∙ empty key in
      λ n. omega (arith, shared_more (coming n trace) (held cache) [] (λ key there is. sym (none key) ∙ is))

  -- from an empty cache, no demand policy hits more keys of a trace than the optimum
  pub optimum : (trace : List ℕ) (cache : Cache) → IsCache cache → ((key : ℕ) → holds key cache ≡ false) → hits holds after trace cache ≤ optimal_hits capacity trace
  optimum trace cache is_cache empty =
      omega (arith, hits_behind trace cache [] 0 is_cache distinct_none (level trace cache is_cache empty))

  -- nor more of the first keys than the optimum that knows the whole trace
  pub optimum_first : (m : ℕ) (trace : List ℕ) (cache : Cache) → IsCache cache → ((key : ℕ) → holds key cache ≡ false) →
      hits holds after (take m trace) cache ≤ hit_count (take m (optimal_outcomes capacity trace))
  optimum_first m trace cache is_cache empty =
      omega (arith, hits_behind_first m trace cache [] 0 is_cache distinct_none (level trace cache is_cache empty))
