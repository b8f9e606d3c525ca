-- The steps of the code of the optimum.
use Rattle.std.proofs.Common.{◌≡◌, ◌≢◌, inl, inr, ℕ, zero, suc, ◌+◌, ◌<◌, ◌≤◌, Bool, true, false, List, [], ◌∷◌, ◌++◌, length, get_or, set, get_or-set_same, get_or-set_other, drop}
use Rattle.std.proofs.Common.{drop-cons, eqb, refl, sym, ap, ◌∙◌, subst, arith}
use Rattle.std.specs.Prelude.{nat_lt, if◌then◌else◌}
use Rattle.std.specs.List.{IsDistinct}
use Rattle.std.proofs.lemmas.Bool.{cases_Bool, cases_eq, eq-eqb, ne_eqb, ltb-false, le-ltb, true≢false}
use Rattle.std.proofs.lemmas.List.{append_assoc, get_or_default}
use Rattle.clock2q_machine.specs.Hits.{is_in, without}
use Rattle.clock2q_machine.specs.Optimum.{farthest, without_farthest, optimal_after, optimal_hits_from, optimal_outcomes_from}
use Rattle.clock2q_machine.proofs.Sharing.{without-absent, distinct_none, absent_without, left_without}
use Rattle.clock2q_machine.proofs.Optimum.{optimal_comes, optimal_differ}
use Rattle.simulator_policies.specs.Awaited.{optimal_at, use_from, IsWaiting}
use Rattle.simulator_policies.proofs.DemandPolicies.{without_shorter, optimal_fits}
use Rattle.simulator_policies.proofs.Awaited.{use_now, use_passed, used_few, left_one, passed, joined_one, joined_unused, evicts, evicts_some, evicts_unused}

-- The next uses, from the last access to the first.

abbrev pub AreSoonest : List ℕ → ℕ → ℕ → List ℕ → Type 0
AreSoonest trace keys at soonest = (key : ℕ) → key < keys → get_or soonest key 0 ≡ use_from trace at key

abbrev pub AreNext : List ℕ → ℕ → List ℕ → Type 0
AreNext trace at next = (index : ℕ) → at ≤ index → index < length trace → get_or next index 0 ≡ use_from trace (suc index) (get_or trace index 0)

module _ (trace soonest next : List ℕ) (keys last : ℕ) (within : last < length trace) (long : length soonest ≡ keys) (longer : length next ≡ length trace) (below : get_or trace last 0 < keys)
    (are : AreSoonest trace keys (suc last) soonest) (are_next : AreNext trace (suc last) next) where
  pub soonest_step : AreSoonest trace keys last (set soonest (get_or trace last 0) last)
  soonest_step key less = elim (cases_eq key (get_or trace last 0)) [
    | inl same ↦
        let new : get_or (set soonest (get_or trace last 0) last) (get_or trace last 0) 0 ≡ last = get_or-set_same soonest (get_or trace last 0) last 0 (omega (arith, below, long)) in
        ap (λ k. get_or (set soonest (get_or trace last 0) last) k 0) same ∙ new ∙ sym (use_now trace last within) ∙ ap (use_from trace last) (sym same)
    | inr other ↦ get_or-set_other soonest (get_or trace last 0) key last 0 other ∙ are key less ∙ use_passed trace last within key (ne_eqb (get_or trace last 0) key (λ e. other (sym e)))
  ]

  pub next_step : (found : ℕ) → found ≡ get_or soonest (get_or trace last 0) found → AreNext trace last (set next last found)
  next_step found read index from inside = elim (cases_eq index last) [
    | inl same ↦
        let new : get_or (set next last found) last 0 ≡ found = get_or-set_same next last found 0 (omega (arith, within, longer)) in
        let its : found ≡ use_from trace (suc last) (get_or trace last 0) =
        read ∙ get_or_default soonest (get_or trace last 0) found 0 (omega (arith, below, long))
        ∙ are (get_or trace last 0) below in
        ap (λ k. get_or (set next last found) k 0) same ∙ new ∙ its ∙ ap (λ k. use_from trace (suc k) (get_or trace k 0)) (sym same)
    | inr other ↦ get_or-set_other next last index found 0 other ∙ are_next index (omega (arith, other, from)) inside
  ]

-- What the optimum holds beside the key that was accessed last.

absent_still : (key : ℕ) (rest keys : List ℕ) → is_in key keys ≡ false → is_in key (without_farthest rest keys) ≡ false
absent_still key rest [] absent = refl
absent_still key rest (first ∷ keys) absent = elim (cases_Bool (is_in key (without (farthest rest first keys) (first ∷ keys)))) [
  | inl is ↦ absurd (true≢false (sym (left_without (farthest rest first keys) key (first ∷ keys) is).1 ∙ absent))
  | inr isnt ↦ isnt
]

without_front : (key : ℕ) (keys : List ℕ) → is_in key keys ≡ false → without key (key ∷ keys) ≡ keys
without_front key keys absent = rw (eq-eqb key key refl) (without-absent key keys absent)

module _ (capacity key : ℕ) (rest best : List ℕ) where
  rest_of_hit : is_in key best ≡ true → without key (optimal_after capacity key rest best) ≡ without key best
  rest_of_hit is = rw is refl

  rest_of_room : is_in key best ≡ false → nat_lt (length best) capacity ≡ true → without key (optimal_after capacity key rest best) ≡ best
  rest_of_room missed space = rw missed (rw space (without_front key best missed))

  rest_of_full : is_in key best ≡ false → nat_lt (length best) capacity ≡ false → without key (optimal_after capacity key rest best) ≡ without_farthest rest best
  rest_of_full missed full = rw missed (rw full (without_front key (without_farthest rest best) (absent_still key rest best missed)))

-- The code's steps.

module _ (capacity : ℕ) (some : 0 < capacity) (trace : List ℕ) where
  abbrev best : ℕ → List ℕ
  best at = optimal_at capacity trace at

  pub best_differ : (at : ℕ) → IsDistinct eqb (best at)
  best_differ zero = distinct_none
  best_differ (suc at) = optimal_differ capacity (get_or trace at 0) (drop (suc at) trace) (best at) (best_differ at)

  best_fit : (at : ℕ) → length (best at) ≤ capacity
  best_fit zero = omega arith
  best_fit (suc at) = optimal_fits capacity some (get_or trace at 0) (drop (suc at) trace) (best at) (best_fit at)

  module _ (at : ℕ) (within : at < length trace) (waits : ℕ → Bool) (count : ℕ) (is : IsWaiting trace at (best at) waits count) where
    abbrev key : ℕ
    key = get_or trace at 0

    -- the access hits if it was waited for
    pub hits_if_waited : waits at ≡ is_in key (best at)
    hits_if_waited = elim (cases_Bool (is_in key (best at))) [
      | inl held ↦
          let now : use_from trace at key ≡ at = use_now trace at within in
          sym (ap waits now) ∙ is.complete key held (omega (arith, now, within)) ∙ sym held
      | inr missed ↦ elim (cases_Bool (waits at)) [
        | inl waited ↦ absurd (true≢false (sym (is.sound at waited).resident ∙ missed))
        | inr none ↦ none ∙ sym missed
      ]
    ]

    -- what is left to wait for without the key
    abbrev Rest : (ℕ → Bool) → ℕ → Type 0
    Rest left less = IsWaiting trace (suc at) (without key (best (suc at))) left less

    pub rest_hit : waits at ≡ true → (left : ℕ → Bool) (less : ℕ) → left at ≡ false → ((index : ℕ) → index ≢ at → left index ≡ waits index) → count ≡ less + 1 → Rest left less
    rest_hit waited left less none others fewer =
        let held : is_in key (best at) ≡ true = sym hits_if_waited ∙ waited in
        let now : use_from trace at key ≡ at = use_now trace at within in
        let before : IsWaiting trace at (without key (best at)) left less = left_one trace at key (best at) waits left count less is (best_differ at) held
        (omega (arith, now, within)) (ap left now ∙ none) (λ index apart. others index (λ same. apart (same ∙ sym now))) fewer in
        subst (λ keys. IsWaiting trace (suc at) keys left less) (sym (rest_of_hit capacity key (drop (suc at) trace) (best at) held))
        (passed trace at (without key (best at)) left less within (absent_without key (best at)) before)

    module _ (unwaited : waits at ≡ false) where
      missed : is_in key (best at) ≡ false
      missed = sym hits_if_waited ∙ unwaited

      next_is : IsWaiting trace (suc at) (best at) waits count
      next_is = passed trace at (best at) waits count within missed is

      few : count ≤ length (best at)
      few = omega (arith, is.counted, used_few trace at (best at))

      pub rest_room : count < capacity → Rest waits count
      rest_room below = elim (cases_Bool (nat_lt (length (best at)) capacity)) [
        | inl space ↦ subst (λ keys. IsWaiting trace (suc at) keys waits count) (sym (rest_of_room capacity key (drop (suc at) trace) (best at) missed space)) next_is
        | inr full ↦ subst (λ keys. IsWaiting trace (suc at) keys waits count) (sym (rest_of_full capacity key (drop (suc at) trace) (best at) missed full))
            (evicts_unused trace (suc at) (best at) waits count next_is (best_differ at) (omega (arith, below, ltb-false (length (best at)) capacity full)))
      ]

      module _ (all : capacity ≤ count) where
        full : nat_lt (length (best at)) capacity ≡ false
        full = le-ltb (length (best at)) capacity (omega (arith, all, few))

        pub rest_full : (left : ℕ → Bool) (less last : ℕ) → waits last ≡ true → ((index : ℕ) → waits index ≡ true → index ≤ last)
            → left last ≡ false → ((index : ℕ) → index ≢ last → left index ≡ waits index) → count ≡ less + 1 → Rest left less
        rest_full left less last waited latest none others fewer =
            subst (λ keys. IsWaiting trace (suc at) keys left less) (sym (rest_of_full capacity key (drop (suc at) trace) (best at) missed full))
            (evicts trace (suc at) (best at) waits left count less last next_is (best_differ at) (omega (arith, all, best_fit at)) (omega (arith, all, some)) waited latest none others fewer)

        pub rest_none : ((index : ℕ) → waits index ≡ false) → ⊥
        rest_none none = evicts_some trace (suc at) (best at) waits count next_is (omega (arith, all, best_fit at)) (omega (arith, all, some)) none

  -- and with it
  module _ (at : ℕ) (waits : ℕ → Bool) (count : ℕ) (rest : IsWaiting trace (suc at) (without (get_or trace at 0) (best (suc at))) waits count) where
    comes : is_in (get_or trace at 0) (best (suc at)) ≡ true
    comes = optimal_comes capacity (get_or trace at 0) (drop (suc at) trace) (best at)

    pub room_to_join : count + 1 ≤ capacity
    room_to_join = omega (arith, rest.counted, used_few trace (suc at) (without (get_or trace at 0) (best (suc at))), without_shorter (get_or trace at 0) (best (suc at)) comes, best_fit (suc at))

    pub joined : (next : ℕ) (more : ℕ → Bool) → next ≡ use_from trace (suc at) (get_or trace at 0) → next < length trace → more next ≡ true → ((index : ℕ) → index ≢ next → more index ≡ waits index)
        → IsWaiting trace (suc at) (best (suc at)) more (count + 1)
    joined next more e again new others =
        joined_one trace (suc at) (get_or trace at 0) (best (suc at)) waits more count rest (best_differ (suc at)) comes
        (omega (arith, e, again)) (ap more (sym e) ∙ new) (λ index apart. others index (λ same. apart (same ∙ e)))

    pub not_joined : (next : ℕ) → next ≡ use_from trace (suc at) (get_or trace at 0) → length trace ≤ next → IsWaiting trace (suc at) (best (suc at)) waits count
    not_joined next e past = joined_unused trace (suc at) (get_or trace at 0) (best (suc at)) waits count rest (best_differ (suc at)) comes (omega (arith, e, past))

-- The hits so far and those to come, with one more key.
pub hits_on : (capacity : ℕ) (trace : List ℕ) (at before now total : ℕ) → at < length trace → before + optimal_hits_from capacity (drop at trace) (optimal_at capacity trace at) ≡ total
    → now ≡ before + (if is_in (get_or trace at 0) (optimal_at capacity trace at) then 1 else 0) → now + optimal_hits_from capacity (drop (suc at) trace) (optimal_at capacity trace (suc at)) ≡ total
hits_on capacity trace at before now total within so_far more =
    let rest : optimal_hits_from capacity (drop at trace) (optimal_at capacity trace at) ≡
    (if is_in (get_or trace at 0) (optimal_at capacity trace at) then 1 else 0) + optimal_hits_from capacity
    (drop (suc at) trace) (optimal_at capacity trace (suc at)) =
    ap (λ keys. optimal_hits_from capacity keys (optimal_at capacity trace at)) (drop-cons trace at 0 within) in
    omega (arith, rest, so_far, more)

pub outcomes_on : (capacity : ℕ) (trace : List ℕ) (at : ℕ) (before now total : List Bool) → at < length trace →
    before ++ optimal_outcomes_from capacity (drop at trace) (optimal_at capacity trace at) ≡ total
    → now ≡ before ++ is_in (get_or trace at 0) (optimal_at capacity trace at) ∷ [] → now ++ optimal_outcomes_from capacity (drop (suc at) trace) (optimal_at capacity trace (suc at)) ≡ total
outcomes_on capacity trace at before now total within so_far more =
    let key : ℕ = get_or trace at 0 in
    let ahead : List Bool = optimal_outcomes_from capacity (drop (suc at) trace) (optimal_at capacity trace (suc at)) in
    let rest : optimal_outcomes_from capacity (drop at trace) (optimal_at capacity trace at) ≡ is_in key (optimal_at capacity trace at) ∷ ahead =
    ap (λ keys. optimal_outcomes_from capacity keys (optimal_at capacity trace at)) (drop-cons trace at 0 within) in
    ap (λ seen. seen ++ ahead) more ∙ append_assoc before (is_in key (optimal_at capacity trace at) ∷ []) ahead ∙ sym (ap (λ coming. before ++ coming) rest) ∙ so_far
