-- The next uses of the keys that the optimum holds, from one access to the next.
use Rattle.std.proofs.Common.{◌≡◌, ◌≢◌, inl, inr, ℕ, suc, ◌+◌, ◌<◌, ◌≤◌, ◌==◌, Bool, true, false, eqb, List, [], ◌∷◌, length, get_or, drop, drop-cons, refl, sym, ap, ◌∙◌, subst, arith}
use Rattle.std.specs.Prelude.{nat_lt, if◌then◌else◌}
use Rattle.std.specs.List.{IsDistinct}
use Rattle.std.proofs.lemmas.Bool.{cases_Bool, cases_eq, cases_lt, eqb-true, eq-eqb, ne_eqb, lt-ltb, le-ltb, or_cases, or_left, or_right, or_parts, true≢false}
use Rattle.std.proofs.lemmas.List.{get_or-drop, length-drop}
use Rattle.std.proofs.lemmas.Map.Keys.{IsDistinct-tail}
use Rattle.clock2q_machine.specs.Hits.{is_in, without}
use Rattle.clock2q_machine.specs.Optimum.{next_use, farthest, without_farthest}
use Rattle.clock2q_machine.proofs.Sharing.{without-absent, distinct_first, left_without, others_without}
use Rattle.clock2q_machine.proofs.Optimum.{farthest_is}
use Rattle.simulator_policies.specs.Awaited.{use_from, used_from, IsWaiting}
use Rattle.simulator_policies.proofs.DemandPolicies.{farthest_in}

-- The next use of a key.

use_in : (trace : List ℕ) (key : ℕ) → next_use key trace < length trace → get_or trace (next_use key trace) 0 ≡ key
use_in [] key below = absurd (omega (arith, below))
use_in (first ∷ trace) key below = elim (cases_Bool (first == key)) [
  | inl same ↦ rw same (eqb-true first key same)
  | inr apart ↦
      let behind : 1 + next_use key trace ≡ suc (next_use key trace) = omega arith in
      rw apart (ap (λ i. get_or (first ∷ trace) i 0) behind ∙ use_in trace key (omega (arith, rw apart at below)))
]

module _ (trace : List ℕ) where
  abbrev key_at : ℕ → ℕ
  key_at index = get_or trace index 0

  -- the access at that index is of the key
  pub use_is : (at key : ℕ) → use_from trace at key < length trace → key_at (use_from trace at key) ≡ key
  use_is at key below = sym (get_or-drop at trace (next_use key (drop at trace)) 0) ∙ use_in (drop at trace) key (omega (arith, below, length-drop at trace))

  module _ (at : ℕ) (within : at < length trace) where
    from_now : drop at trace ≡ key_at at ∷ drop (suc at) trace
    from_now = drop-cons trace at 0 within

    pub use_now : use_from trace at (key_at at) ≡ at
    use_now =
        let here : next_use (key_at at) (key_at at ∷ drop (suc at) trace) ≡ 0 = rw (eq-eqb (key_at at) (key_at at) refl) refl in
        omega (arith, here, ap (next_use (key_at at)) from_now)

    pub use_passed : (key : ℕ) → (key_at at == key) ≡ false → use_from trace (suc at) key ≡ use_from trace at key
    use_passed key apart =
        let later : next_use key (key_at at ∷ drop (suc at) trace) ≡ 1 + next_use key (drop (suc at) trace) = rw apart refl in
        omega (arith, later, ap (next_use key) from_now)

  -- How many keys of a list are used again.

  abbrev one_if_used : ℕ → ℕ → ℕ
  one_if_used at key = if nat_lt (use_from trace at key) (length trace) then 1 else 0

  used : (at key : ℕ) → use_from trace at key < length trace → one_if_used at key ≡ 1
  used at key below = rw (lt-ltb (use_from trace at key) (length trace) below) refl

  unused : (at key : ℕ) → length trace ≤ use_from trace at key → one_if_used at key ≡ 0
  unused at key past = rw (le-ltb (use_from trace at key) (length trace) past) refl

  used_without : (at key : ℕ) (held : List ℕ) → IsDistinct eqb held → is_in key held ≡ true → used_from trace at held ≡ one_if_used at key + used_from trace at (without key held)
  used_without at key [] differ is = absurd (true≢false (sym is))
  used_without at key (first ∷ held) differ is = elim (cases_Bool (first == key)) [
    | inl same ↦
        let absent : is_in key held ≡ false = ap (λ k. is_in k held) (sym (eqb-true first key same)) ∙ distinct_first first held differ in
        rw same (ap {B = ℕ} (λ k. one_if_used at k + used_from trace at held) (eqb-true first key same)
        ∙ ap (λ keys. one_if_used at key + used_from trace at keys) (sym (without-absent key held absent)))
    | inr apart ↦ rw apart (omega (arith, used_without at key held (IsDistinct-tail eqb first held differ) (rw apart at is)))
  ]

  used_passed : (at : ℕ) → at < length trace → (held : List ℕ) → is_in (key_at at) held ≡ false → used_from trace (suc at) held ≡ used_from trace at held
  used_passed at within [] absent = refl
  used_passed at within (key ∷ held) absent =
      let parts = or_parts (key == key_at at) (is_in (key_at at) held) absent in
      let apart : (key_at at == key) ≡ false = ne_eqb (key_at at) key (λ is. true≢false (sym (eq-eqb key (key_at at) (sym is)) ∙ parts.0)) in
      omega (arith, ap {B = ℕ} (λ n. if nat_lt n (length trace) then 1 else 0) (use_passed at within key apart), used_passed at within held parts.1)

  pub used_few : (at : ℕ) (held : List ℕ) → used_from trace at held ≤ length held
  used_few at [] = omega arith
  used_few at (key ∷ held) = elim (cases_lt (use_from trace at key) (length trace)) [
    | inl again ↦ omega (arith, used at key again, used_few at held)
    | inr past ↦ omega (arith, unused at key past, used_few at held)
  ]

  -- if one of them is, there are some
  used_some : (at key : ℕ) (held : List ℕ) → is_in key held ≡ true → use_from trace at key < length trace → 0 < used_from trace at held
  used_some at key [] is again = absurd (true≢false (sym is))
  used_some at key (first ∷ held) is again = elim (or_cases (first == key) (is_in key held) is) [
    | inl same ↦ omega (arith, used at first (subst (λ k. use_from trace at k < length trace) (sym (eqb-true first key same)) again))
    | inr behind ↦ omega (arith, used_some at key held behind again)
  ]

  -- if all are, so is each of them
  used_all : (at key : ℕ) (held : List ℕ) → length held ≤ used_from trace at held → is_in key held ≡ true → use_from trace at key < length trace
  used_all at key [] all is = absurd (true≢false (sym is))
  used_all at key (first ∷ held) all is = elim (cases_lt (use_from trace at first) (length trace)) [
    | inl again ↦ elim (or_cases (first == key) (is_in key held) is) [
      | inl same ↦ subst (λ k. use_from trace at k < length trace) (eqb-true first key same) again
      | inr behind ↦ used_all at key held (omega (arith, used at first again, all)) behind
    ]
    | inr past ↦ absurd (omega (arith, unused at first past, used_few at held, all))
  ]

  -- and if not all are, one of them isn't
  unused_one : (at : ℕ) (held : List ℕ) → used_from trace at held < length held → (key : ℕ) × ((is_in key held ≡ true) × (length trace ≤ use_from trace at key))
  unused_one at [] few = absurd (omega (arith, few))
  unused_one at (first ∷ held) few = elim (cases_lt (use_from trace at first) (length trace)) [
    | inl again ↦
        let one = unused_one at held (omega (arith, used at first again, few)) in
        (one.0, (or_right (first == one.0) (is_in one.0 held) one.1.0, one.1.1))
    | inr past ↦ (first, (or_left (first == first) (is_in first held) (eq-eqb first first refl), past))
  ]

  -- What is waited for.

  pub some_wait : (at : ℕ) (held : List ℕ) (waits : ℕ → Bool) (count index : ℕ) → IsWaiting trace at held waits count → waits index ≡ true → 0 < count
  some_wait at held waits count index is waited =
      let its = is.sound index waited in
      omega (arith, is.counted, used_some at (key_at index) held its.resident (omega (arith, its.next, its.within)))

  -- one that is used again leaves
  pub left_one : (at key : ℕ) (held : List ℕ) (waits left : ℕ → Bool) (count less : ℕ) → IsWaiting trace at held waits count → IsDistinct eqb held → is_in key held ≡ true
      → use_from trace at key < length trace → left (use_from trace at key) ≡ false → ((index : ℕ) → index ≢ use_from trace at key → left index ≡ waits index) → count ≡ less + 1
      → IsWaiting trace at (without key held) left less
  left_one at key held waits left count less is differ there again gone others fewer = record {
    sound = λ index waited.
        let apart : index ≢ use_from trace at key = λ e. true≢false (sym waited ∙ ap left e ∙ gone) in
        let its = is.sound index (sym (others index apart) ∙ waited) in
        let other : (key == key_at index) ≡ false = ne_eqb key (key_at index) (λ e. apart (sym its.next ∙ ap (use_from trace at) (sym e))) in
        record { within = its.within; resident = others_without key (key_at index) held other ∙ its.resident; next = its.next };
    complete = λ other stays later.
        let was = left_without key other held stays in
        let apart : use_from trace at other ≢ use_from trace at key = λ e. true≢false (sym (eq-eqb key other (sym (use_is at key again) ∙ ap key_at (sym e) ∙ use_is at other later)) ∙ was.0) in
        others (use_from trace at other) apart ∙ is.complete other was.1 later;
    counted = omega (arith, is.counted, fewer, used_without at key held differ there, used at key again);
  }

  -- one that isn't used again leaves
  pub left_unused : (at key : ℕ) (held : List ℕ) (waits : ℕ → Bool) (count : ℕ) → IsWaiting trace at held waits count → IsDistinct eqb held → is_in key held ≡ true
      → length trace ≤ use_from trace at key → IsWaiting trace at (without key held) waits count
  left_unused at key held waits count is differ there past = record {
    sound = λ index waited.
        let its = is.sound index waited in
        let other : (key == key_at index) ≡ false = ne_eqb key (key_at index) (λ e. absurd (omega (arith, past, its.within, its.next, ap (use_from trace at) e))) in
        record { within = its.within; resident = others_without key (key_at index) held other ∙ its.resident; next = its.next };
    complete = λ other stays later. is.complete other (left_without key other held stays).1 later;
    counted = omega (arith, is.counted, used_without at key held differ there, unused at key past);
  }

  -- the key accessed now isn't held: the others' next uses are the same afterwards
  pub passed : (at : ℕ) (held : List ℕ) (waits : ℕ → Bool) (count : ℕ) → at < length trace → is_in (key_at at) held ≡ false → IsWaiting trace at held waits count
      → IsWaiting trace (suc at) held waits count
  passed at held waits count within absent is =
      let apart : (key : ℕ) → is_in key held ≡ true → (key_at at == key) ≡ false = λ key there. ne_eqb (key_at at) key (λ e. true≢false (sym there ∙ ap (λ k. is_in k held) (sym e) ∙ absent)) in
      record {
        sound = λ index waited.
            let its = is.sound index waited in
            record { within = its.within; resident = its.resident; next = use_passed at within (key_at index) (apart (key_at index) its.resident) ∙ its.next };
        complete = λ key there later.
            let same = use_passed at within key (apart key there) in
            ap waits same ∙ is.complete key there (omega (arith, later, same));
        counted = is.counted ∙ sym (used_passed at within held absent);
      }

  -- a key that is held again, if it is used again
  pub joined_one : (at key : ℕ) (held : List ℕ) (waits more : ℕ → Bool) (count : ℕ) → IsWaiting trace at (without key held) waits count → IsDistinct eqb held → is_in key held ≡ true
      → use_from trace at key < length trace → more (use_from trace at key) ≡ true → ((index : ℕ) → index ≢ use_from trace at key → more index ≡ waits index)
      → IsWaiting trace at held more (count + 1)
  joined_one at key held waits more count is differ there again new others = record {
    sound = λ index waited. elim (cases_eq index (use_from trace at key)) [
      | inl same ↦
          let same_key : key_at index ≡ key = ap key_at same ∙ use_is at key again in
          record { within = omega (arith, same, again); resident = ap (λ k. is_in k held) same_key ∙ there; next = ap (use_from trace at) same_key ∙ sym same }
      | inr apart ↦
          let its = is.sound index (sym (others index apart) ∙ waited) in
          record { within = its.within; resident = (left_without key (key_at index) held its.resident).1; next = its.next }
    ];
    complete = λ other inside later. elim (cases_Bool (key == other)) [
      | inl same ↦ ap more (ap (use_from trace at) (sym (eqb-true key other same))) ∙ new
      | inr apart ↦ elim (cases_eq (use_from trace at other) (use_from trace at key)) [
        | inl e ↦ ap more e ∙ new
        | inr differs ↦ others (use_from trace at other) differs ∙ is.complete other (others_without key other held apart ∙ inside) later
      ]
    ];
    counted = omega (arith, is.counted, used_without at key held differ there, used at key again);
  }

  -- and if it isn't
  pub joined_unused : (at key : ℕ) (held : List ℕ) (waits : ℕ → Bool) (count : ℕ) → IsWaiting trace at (without key held) waits count → IsDistinct eqb held → is_in key held ≡ true
      → length trace ≤ use_from trace at key → IsWaiting trace at held waits count
  joined_unused at key held waits count is differ there past = record {
    sound = λ index waited.
        let its = is.sound index waited in
        record { within = its.within; resident = (left_without key (key_at index) held its.resident).1; next = its.next };
    complete = λ other inside later. elim (cases_Bool (key == other)) [
      | inl same ↦ absurd (omega (arith, later, past, ap (use_from trace at) (eqb-true key other same)))
      | inr apart ↦ is.complete other (others_without key other held apart ∙ inside) later
    ];
    counted = omega (arith, is.counted, used_without at key held differ there, unused at key past);
  }

  -- The key that the optimum evicts.

  module _ (at : ℕ) (first : ℕ) (held : List ℕ) where
    abbrev gone : ℕ
    gone = farthest (drop at trace) first held

    gone_last : (key : ℕ) → is_in key (first ∷ held) ≡ true → use_from trace at key ≤ use_from trace at gone
    gone_last key there = omega (arith, farthest_is (drop at trace) first key held there)

    -- if all are used again, it has the last use
    module _ (waits : ℕ → Bool) (count : ℕ) (is : IsWaiting trace at (first ∷ held) waits count) (all : length (first ∷ held) ≤ count) where
      pub gone_again : use_from trace at gone < length trace
      gone_again = used_all at gone (first ∷ held) (omega (arith, all, is.counted)) (farthest_in (drop at trace) first held)

      pub gone_waits : waits (use_from trace at gone) ≡ true
      gone_waits = is.complete gone (farthest_in (drop at trace) first held) gone_again

      pub gone_is : (last : ℕ) → waits last ≡ true → ((index : ℕ) → waits index ≡ true → index ≤ last) → last ≡ use_from trace at gone
      gone_is last waited latest =
          let its = is.sound last waited in
          omega (arith, latest (use_from trace at gone) gone_waits, gone_last (key_at last) its.resident, its.next)

    -- if not all are, it isn't
    pub gone_unused : (waits : ℕ → Bool) (count : ℕ) → IsWaiting trace at (first ∷ held) waits count → count < length (first ∷ held) → length trace ≤ use_from trace at gone
    gone_unused waits count is few =
        let one = unused_one at (first ∷ held) (omega (arith, few, is.counted)) in
        omega (arith, gone_last one.0 one.1.0, one.1.1)

  -- the optimum evicts it
  pub evicts : (at : ℕ) (best : List ℕ) (waits left : ℕ → Bool) (count less last : ℕ) → IsWaiting trace at best waits count → IsDistinct eqb best → length best ≤ count → 0 < count
      → waits last ≡ true → ((index : ℕ) → waits index ≡ true → index ≤ last) → left last ≡ false → ((index : ℕ) → index ≢ last → left index ≡ waits index) → count ≡ less + 1
      → IsWaiting trace at (without_farthest (drop at trace) best) left less
  evicts at [] waits left count less last is differ all some waited latest none others fewer = absurd (omega (arith, is.counted, some))
  evicts at (first ∷ held) waits left count less last is differ all some waited latest none others fewer =
      let e : last ≡ use_from trace at (gone at first held) = gone_is at first held waits count is all last waited latest in
      left_one at (gone at first held) (first ∷ held) waits left count less is differ (farthest_in (drop at trace) first held) (gone_again at first held waits count is all)
      (ap left (sym e) ∙ none) (λ index apart. others index (λ same. apart (same ∙ e))) fewer

  pub evicts_some : (at : ℕ) (best : List ℕ) (waits : ℕ → Bool) (count : ℕ) → IsWaiting trace at best waits count → length best ≤ count → 0 < count → ((index : ℕ) → waits index ≡ false) → ⊥
  evicts_some at [] waits count is all some none = omega (arith, is.counted, some)
  evicts_some at (first ∷ held) waits count is all some none = true≢false (sym (gone_waits at first held waits count is all) ∙ none (use_from trace at (gone at first held)))

  pub evicts_unused : (at : ℕ) (best : List ℕ) (waits : ℕ → Bool) (count : ℕ) → IsWaiting trace at best waits count → IsDistinct eqb best → count < length best
      → IsWaiting trace at (without_farthest (drop at trace) best) waits count
  evicts_unused at [] waits count is differ few = absurd (omega (arith, few))
  evicts_unused at (first ∷ held) waits count is differ few =
      left_unused at (gone at first held) (first ∷ held) waits count is differ (farthest_in (drop at trace) first held) (gone_unused at first held waits count is few)
