-- The list that stamps define: which keys are in it, and how a new stamp or a later beginning changes it.
use Rattle.std.proofs.Common.{◌≡◌, ◌≢◌, ℕ, zero, suc, ◌-◌, ◌<◌, ◌≤◌, inl, inr, refl, sym, ap, ◌∙◌, subst, arith, true, false, cond, ◌&&◌, eqb, ltb, List, [], ◌∷◌, ◌++◌, length}
use Rattle.std.proofs.Common.{length-append, take, get_or, set, get_or-set_same, get_or-set_other}
use Rattle.std.proofs.lemmas.Bool.{cases_Bool, cases_eq, cases_lt, eqb-true, ltb-true, eq-eqb, ne_eqb, lt-ltb, le-ltb, and_parts, and_from, and_left, and_right, or_left, or_from, or_cases}
use Rattle.std.proofs.lemmas.Bool.{or_parts, or_right, false_from_ne_true}
use Rattle.clock2q_machine.specs.Hits.{is_in, without}
use Rattle.clock2q_machine.proofs.Sharing.{without-absent}
use Rattle.simulator_policies.specs.Policies.{brought}
use Rattle.simulator_policies.specs.Stamps.{is_newest, held_at, AreStamps}

module _ (trace stamps : List ℕ) (left : ℕ) where
  abbrev key_at : ℕ → ℕ
  key_at index = get_or trace index 0

  abbrev stamp_of : ℕ → ℕ
  stamp_of key = get_or stamps key 0

  newest_stamp : (index : ℕ) → is_newest trace stamps left index ≡ true → (stamp_of (key_at index) ≡ suc index) × (left < suc index)
  newest_stamp index newest =
      let parts = and_parts (eqb (stamp_of (key_at index)) (suc index)) (ltb left (suc index)) newest in
      (eqb-true (stamp_of (key_at index)) (suc index) parts.0, ltb-true left (suc index) parts.1)

  stamp_newest : (index : ℕ) → stamp_of (key_at index) ≡ suc index → left < suc index → is_newest trace stamps left index ≡ true
  stamp_newest index stamped later =
      and_from (eqb (stamp_of (key_at index)) (suc index)) (ltb left (suc index)) (eq-eqb (stamp_of (key_at index)) (suc index) stamped) (lt-ltb left (suc index) later)

  -- a key in the list has a stamp in range
  pub in_stamped : (key at : ℕ) → is_in key (held_at trace stamps left at) ≡ true → (left < stamp_of key) × (stamp_of key ≤ at)
  in_stamped key zero is = absurd (cc)
  in_stamped key (suc index) is = elim (cases_Bool (is_newest trace stamps left index)) [
    | inl newest ↦
        let stamped = newest_stamp index newest in
        elim (or_cases (eqb (key_at index) key) (is_in key (held_at trace stamps left index)) (rw newest at is)) [
          | inl first ↦
              let same : key_at index ≡ key = eqb-true (key_at index) key first in
              let stamp : stamp_of key ≡ suc index = sym (ap stamp_of same) ∙ stamped.0 in
              (omega (arith, stamp, stamped.1), omega (arith, stamp))
          | inr later ↦
              let below = in_stamped key index later in
              (below.0, omega (arith, below.1))
        ]
    | inr old ↦
        let below = in_stamped key index (rw old at is) in
        (below.0, omega (arith, below.1))
  ]

  -- and a key with such a stamp is in it
  pub stamped_in : (key index at : ℕ) → key_at index ≡ key → stamp_of key ≡ suc index → left < suc index → index < at → is_in key (held_at trace stamps left at) ≡ true
  stamped_in key index zero same stamp later before = absurd (omega arith)
  stamped_in key index (suc last) same stamp later before = elim (cases_eq index last) [
    | inl is ↦
        let here : key_at last ≡ key = sym (ap key_at is) ∙ same in
        let newest : is_newest trace stamps left last ≡ true = stamp_newest last (ap stamp_of here ∙ stamp ∙ ap suc is) (omega (arith, is, later)) in
        rw newest (or_left (eqb (key_at last) key) (is_in key (held_at trace stamps left last)) (eq-eqb (key_at last) key here))
    | inr other ↦
        let inside : is_in key (held_at trace stamps left last) ≡ true = stamped_in key index last same stamp later (omega (arith, other, before)) in
        elim (cases_Bool (is_newest trace stamps left last)) [
          | inl newest ↦ rw newest (or_right (eqb (key_at last) key) (is_in key (held_at trace stamps left last)) inside)
          | inr old ↦ rw old inside
        ]
  ]

  -- so the stamp decides
  pub is_in-stamp : (key at : ℕ) → AreStamps trace stamps at → is_in key (held_at trace stamps left at) ≡ ltb left (stamp_of key)
  is_in-stamp key at are = elim (cases_lt left (stamp_of key)) [
    | inl held ↦
        let stamp : stamp_of key ≡ suc (stamp_of key - 1) = omega (arith, held) in
        stamped_in key (stamp_of key - 1) at (are.own key (stamp_of key - 1) stamp) stamp (omega (arith, held)) (omega (arith, held, are.bound key)) ∙ sym (lt-ltb left (stamp_of key) held)
    | inr gone ↦
        false_from_ne_true (is_in key (held_at trace stamps left at)) (λ is. omega (arith, gone, (in_stamped key at is).0)) ∙ sym (le-ltb left (stamp_of key) gone)
  ]

  -- a new stamp removes a key from its earlier index
  pub held-stamped : (key stamp at : ℕ) → key < length stamps → at < stamp → held_at trace (set stamps key stamp) left at ≡ without key (held_at trace stamps left at)
  held-stamped key stamp zero within above = refl
  held-stamped key stamp (suc index) within above =
      let rest : held_at trace (set stamps key stamp) left index ≡ without key (held_at trace stamps left index) = held-stamped key stamp index within (omega (arith, above)) in
      elim (cases_eq (key_at index) key) [
        | inl same ↦
            let changed : get_or (set stamps key stamp) (key_at index) 0 ≡ stamp = ap (λ k. get_or (set stamps key stamp) k 0) same ∙ get_or-set_same stamps key stamp 0 within in
            let old : is_newest trace (set stamps key stamp) left index ≡ false =
            and_left (eqb (get_or (set stamps key stamp) (key_at index) 0) (suc index)) (ltb left (suc index))
            (ne_eqb (get_or (set stamps key stamp) (key_at index) 0) (suc index)
            (λ e. omega (arith, changed, e, above))) in
            rw old (rest ∙ sym
            (elim (cases_Bool (is_newest trace stamps left index)) as
            (λ w. without key
            (cond (is_newest trace stamps left index) (key_at index ∷ held_at trace stamps left index)
            (held_at trace stamps left index)) ≡ without key (held_at trace stamps left index)) [
              | inl newest ↦ rw (newest, eq-eqb (key_at index) key same) refl
              | inr gone ↦ rw gone refl
            ]))
        | inr other ↦
            let kept : get_or (set stamps key stamp) (key_at index) 0 ≡ stamp_of (key_at index) = get_or-set_other stamps key (key_at index) stamp 0 other in
            let still : is_newest trace (set stamps key stamp) left index ≡ is_newest trace stamps left index = ap (λ s. eqb s (suc index) && ltb left (suc index)) kept in
            elim (cases_Bool (is_newest trace stamps left index)) [
              | inl newest ↦ rw (still, newest, ne_eqb (key_at index) key other) (ap (λ held. key_at index ∷ held) rest)
              | inr gone ↦ rw (still, gone) rest
            ]
      ]

  -- a key is in the list once
  pub once : (key at : ℕ) → AreStamps trace stamps at → is_in key (held_at trace stamps left at) ≡ true →
      suc (length (without key (held_at trace stamps left at))) ≡ length (held_at trace stamps left at)
  once key at are is =
      let stamp = in_stamped key at is in
      counted at stamp.1 where
        counted : (upto : ℕ) → stamp_of key ≤ upto → suc (length (without key (held_at trace stamps left upto))) ≡ length (held_at trace stamps left upto)
        counted zero above = absurd (omega (arith, (in_stamped key at is).0, above))
        counted (suc index) above = elim (cases_eq (stamp_of key) (suc index)) [
          | inl here ↦
              let same : key_at index ≡ key = are.own key index here in
              let newest : is_newest trace stamps left index ≡ true = stamp_newest index (ap stamp_of same ∙ here) (omega (arith, here, (in_stamped key at is).0)) in
              let absent : is_in key (held_at trace stamps left index) ≡ false =
              false_from_ne_true (is_in key (held_at trace stamps left index))
              (λ inside. omega (arith, here, (in_stamped key index inside).1)) in
              rw (newest, eq-eqb (key_at index) key same, without-absent key (held_at trace stamps left index) absent) refl
          | inr elsewhere ↦
              let rest = counted index (omega (arith, elsewhere, above)) in
              elim (cases_Bool (is_newest trace stamps left index)) [
                | inl newest ↦
                    let other : key_at index ≢ key = λ same. elsewhere (sym (ap stamp_of same) ∙ (newest_stamp index newest).0) in
                    rw (newest, ne_eqb (key_at index) key other) (ap suc rest)
                | inr old ↦ rw old rest
              ]
        ]

  -- nothing is before the beginning
  pub held-none : (at : ℕ) → at ≤ left → held_at trace stamps left at ≡ []
  held-none zero before = refl
  held-none (suc index) before =
      rw (and_right (eqb (stamp_of (key_at index)) (suc index)) (ltb left (suc index)) (le-ltb left (suc index) before)) (held-none index (omega (arith, before)))

module _ (trace stamps : List ℕ) (left : ℕ) where
  same_test : (index : ℕ) → left ≢ index → is_newest trace stamps (suc left) index ≡ is_newest trace stamps left index
  same_test index other = ap (λ b. eqb (get_or stamps (get_or trace index 0) 0) (suc index) && b) (elim (cases_lt left index) as (λ w. ltb (suc left) (suc index) ≡ ltb left (suc index)) [
    | inl below ↦ lt-ltb (suc left) (suc index) (omega (arith, below)) ∙ sym (lt-ltb left (suc index) (omega (arith, below)))
    | inr above ↦
        let past : index < left = omega (arith, above, other) in
        le-ltb (suc left) (suc index) (omega (arith, past)) ∙ sym (le-ltb left (suc index) (omega (arith, past)))
  ])

  -- an index whose key has a later stamp is skipped
  pub held-stale : (at : ℕ) → get_or stamps (get_or trace left 0) 0 ≢ suc left → held_at trace stamps (suc left) at ≡ held_at trace stamps left at
  held-stale zero stale = refl
  held-stale (suc index) stale = elim (cases_eq left index) [
    | inl here ↦
        let stamp : get_or stamps (get_or trace index 0) 0 ≢ suc index = λ e. stale (ap (λ p. get_or stamps (get_or trace p 0) 0) here ∙ e ∙ ap suc (sym here)) in
        let no = ne_eqb (get_or stamps (get_or trace index 0) 0) (suc index) stamp in
        rw (no) (held-stale index stale)
    | inr other ↦ elim (cases_Bool (is_newest trace stamps left index)) [
      | inl newest ↦ rw (same_test index other, newest) (ap (λ held. get_or trace index 0 ∷ held) (held-stale index stale))
      | inr old ↦ rw (same_test index other, old) (held-stale index stale)
    ]
  ]

  -- and one whose key has no later stamp is that of the last key of the list
  pub held-oldest : (at : ℕ) → get_or stamps (get_or trace left 0) 0 ≡ suc left → left < at → held_at trace stamps left at ≡ held_at trace stamps (suc left) at ++ get_or trace left 0 ∷ []
  held-oldest zero stamp before = absurd (omega arith)
  held-oldest (suc index) stamp before = elim (cases_eq left index) [
    | inl here ↦
        let newest : is_newest trace stamps left index ≡ true =
        stamp_newest trace stamps left index
        (sym (ap (λ p. get_or stamps (get_or trace p 0) 0) here) ∙ stamp ∙ ap suc here) (omega (arith, here)) in
        let first : held_at trace stamps left (suc index) ≡ get_or trace index 0 ∷ [] = rw (newest, held-none trace stamps left index (omega (arith, here))) refl in
        let none : held_at trace stamps (suc left) (suc index) ≡ [] = held-none trace stamps (suc left) (suc index) (omega (arith, here)) in
        let last : get_or trace index 0 ≡ get_or trace left 0 = ap (λ p. get_or trace p 0) (sym here) in
        first ∙ subst (λ held. get_or trace index 0 ∷ [] ≡ held ++ get_or trace left 0 ∷ []) (sym none) (ap (λ key. key ∷ []) last)
    | inr other ↦
        let rest = held-oldest index stamp (omega (arith, other, before)) in
        elim (cases_Bool (is_newest trace stamps left index)) [
          | inl newest ↦ rw (same_test index other, newest) (ap (λ held. get_or trace index 0 ∷ held) rest)
          | inr old ↦ rw (same_test index other, old) rest
        ]
  ]

-- a list without its last key
take-all : (n : ℕ) (front : List ℕ) (last : ℕ) → n ≡ length front → take n (front ++ last ∷ []) ≡ front
take-all n [] last long = rw long refl
take-all n (first ∷ front) last long = rw long (ap (λ rest. first ∷ rest) (take-all (length front) front last refl))

pub front-taken : (held front : List ℕ) (last : ℕ) → held ≡ front ++ last ∷ [] → front ≡ take (length held - 1) held
front-taken held front last is =
    let long : length held - 1 ≡ length front = omega (arith, ap length is, length-append front (last ∷ [])) in
    sym (ap (take (length held - 1)) is ∙ take-all (length held - 1) front last long)

pub none-taken : (held : List ℕ) → held ≡ [] → [] ≡ take (length held - 1) held
none-taken [] is = refl
none-taken (first ∷ held) is = absurd (cc)

-- a key that isn't in a list isn't in a part of it
pub absent-taken : (key n : ℕ) (held : List ℕ) → is_in key held ≡ false → is_in key (take n held) ≡ false
absent-taken key zero held absent = refl
absent-taken key (suc n) [] absent = refl
absent-taken key (suc n) (first ∷ held) absent =
    let parts = or_parts (eqb first key) (is_in key held) absent in
    or_from (eqb first key) (is_in key (take n held)) parts.0 (absent-taken key n held parts.1)

-- a key is added at the front, with room for it or without
pub brought-room : (capacity key : ℕ) (held : List ℕ) → length held < capacity → brought capacity key held ≡ key ∷ held
brought-room zero key held room = absurd (omega arith)
brought-room (suc capacity) key held room = ap (λ rest. key ∷ rest) (all capacity held (omega (arith, room))) where
  all : (n : ℕ) (held : List ℕ) → length held ≤ n → take n held ≡ held
  all zero [] long = refl
  all zero (first ∷ held) long = absurd (omega (arith, long))
  all (suc n) [] long = refl
  all (suc n) (first ∷ held) long = ap (λ rest. first ∷ rest) (all n held (omega (arith, long)))

pub brought-full : (capacity key : ℕ) (held : List ℕ) → 0 < capacity → length held ≡ capacity → brought capacity key held ≡ key ∷ take (length held - 1) held
brought-full zero key held some full = absurd (omega arith)
brought-full (suc capacity) key held some full =
    let n : capacity ≡ length held - 1 = omega (arith, full) in
    ap (λ m. key ∷ take m held) n

module _ (trace stamps : List ℕ) (left key at : ℕ) (are : AreStamps trace stamps at) (here : get_or trace at 0 ≡ key) where
  -- a key that is stamped is put at the front
  pub stamped-front : key < length stamps → left ≤ at → held_at trace (set stamps key (suc at)) left (suc at) ≡ key ∷ without key (held_at trace stamps left at)
  stamped-front within begun =
      let stamp : get_or (set stamps key (suc at)) (get_or trace at 0) 0 ≡ suc at = ap (λ k. get_or (set stamps key (suc at)) k 0) here ∙ get_or-set_same stamps key (suc at) 0 within in
      let newest : is_newest trace (set stamps key (suc at)) left at ≡ true = stamp_newest trace (set stamps key (suc at)) left at stamp (omega (arith, begun)) in
      let rest : held_at trace (set stamps key (suc at)) left at ≡ without key (held_at trace stamps left at) = held-stamped trace stamps left key (suc at) at within (omega arith) in
      rw newest (ap (λ k. k ∷ held_at trace (set stamps key (suc at)) left at) here ∙ ap (λ held. key ∷ held) rest)

  -- and one that isn't stays where it is
  pub unstamped : held_at trace stamps left (suc at) ≡ held_at trace stamps left at
  unstamped =
      let old : is_newest trace stamps left at ≡ false =
      and_left (eqb (get_or stamps (get_or trace at 0) 0) (suc at)) (ltb left (suc at))
      (ne_eqb (get_or stamps (get_or trace at 0) 0) (suc at) (λ e. omega (arith, e, are.bound (get_or trace at 0)))) in
      rw old refl

  pub stamps-later : AreStamps trace stamps (suc at)
  stamps-later = record { bound = λ k. omega (arith, are.bound k); own = are.own }

  pub stamps-set : key < length stamps → AreStamps trace (set stamps key (suc at)) (suc at)
  stamps-set within = record {
    bound = λ k. elim (cases_eq k key) [
      | inl same ↦ omega (arith, ap (λ k. get_or (set stamps key (suc at)) k 0) same ∙ get_or-set_same stamps key (suc at) 0 within)
      | inr other ↦ omega (arith, are.bound k, get_or-set_other stamps key k (suc at) 0 other)
    ];
    own = λ k index stamp. elim (cases_eq k key) [
      | inl same ↦
          let new : get_or (set stamps key (suc at)) k 0 ≡ suc at = ap (λ k. get_or (set stamps key (suc at)) k 0) same ∙ get_or-set_same stamps key (suc at) 0 within in
          let is : index ≡ at = omega (arith, new, stamp) in
          ap (λ p. get_or trace p 0) is ∙ here ∙ sym same
      | inr other ↦ are.own k index (sym (get_or-set_other stamps key k (suc at) 0 other) ∙ stamp)
    ];
  }
