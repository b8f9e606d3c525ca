-- How putting a place into the index, and taking one out, changes it.
use Rattle.clock2q_directory.proofs.Names.{◌≡◌, ℕ, zero, suc, ◌+◌, ◌*◌, ◌%◌, ◌<◌, ◌≤◌, Bool, true, false, not, ◌||◌, ◌&&◌, ◌==◌, eqb, Option, Some, None, get_or, List, [], ◌∷◌, ◌++◌, length, map, inl, inr, refl, sym, ap, ◌∙◌, subst, arith, list_any, AllByRecursion, IsDistinct, both_ways, cases_Bool, leb_tells, length-append, length-replicate, list_any-append, without, top, home, no_entries, capacity, listed, total, candidates, with_handle, without_handle, is_entry_of, without_first, hash_at, doubled_until, made_for, IsIndex, is_alike, is_named, Entry, and_parts, and_true, and_false, and_swap, or_true, or_false, or_neither, eqb_self, among_first, among_later, differs, IsDistinct-append, without_absent, among-without_test, distinct_none, distinct_first, distinct_rest, distinct_more, distinct_alone, length-without, total-no_entries, length-with_list, total-with_list, candidates-inserted, candidates-inserted_other, candidates-removed, candidates-removed_other}
use Rattle.std.proofs.Common.{filter}
use Rattle.std.proofs.Common.{eqb-true}
use Rattle.clock2q_handles.specs.TableStep.{fit}
use Rattle.clock2q_directory.proofs.Entries.{hash_in}

-- Lists

among-without_first : (t p : ℕ) (cs : List ℕ) → IsDistinct eqb cs → list_any (eqb t) (without_first (λ w. eqb w p) cs) ≡ (list_any (eqb t) cs && not (eqb t p))
among-without_first t p [] a = refl
among-without_first t p (c ∷ cs) a = elim (cases_Bool (eqb c p)) [
  | inl e ↦ elim (cases_Bool (eqb t c)) [
    | inl f ↦
        let g : eqb t p ≡ true = subst (λ z. eqb z p ≡ true) (sym (eqb-true t c f)) e in
        let h : list_any (eqb t) cs ≡ false = subst (λ z. list_any (eqb z) cs ≡ false) (sym (eqb-true t c f)) (distinct_first eqb c cs a) in
        rw (e, f, g, h) refl
    | inr f ↦
        let g : eqb t p ≡ false = subst (λ z. eqb t z ≡ false) (eqb-true c p e) f in
        rw (e, f, g) (sym (and_true (list_any (eqb t) cs)))
  ]
  | inr e ↦ elim (cases_Bool (eqb t c)) [
    | inl f ↦
        let g : eqb t p ≡ false = subst (λ z. eqb z p ≡ false) (sym (eqb-true t c f)) e in
        rw (e, f, g) refl
    | inr f ↦ rw (e, f) (among-without_first t p cs (distinct_rest eqb c cs a))
  ]
]

IsDistinct-without_first : (p : ℕ) (cs : List ℕ) → IsDistinct eqb cs → IsDistinct eqb (without_first (λ w. eqb w p) cs)
IsDistinct-without_first p [] a = distinct_none eqb
IsDistinct-without_first p (c ∷ cs) a = elim (cases_Bool (eqb c p)) [
  | inl e ↦ rw e (distinct_rest eqb c cs a)
  | inr e ↦
      let rest = distinct_rest eqb c cs a in
      rw e (distinct_more eqb c (without_first (λ w. eqb w p) cs) (among-without_first c p cs rest ∙ rw (distinct_first eqb c cs a) refl) (IsDistinct-without_first p cs rest))
]

-- the number of entries that the removal takes: one if the place is a candidate of the hash, or else none
abbrev pub one_if : Bool → ℕ
one_if true = 1
one_if false = 0

length-without_first : {E : Type 0} (test : E → Bool) (es : List E) → length (without_first test es) + one_if (list_any test es) ≡ length es
length-without_first test [] = refl
length-without_first test (e ∷ es) = grind (arith, length-without_first test es)

-- an entry of the hash is a candidate
pub any-candidate : (x p : ℕ) (es : List (ℕ × ℕ)) → list_any (is_entry_of eqb x p) es ≡ list_any (eqb p) (map (λ e. e.1) (filter (λ e. e.0 == top x) es))
any-candidate x p [] = refl
any-candidate x p (e ∷ es) = elim (cases_Bool (eqb e.0 (top x))) [
  | inl h ↦ rw (h, swapped e.1 p) (ap (λ z. eqb p e.1 || z) (any-candidate x p es))
  | inr h ↦ rw h (any-candidate x p es)
]
  where
    swapped : (a b : ℕ) → eqb a b ≡ eqb b a
    swapped a b = elim (cases_Bool (eqb a b)) [
      | inl e ↦ let q : a ≡ b = eqb-true a b e in e ∙ sym (subst (λ z. eqb z a ≡ true) q (eqb_self a))
      | inr e ↦ elim (cases_Bool (eqb b a)) [
        | inl f ↦ absurd (both_ways (eqb a b) e (subst (λ z. eqb z b ≡ true) (eqb-true b a f) (eqb_self b)))
        | inr f ↦ e ∙ sym f
      ]
    ]

-- The index

pub length-put : (index : List (List (ℕ × ℕ))) (hash place : ℕ) → length (with_handle index hash place) ≡ length index
length-put index hash place = length-with_list index hash (listed index hash ++ (top hash, place) ∷ [])

pub total-put : (index : List (List (ℕ × ℕ))) (hash place : ℕ) → 0 < length index → total (with_handle index hash place) ≡ total index + 1
total-put index hash place some = omega (arith, total-with_list index hash (listed index hash ++ (top hash, place) ∷ []) some, length-append (listed index hash) ((top hash, place) ∷ []))

pub length-taken : (index : List (List (ℕ × ℕ))) (hash place : ℕ) → length (without_handle eqb index hash place) ≡ length index
length-taken index hash place = length-with_list index hash (without_first (is_entry_of eqb hash place) (listed index hash))

alike_parts : (index : List (List (ℕ × ℕ))) (x y : ℕ) → is_alike index x y ≡ true → (home index x ≡ home index y) × (top x ≡ top y)
alike_parts index x y h = grind (arith, and_parts, eqb-true)

not_alike : (index : List (List (ℕ × ℕ))) (x y : ℕ) → is_alike index x y ≡ false → (home index x ≡ home index y) × (top x ≡ top y) → ⊥
not_alike index x y h p = both_ways (is_alike index x y) h (rw (p.0, p.1, eqb_self (home index y), eqb_self (top y)) refl)

module _ {K V : Type 0} where
  pub named-length : (index index' : List (List (ℕ × ℕ))) (keys : List (Entry K V)) (x place : ℕ) → length index' ≡ length index → is_named index' keys x place ≡ is_named index keys x place
  named-length index index' keys x place e = ap (λ n. elim (hash_at keys place) [ None ↦ false | Some y ↦ (x % n == y % n) && (top x == top y) ]) e

  named-as : (index : List (List (ℕ × ℕ))) (keys : List (Entry K V)) (x place hash : ℕ) → hash_at keys place ≡ Some hash → is_named index keys x place ≡ is_alike index x hash
  named-as index keys x place hash at = ap (λ z. elim z [ None ↦ false | Some y ↦ is_alike index x y ]) at

  pub named-own : (index : List (List (ℕ × ℕ))) (keys : List (Entry K V)) (hash place : ℕ) → hash_at keys place ≡ Some hash → is_named index keys hash place ≡ true
  named-own index keys hash place at = named-as index keys hash place hash at ∙ rw (eqb_self (home index hash), eqb_self (top hash)) refl

  named-kept : (index : List (List (ℕ × ℕ))) (keys keys' : List (Entry K V)) (x place : ℕ) → hash_at keys' place ≡ hash_at keys place → is_named index keys' x place ≡ is_named index keys x place
  named-kept index keys keys' x place e = ap (λ z. elim z [ None ↦ false | Some y ↦ is_alike index x y ]) e

  -- a place that wasn't there is put in under the hash of the key that is there now
  module _ (index : List (List (ℕ × ℕ))) (keys keys' : List (Entry K V)) (places : List ℕ) (place hash : ℕ) (i : IsIndex index keys places) (some : 0 < length index)
      (absent : list_any (eqb place) places ≡ false) (same : (q : ℕ) → list_any (eqb q) places ≡ true → hash_at keys' q ≡ hash_at keys q) (at : hash_at keys' place ≡ Some hash) where
    still_named : (x q : ℕ) → (list_any (eqb q) places && is_named index keys x q) ≡ (list_any (eqb q) places && is_named (with_handle index hash place) keys' x q)
    still_named x q = grind (arith, named-length, length-put, named-kept)

    listed-put : (x q : ℕ) → list_any (eqb q) (candidates (with_handle index hash place) x) ≡ (list_any (eqb q) (place ∷ places) && is_named (with_handle index hash place) keys' x q)
    listed-put x q = grind (
      arith,
      alike_parts,
      candidates-inserted,
      list_any-append,
      eqb-true,
      named-length,
      length-put,
      named-as,
      or_true,
      or_false,
      still_named,
      candidates-inserted_other,
      not_alike,
    )

    pub IsIndex-put : IsIndex (with_handle index hash place) keys' (place ∷ places)
    IsIndex-put = record {
      listed = listed-put;
      once = λ x. elim (cases_Bool (is_alike index x hash)) [
        | inl a ↦
            let p = alike_parts index x hash a in
            let none : list_any (eqb place) (candidates index x) ≡ false = i.listed x place ∙ rw absent refl in
            subst (λ z. IsDistinct eqb z) (sym (candidates-inserted index hash x place some p.0 p.1))
            (IsDistinct-append (candidates index x) (place ∷ []) (i.once x) (distinct_alone eqb place) (λ t h. or_neither (eqb t place) false (differs t place (candidates index x) h none) refl))
        | inr a ↦ subst (λ z. IsDistinct eqb z) (sym (candidates-inserted_other index hash x place some (not_alike index x hash a))) (i.once x)
      ];
      counted = omega (arith, total-with_list index hash (listed index hash ++ (top hash, place) ∷ []) some, length-append (listed index hash) ((top hash, place) ∷ []), i.counted);
    }

  -- a place is taken out, if it was there
  module _ (index : List (List (ℕ × ℕ))) (keys : List (Entry K V)) (places : List ℕ) (place hash : ℕ) (i : IsIndex index keys places) (some : 0 < length index)
      (apart : IsDistinct eqb places) (at : hash_at keys place ≡ Some hash) where
    named-taken : (x q : ℕ) → is_named (without_handle eqb index hash place) keys x q ≡ is_named index keys x q
    named-taken x q = named-length index (without_handle eqb index hash place) keys x q (length-taken index hash place)

    listed-taken : (x q : ℕ) → list_any (eqb q) (candidates (without_handle eqb index hash place) x) ≡ (list_any (eqb q) (without place places) && is_named (without_handle eqb index hash place)
        keys x q)
    listed-taken x q =
        let right : (list_any (eqb q) (without place places) && is_named (without_handle eqb index hash place) keys x q) ≡ ((list_any (eqb q) places && not (eqb q place)) && is_named index keys x q) =
        ap (λ z. z && is_named (without_handle eqb index hash place) keys x q) (among-without_test q place places) ∙ ap (λ z. (list_any (eqb q) places && not (eqb q place)) && z) (named-taken x q) in
        elim (cases_Bool (is_alike index x hash)) [
          | inl a ↦
              let p = alike_parts index x hash a in
              ap (λ z. list_any (eqb q) z) (candidates-removed eqb index hash x place some p.0 p.1) ∙ among-without_first q place (candidates index x) (i.once x)
              ∙ ap (λ z. z && not (eqb q place)) (i.listed x q) ∙ and_swap (list_any (eqb q) places) (is_named index keys x q) (not (eqb q place)) ∙ sym right
          | inr a ↦
              ap (λ z. list_any (eqb q) z) (candidates-removed_other eqb index hash x place some (not_alike index x hash a)) ∙ i.listed x q ∙ elim (cases_Bool (eqb q place)) [
                | inl e ↦
                    let n : is_named index keys x q ≡ false = ap (λ z. is_named index keys x z) (eqb-true q place e) ∙ named-as index keys x place hash at ∙ a in
                    rw (e, n) (and_false (list_any (eqb q) places) ∙ sym (and_false (list_any (eqb q) places && false))) ∙ sym right
                | inr e ↦ rw e (ap (λ z. z && is_named index keys x q) (sym (and_true (list_any (eqb q) places)))) ∙ sym right
              ]
        ]

    pub taken-counted : total (without_handle eqb index hash place) + one_if (list_any (eqb place) places) ≡ length places
    taken-counted = grind (arith, named-as, eqb_self, any-candidate, and_true, length-without_first, total-with_list)

    length-left : length (without place places) + one_if (list_any (eqb place) places) ≡ length places
    length-left = elim (cases_Bool (list_any (eqb place) places)) [
      | inl h ↦ rw h (length-without place places apart h)
      | inr h ↦ rw h (let e = ap (λ (z : List ℕ). length z) (without_absent place places h) in omega (arith, e))
    ]

    pub IsIndex-taken : IsIndex (without_handle eqb index hash place) keys (without place places)
    IsIndex-taken = record {
      listed = listed-taken;
      once = λ x. elim (cases_Bool (is_alike index x hash)) [
        | inl a ↦
            let p = alike_parts index x hash a in
            subst (λ z. IsDistinct eqb z) (sym (candidates-removed eqb index hash x place some p.0 p.1)) (IsDistinct-without_first place (candidates index x) (i.once x))
        | inr a ↦ subst (λ z. IsDistinct eqb z) (sym (candidates-removed_other eqb index hash x place some (not_alike index x hash a))) (i.once x)
      ];
      counted = omega (arith, taken-counted, length-left);
    }

  -- the same for an index that may have no slots
  pub IsIndex-removed : (index : List (List (ℕ × ℕ))) (keys : List (Entry K V)) (places : List ℕ) (place hash : ℕ) → IsIndex index keys places → IsDistinct eqb places → hash_at keys place ≡ Some hash
      → IsIndex (without_handle eqb index hash place) keys (without place places)
  IsIndex-removed [] keys places place hash i apart at =
      let none = empty places (sym i.counted) in
      subst (λ z. IsIndex [] keys (without place z)) (sym none) (subst (λ z. IsIndex [] keys z) none i)
    where
      empty : (ps : List ℕ) → length ps ≡ 0 → ps ≡ []
      empty [] e = refl
      empty (p ∷ ps) e = absurd (omega arith)
  IsIndex-removed (h ∷ hs) keys places place hash i apart at = IsIndex-taken (h ∷ hs) keys places place hash i (omega arith) apart at

  -- other keys at other places
  pub IsIndex-kept : (index : List (List (ℕ × ℕ))) (keys keys' : List (Entry K V)) (places : List ℕ)
      → ((t : ℕ) → list_any (eqb t) places ≡ true → hash_at keys' t ≡ hash_at keys t) → IsIndex index keys places → IsIndex index keys' places
  IsIndex-kept index keys keys' places same i = record {
    listed = λ x t. i.listed x t ∙ elim (cases_Bool (list_any (eqb t) places)) [
      | inl h ↦ rw h (sym (named-kept index keys keys' x t (same t h)))
      | inr h ↦ rw h refl
    ];
    once = i.once;
    counted = i.counted;
  }

  -- a candidate of a lookup is a place of the list that has a key
  pub candidate_there : (index : List (List (ℕ × ℕ))) (keys : List (Entry K V)) (places : List ℕ) (x t : ℕ)
      → IsIndex index keys places → list_any (eqb t) (candidates index x) ≡ true → (list_any (eqb t) places ≡ true) × (t < length keys)
  candidate_there index keys places x t i h =
      let p = and_parts (list_any (eqb t) places) (is_named index keys x t) (sym (i.listed x t) ∙ h) in
      (p.0, named_in (hash_at keys t) refl p.1)
    where
      named_in : (o : Option ℕ) → hash_at keys t ≡ o → elim o [ None ↦ false | Some y ↦ is_alike index x y ] ≡ true → t < length keys
      named_in None is e = absurd (both_ways false refl e)
      named_in (Some y) is e = hash_in keys t y is

  pub candidates_there : (index : List (List (ℕ × ℕ))) (keys : List (Entry K V)) (places : List ℕ) (x : ℕ) → IsIndex index keys places → AllByRecursion (λ t. t < length keys) (candidates index x)
  candidates_there index keys places x i = all_from (candidates index x) (λ t h. (candidate_there index keys places x t i h).1)
    where
      all_from : (cs : List ℕ) → ((t : ℕ) → list_any (eqb t) cs ≡ true → t < length keys) → AllByRecursion (λ t. t < length keys) cs
      all_from [] h = tt
      all_from (c ∷ cs) h = (h c (among_first c cs), all_from cs (λ t g. h t (among_later t c cs g)))

-- Room in an index

enough : (e k m : ℕ) → 16 ≤ m → e ≤ capacity m + k → e ≤ capacity (doubled_until e m k)
enough e zero m l h = omega (arith, h)
enough e (suc k) m l h = grind (arith, enough e k (2 * m), leb_tells)

-- a table that is made for `n` entries has room for them
pub fits_new : (n : ℕ) → n ≤ capacity (length (made_for {H = ℕ} n))
unfolding fit
fits_new zero = omega arith
fits_new (suc k) =
    let e : length (made_for {H = ℕ} (suc k)) ≡ doubled_until (suc k) 16 (suc k) = length-replicate {A = List (ℕ × ℕ)} (fit (suc k)) [] in
    rw e (enough (suc k) (suc k) 16 (omega arith) (omega arith))

none_read : {E : Type 0} (m i : ℕ) → get_or (no_entries {E = E} m) i [] ≡ []
none_read zero i = refl
none_read (suc m) zero = refl
none_read (suc m) (suc i) = none_read m i

none_new : (n x : ℕ) → candidates (made_for {H = ℕ} n) x ≡ []
none_new zero x = refl
none_new (suc k) x = ap (λ es. map {A = ℕ × ℕ} (λ e. e.1) (filter (λ e. e.0 == top x) es)) (none_read (fit (suc k)) (home (made_for {H = ℕ} (suc k)) x))

pub total_new : (n : ℕ) → total (made_for {H = ℕ} n) ≡ 0
total_new zero = refl
total_new (suc k) = total-no_entries (λ (h : ℕ). h) (fit (suc k))

pub IsIndex-new : {K V : Type 0} (n : ℕ) (keys : List (Entry K V)) → IsIndex (made_for n) keys []
IsIndex-new n keys = record {
  listed = λ x p. ap (λ z. list_any (eqb p) z) (none_new n x);
  once = λ x. subst (λ z. IsDistinct eqb z) (sym (none_new n x)) (distinct_none eqb);
  counted = total_new n;
}

-- an index that was cleared is empty
pub IsIndex-cleared : {K V : Type 0} (index : List (List (ℕ × ℕ))) (m : ℕ) (keys : List (Entry K V)) → index ≡ no_entries m → IsIndex index keys []
IsIndex-cleared index m keys is = subst (λ z. IsIndex z keys []) (sym is) (record {
  listed = λ x p. ap (λ z. list_any (eqb p) z) (none x);
  once = λ x. subst (λ z. IsDistinct eqb z) (sym (none x)) (distinct_none eqb);
  counted = total-no_entries (λ (h : ℕ). h) m;
})
  where
    none : (x : ℕ) → candidates (no_entries {E = ℕ × ℕ} m) x ≡ []
    none x = ap (λ es. map {A = ℕ × ℕ} (λ e. e.1) (filter (λ e. e.0 == top x) es)) (none_read m (home (no_entries {E = ℕ × ℕ} m) x))

pub length-cleared : (index index' : List (List (ℕ × ℕ))) → index' ≡ no_entries (length index) → length index' ≡ length index
length-cleared index index' is = ap (λ (z : List (List (ℕ × ℕ))). length z) is ∙ length-replicate {A = List (ℕ × ℕ)} (length index) []
