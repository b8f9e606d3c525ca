-- What a lookup of a key through an index finds, and how many comparisons it makes.
use Rattle.clock2q_directory.proofs.Names.{◌≡◌, ℕ, ◌+◌, ◌<◌, ◌≤◌, Bool, true, false, eqb, Option, Some, None, slice_get, List, [], ◌∷◌, drop, length, inl, inr, refl, sym, ap, ◌∙◌, subst, arith, find, AllByRecursion, list_any, IsDistinct, IsEquivalence, both_ways, cases_Bool, or_cases, eqb-true, candidates, Entry, hash_at, entries_of, is_key_at, comparisons_of, IsIndex, HasHash, among_first, among_later}
use Rattle.clock2q_directory.proofs.Entries.{key_there, hash_of_hashed, all_entry, same_place}
use Rattle.clock2q_directory.proofs.Indexes.{named-own, candidate_there}

-- The first that passes a test

pub found_there : (test : ℕ → Bool) (cs : List ℕ) (p : ℕ) → Some p ≡ find test cs → (list_any (eqb p) cs ≡ true) × (test p ≡ true)
found_there test [] p e = absurd (cc)
found_there test (c ∷ cs) p e = elim (cases_Bool (test c)) [
  | inl h ↦
      let q : p ≡ c = some_same p c (e ∙ rw h refl) in
      (subst (λ z. list_any (eqb z) (c ∷ cs) ≡ true) (sym q) (among_first c cs), subst (λ z. test z ≡ true) (sym q) h)
  | inr h ↦ let r = found_there test cs p (e ∙ rw h refl) in (among_later p c cs r.0, r.1)
]
  where
    some_same : (x y : ℕ) → Some x ≡ Some y → x ≡ y
    some_same x y e = cc

pub not_found : (test : ℕ → Bool) (cs : List ℕ) → None ≡ find test cs → (t : ℕ) → list_any (eqb t) cs ≡ true → test t ≡ false
not_found test [] e t g = absurd (both_ways false refl g)
not_found test (c ∷ cs) e t g = elim (cases_Bool (test c)) [
  | inl h ↦ absurd (none_some c (e ∙ rw h refl))
  | inr h ↦ elim (or_cases (eqb t c) (list_any (eqb t) cs) g) [
    | inl q ↦ subst (λ z. test z ≡ false) (sym (eqb-true t c q)) h
    | inr q ↦ not_found test cs (e ∙ rw h refl) t q
  ]
]
  where
    none_some : (x : ℕ) → None ≡ Some x → ⊥
    none_some x e = cc

-- if no two pass the test, and the same ones that pass are in both lists, the first is the same
pub find-same : (test : ℕ → Bool) (cs ps : List ℕ) → ((t : ℕ) → list_any (eqb t) cs ≡ true → list_any (eqb t) ps ≡ true)
    → ((t : ℕ) → list_any (eqb t) ps ≡ true → test t ≡ true → list_any (eqb t) cs ≡ true)
    → ((t u : ℕ) → list_any (eqb t) ps ≡ true → list_any (eqb u) ps ≡ true → test t ≡ true → test u ≡ true → eqb t u ≡ true) → find test cs ≡ find test ps
find-same test cs ps into back one = of (find test cs) (find test ps) refl refl
  where
    of : (o q : Option ℕ) → o ≡ find test cs → q ≡ find test ps → find test cs ≡ find test ps
    of None None e f = sym e ∙ f
    of None (Some p) e f =
        let s = found_there test ps p f in
        absurd (both_ways (test p) (not_found test cs e p (back p s.0 s.1)) s.1)
    of (Some c) None e f =
        let r = found_there test cs c e in
        absurd (both_ways (test c) (not_found test ps f c (into c r.0)) r.1)
    of (Some c) (Some p) e f =
        let r = found_there test cs c e in
        let s = found_there test ps p f in
        sym e ∙ ap (λ z. Some z) (eqb-true c p (one c p (into c r.0) s.0 r.1 s.1)) ∙ f

module _ {K V : Type 0} (eq : K → K → Bool) (hash : ℕ) (key : K) (index : List (List (ℕ × ℕ))) (keys : List (Entry K V)) (places : List ℕ)
    (i : IsIndex index keys places) (hashed : HasHash eq hash key (entries_of keys places)) where
  -- a place of the list that has the key has the key's hash
  pub hash_there : (t : ℕ) → list_any (eqb t) places ≡ true → is_key_at eq key keys t ≡ true → hash_at keys t ≡ Some hash
  hash_there t g k =
      let e = key_there eq key keys t k in
      hash_of_hashed keys t e.0 e.1 ∙ ap (λ z. Some z) (all_entry (λ e. eq key e.1 ≡ true → e.0 ≡ hash) keys places t e.0 hashed g e.1 e.2)

  pub candidate : (t : ℕ) → list_any (eqb t) places ≡ true → is_key_at eq key keys t ≡ true → list_any (eqb t) (candidates index hash) ≡ true
  candidate t g k = grind (arith, named-own, hash_there)

  -- the first candidate that has the key is the place of the list that has it, or there is none
  pub lookup : IsEquivalence eq → IsDistinct (λ d e. eq d.1 e.1) (entries_of keys places) → find (is_key_at eq key keys) (candidates index hash) ≡ find (is_key_at eq key keys) places
  lookup laws distinct = grind (arith, find-same, candidate_there, candidate, same_place)

-- Comparisons

pub comparisons-most : (test : ℕ → Bool) (cs : List ℕ) → comparisons_of test cs ≤ length cs
comparisons-most test [] = omega arith
comparisons-most test (c ∷ cs) = grind (arith, comparisons-most test cs)

pub comparisons-within : (test : ℕ → Bool) {places all : List ℕ} (n : ℕ) → places ≡ all → length all ≡ n → comparisons_of test places ≤ n
comparisons-within test {places} n same is = omega (arith, comparisons-most test places, ap (λ (z : List ℕ). length z) same, is)

-- a list begins with its first element
pub begins_with : {xs : List ℕ} {x : ℕ} → Some x ≡ slice_get xs 0 → xs ≡ x ∷ drop 1 xs
begins_with {xs = []} e = absurd (cc)
begins_with {xs = y ∷ xs} {x} e = let q : x ≡ y = cc in ap (λ z. z ∷ xs) (sym q)

pub is_empty : {xs : List ℕ} → None ≡ slice_get xs 0 → xs ≡ []
is_empty {xs = []} e = refl
is_empty {xs = y ∷ xs} e = absurd (cc)

-- none of the places compared so far has the key
pub record Compared (test : ℕ → Bool) (n bound : ℕ) (all : List ℕ) (compared : ℕ) (left : List ℕ) : Type 0 where
  pub found : find test all ≡ find test left
  pub comparisons : n + comparisons_of test all ≡ compared + comparisons_of test left
  pub there : AllByRecursion (λ place. place < bound) left

pub compared-found : {test : ℕ → Bool} {n bound : ℕ} {all : List ℕ} {compared : ℕ} (place : ℕ) (left : List ℕ) → Compared test n bound all compared (place ∷ left) → true ≡ test place
    → (Some place ≡ find test all) × (compared + 1 ≡ n + comparisons_of test all)
compared-found {test} place left a it = grind arith
