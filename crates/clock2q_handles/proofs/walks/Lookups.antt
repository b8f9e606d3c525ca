-- What an insertion and a removal do to the candidates of any hash.
use Rattle.std.proofs.Common.{◌≡◌, ℕ, ◌<◌, refl, arith, Bool, ◌==◌, eq-eqb, ne_eqb, eqb-true, List, [], ◌∷◌, ◌++◌, map, filter, length, append-nil}
use Rattle.std.proofs.lemmas.Bool.{cases_eq, cases_Bool}
use Rattle.std.proofs.lemmas.List.{map-append}
use Rattle.std.proofs.lemmas.List.Elements.{filter-append}
use Rattle.clock2q_handles.specs.Homes.{top, home, listed, without_first, with_handle, is_entry_of, without_handle, candidates}
use Rattle.clock2q_handles.proofs.layout.FewerEntries.{listed-put_last}
use Rattle.clock2q_handles.proofs.shifts.Changes.{listed-with_same, listed-with_other}

-- those of a list with the fingerprint of x
abbrev pub with_top : {H : Type 0} → ℕ → List (ℕ × H) → List H
with_top x es = map (λ e. e.1) (filter (λ e. e.0 == top x) es)

module _ {H : Type 0} where
  with_top-append : (x : ℕ) (es fs : List (ℕ × H)) → with_top x (es ++ fs) ≡ with_top x es ++ with_top x fs
  with_top-append x es fs = simp (filter-append, map-append)

  -- the hash of an insertion yields the handle last
  pub candidates-inserted : (homes : List (List (ℕ × H))) (x y : ℕ) (v : H) → 0 < length homes
      → home homes y ≡ home homes x → top y ≡ top x → candidates (with_handle homes x v) y ≡ candidates homes y ++ v ∷ []
  candidates-inserted homes x y v some same fingerprint = grind (arith, listed-put_last homes x y (top x, v) some same, with_top-append y (listed homes y) ((top x, v) ∷ []), eq-eqb (top x) (top y))

  -- no other hash does
  pub candidates-inserted_other : (homes : List (List (ℕ × H))) (x y : ℕ) (v : H) → 0 < length homes
      → ((home homes y ≡ home homes x) × (top y ≡ top x) → ⊥) → candidates (with_handle homes x v) y ≡ candidates homes y
  candidates-inserted_other homes x y v some other = grind (
    arith,
    cases_eq (home homes y) (home homes x),
    listed-put_last homes x y (top x, v),
    with_top-append y (listed homes y) ((top x, v) ∷ []),
    ne_eqb (top x) (top y),
    append-nil (candidates homes y),
    listed-with_other homes x y (listed homes x ++ (top x, v) ∷ []),
  )

  module _ (eq : H → H → Bool) where
    listed-removed : (homes : List (List (ℕ × H))) (x y : ℕ) (v : H) → 0 < length homes → home homes y ≡ home homes x
        → listed (without_handle eq homes x v) y ≡ without_first (is_entry_of eq x v) (listed homes y)
    listed-removed homes x y v some same = grind (arith, listed-with_same homes x y (without_first (is_entry_of eq x v) (listed homes x)) some same)

    with_top-taken : (x : ℕ) (v : H) (es : List (ℕ × H)) → with_top x (without_first (is_entry_of eq x v) es) ≡ without_first (λ w. eq w v) (with_top x es)
    with_top-taken x v [] = refl
    with_top-taken x v (e ∷ es) = grind (arith, cases_Bool (e.0 == top x), cases_Bool (eq e.1 v), with_top-taken x v es)

    with_top-taken_other : (x y : ℕ) (v : H) (es : List (ℕ × H)) → (top y ≡ top x → ⊥) → with_top y (without_first (is_entry_of eq x v) es) ≡ with_top y es
    with_top-taken_other x y v [] other = refl
    with_top-taken_other x y v (e ∷ es) other = grind (arith, cases_Bool (e.0 == top y), cases_Bool (is_entry_of eq x v e), eqb-true e.0 (top y), ne_eqb e.0 (top x), with_top-taken_other x y v es)

    -- the hash of a removal yields the handles without the first that equals the removed one
    pub candidates-removed : (homes : List (List (ℕ × H))) (x y : ℕ) (v : H) → 0 < length homes → home homes y ≡ home homes x
        → top y ≡ top x → candidates (without_handle eq homes x v) y ≡ without_first (λ w. eq w v) (candidates homes y)
    candidates-removed homes x y v some same fingerprint = grind (arith, fingerprint, listed-removed homes x y v some same, with_top-taken x v (listed homes y))

    -- every other hash yields what it did
    pub candidates-removed_other : (homes : List (List (ℕ × H))) (x y : ℕ) (v : H) → 0 < length homes
        → ((home homes y ≡ home homes x) × (top y ≡ top x) → ⊥) → candidates (without_handle eq homes x v) y ≡ candidates homes y
    candidates-removed_other homes x y v some other = grind (
      arith,
      cases_eq (home homes y) (home homes x),
      listed-removed homes x y v some,
      with_top-taken_other x y v (listed homes y),
      listed-with_other homes x y (without_first (is_entry_of eq x v) (listed homes x)),
    )
