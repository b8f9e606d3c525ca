-- What removing an entry from its home's list results in: the list that a removal specifies, the table as it was before an insertion, and walks that are no longer.
use Rattle.std.proofs.Common.{◌≡◌, ℕ, suc, ◌<◌, ◌≤◌, refl, ap, sym, ◌∙◌, arith, Bool, true, false, cond, eq-eqb, List, [], ◌∷◌, ◌++◌, length, set-set, append-nil, Option}
use Rattle.std.proofs.lemmas.List.{set_comm}
use Rattle.std.proofs.lemmas.List.Folds.{list_any-append}
use Rattle.std.specs.List.{list_any}
use Rattle.std.proofs.Math.Seq.{set-get_or}
use Rattle.clock2q_handles.specs.Homes.{top, capacity, listed, total, with_list, put_last, without_first, with_handle, is_entry_of, without_handle, IsNew}
use Rattle.clock2q_handles.specs.Positions.{with_first, handle_replaced}
use Rattle.clock2q_handles.specs.Layout.{Placed, walk, layout, homes_of, IsTidy}
use Rattle.clock2q_handles.proofs.layout.TidyLayout.{tidy-layout, length-homes_of}
use Rattle.clock2q_handles.proofs.layout.FewerEntries.{shorter-walk}
use Rattle.clock2q_handles.proofs.shifts.Changes.{length-with_list, listed-with_same, listed-with_other, total-with_list}

module _ {E : Type 0} (test : E → Bool) where
  -- if no element passes, none is left out
  pub without_first-none : (es : List E) → list_any test es ≡ false → without_first test es ≡ es
  without_first-none [] none = refl
  without_first-none (e ∷ es) none = grind (arith, without_first-none es)

  -- the first that passes is left out
  pub without_first-at : (xs ys : List E) (e : E) → list_any test xs ≡ false → test e ≡ true → without_first test (xs ++ e ∷ ys) ≡ xs ++ ys
  without_first-at [] ys e none is = ap (λ b. cond b ys (e ∷ without_first test ys)) is
  without_first-at (x ∷ xs) ys e none is = grind (arith, without_first-at xs ys e)

  -- what comes after the first that passes stays
  pub without_first-append : (es ys : List E) → list_any test es ≡ true → without_first test (es ++ ys) ≡ without_first test es ++ ys
  without_first-append [] ys some = absurd (cc)
  without_first-append (e ∷ es) ys some = grind (arith, without_first-append es ys)

  pub length-without_first : (es : List E) → length (without_first test es) ≤ length es
  length-without_first [] = omega arith
  length-without_first (e ∷ es) = grind (arith, length-without_first es)

  length-without_some : (es : List E) → list_any test es ≡ true → suc (length (without_first test es)) ≡ length es
  length-without_some [] some = absurd (cc)
  length-without_some (e ∷ es) some = grind (arith, length-without_some es)

  with_first-append : (new : E) (es ys : List E) → list_any test es ≡ true → with_first test new (es ++ ys) ≡ with_first test new es ++ ys
  with_first-append new [] ys some = absurd (cc)
  with_first-append new (e ∷ es) ys some = grind (arith, with_first-append new es ys)

-- a change of the list of y that leaves what is put last may be made after e is put in under x
changed-after : {E : Type 0} (f : List E → List E) (homes : List (List E)) (x y : ℕ) (e : E) → 0 < length homes → f (listed homes y ++ e ∷ []) ≡ f (listed homes y) ++ e ∷ []
    → with_list (put_last homes x e) y (f (listed (put_last homes x e) y)) ≡ put_last (with_list homes y (f (listed homes y))) x e
changed-after {E} f homes x y e some kept = grind (arith, length-with_list, listed-with_same, set-set, listed-with_other, set_comm)

module _ {H : Type 0} (eq : H → H → Bool) where
  -- if there is no such entry, nothing changes
  pub removed-none : (homes : List (List (ℕ × H))) (x : ℕ) (v : H) → IsNew eq homes x v → without_handle eq homes x v ≡ homes
  removed-none homes x v none = grind (arith, without_first-none, set-get_or)

  -- an entry that is held is held once another is put in
  pub held-still : (homes : List (List (ℕ × H))) (x y : ℕ) (v w : H) → 0 < length homes → list_any (is_entry_of eq y w) (listed homes y) ≡ true
      → list_any (is_entry_of eq y w) (listed (with_handle homes x v) y) ≡ true
  held-still homes x y v w some held = grind (arith, listed-with_same, list_any-append, listed-with_other)

  -- an entry may be removed after another is put in
  pub entry-replaced-homes : (homes : List (List (ℕ × H))) (x y : ℕ) (v w : H) → 0 < length homes → list_any (is_entry_of eq y w) (listed homes y) ≡ true
      → without_handle eq (with_handle homes x v) y w ≡ with_handle (without_handle eq homes y w) x v
  entry-replaced-homes homes x y v w some held = changed-after (without_first (is_entry_of eq y w)) homes x y (top x, v) some (grind (arith, without_first-append))

  -- or get another handle
  pub replaced-homes : (homes : List (List (ℕ × H))) (x y : ℕ) (v w w' : H) → 0 < length homes → list_any (is_entry_of eq y w) (listed homes y) ≡ true
      → handle_replaced eq (with_handle homes x v) y w w' ≡ with_handle (handle_replaced eq homes y w w') x v
  replaced-homes homes x y v w w' some held = changed-after (with_first (is_entry_of eq y w) (top y, w')) homes x y (top x, v) some (grind (arith, with_first-append))

  -- one entry fewer is left
  pub removed-fewer : (homes : List (List (ℕ × H))) (x : ℕ) (v : H) → list_any (is_entry_of eq x v) (listed homes x) ≡ true → suc (total (without_handle eq homes x v)) ≡ total homes
  removed-fewer [] x v held = absurd (cc)
  removed-fewer (es ∷ homes) x v held =
      let less = without_first (is_entry_of eq x v) (listed (es ∷ homes) x) in
      omega (arith, total-with_list (es ∷ homes) x less (omega arith), length-without_some (is_entry_of eq x v) (listed (es ∷ homes) x) held)

  -- no walk becomes longer
  pub removed-walk : (homes : List (List (ℕ × H))) (x : ℕ) (v : H) → total homes ≤ capacity (length homes) → (y : ℕ) → walk (without_handle eq homes x v) y ≤ walk homes y
  removed-walk homes x v room y = shorter-walk homes x y (without_first (is_entry_of eq x v) (listed homes x)) room (length-without_first (is_entry_of eq x v) (listed homes x))

  -- removing an entry that was put in restores the slots
  pub restored-slots : (slots : List (Option (Placed (ℕ × H)))) (x : ℕ) (v : H) → IsTidy slots → 0 < length slots
      → eq v v ≡ true → IsNew eq (homes_of slots) x v → layout (without_handle eq (with_handle (homes_of slots) x v) x v) ≡ slots
  restored-slots slots x v tidy some same new =
      let homes : without_handle eq (with_handle (homes_of slots) x v) x v ≡ homes_of slots =
      grind (arith, length-homes_of, length-with_list, listed-with_same, eq-eqb, without_first-at, append-nil, set-set, set-get_or) in
      ap layout homes ∙ sym (tidy-layout slots tidy)
