-- Positions in a table: the slots where a home's entries are, and those where walks end.
use Rattle.std.specs.Prelude.{◌≡◌, ℕ, ◌+◌, ◌%◌, Bool, cond, List, [], ◌∷◌, length, set, slice_get, Option, Some, None}
use Rattle.std.specs.Coded.{Coded, code_by, coded×, coded_ℕ, coded_option}
use Rattle.clock2q_handles.specs.Homes.{top, listed, count, with_list, is_entry_of}
use Rattle.clock2q_handles.specs.Layout.{spill_of, walk}
use Rattle.clock2q_handles.specs.Slots.{Mark}
use mathlib.Core.Path.{refl}

module _ {E : Type 0} where
  -- entry i of the home of x is e, and is in slot n
  pub record IsEntryAt (homes : List (List E)) (x i : ℕ) (e : E) (n : ℕ) : Type 0 where
    pub entry : slice_get (listed homes x) i ≡ Some e
    pub slot : n ≡ (x + spill_of homes x + i) % length homes

  -- the same entries, with e as entry i of the home of x
  abbrev pub with_entry : List (List E) → ℕ → ℕ → E → List (List E)
  with_entry homes x i e = with_list homes x (set (listed homes x) i e)

  -- the list with e in place of its first element that passes the test
  abbrev pub with_first : (E → Bool) → E → List E → List E
  with_first test e [] = []
  with_first test e (y ∷ ys) = cond (test y) (e ∷ ys) (y ∷ with_first test e ys)

-- the first entry of x's home that `remove` of v would remove gets the handle w
abbrev pub handle_replaced : {H : Type 0} → (H → H → Bool) → List (List (ℕ × H)) → ℕ → H → H → List (List (ℕ × H))
handle_replaced eq homes x v w = with_list homes x (with_first (is_entry_of eq x v) (top x, w) (listed homes x))

-- what contracts see of a gap: the slot where a walk ends, and what it looks for there
pub record GapValue : Type 0 where
  pub position : ℕ
  pub mark : Mark

abbrev pub gap_value : ℕ → Mark → GapValue
gap_value position mark = record { position = position; mark = mark }

abbrev pub gap_code : Coded GapValue
gap_code = code_by (ℕ × Mark) (coded× coded_ℕ (coded_option (coded× coded_ℕ coded_ℕ))) (λ g. (g.position, g.mark)) (λ p. gap_value p.0 p.1) (λ _. refl)

-- where a walk for the fingerprint f from the home of x ends: just past the entries of that home, where one more would be
abbrev pub gap_from : {E : Type 0} → List (List E) → ℕ → ℕ → GapValue
gap_from homes x f = gap_value ((x + spill_of homes x + count homes x) % length homes) (Some (spill_of homes x + count homes x, f))

-- where a walk for x ends
abbrev pub gap_of : {E : Type 0} → List (List E) → ℕ → GapValue
gap_of homes x = gap_from homes x (top x)

-- the number of slots that are read to find the gap of x: none if a lookup has found it
abbrev pub walk_to_gap : {E : Type 0} → Option GapValue → List (List E) → ℕ → ℕ
walk_to_gap None homes x = walk homes x
walk_to_gap (Some gap) homes x = 0
