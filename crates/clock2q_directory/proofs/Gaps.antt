-- What a gap that a lookup has found spares an index.
use Rattle.clock2q_directory.proofs.Names.{◌≡◌, ℕ, ◌≤◌, Bool, true, false, ◌&&◌, if◌then◌else◌, List, Option, Some, None, inl, inr, refl, arith, is_some, IsSome, cases_Bool, walk, GapValue, walk_to_gap, IndexState, IsGapFor}

module _ (homes : List (List (ℕ × ℕ))) (x : ℕ) where
  -- the walk to the gap
  pub walk-found : (gap : Option GapValue) → walk_to_gap gap homes x ≡ (if is_some gap then 0 else walk homes x)
  walk-found None = refl
  walk-found (Some g) = refl

  -- the same, unless it is of no use
  pub walk-usable : (gap : Option GapValue) (b : Bool) → walk_to_gap (if b then gap else None) homes x ≡ (if is_some gap && b then 0 else walk homes x)
  walk-usable None true = refl
  walk-usable None false = refl
  walk-usable (Some g) true = refl
  walk-usable (Some g) false = refl

  -- a gap that is used though it counts as of no use
  pub walk-spared : (gap : Option GapValue) (b : Bool) → walk_to_gap gap homes x ≤ (if is_some gap && b then 0 else walk homes x)
  walk-spared None b = omega arith
  walk-spared (Some g) true = omega arith
  walk-spared (Some g) false = omega arith

-- a gap that may be used is the one that was found
module _ (gap used : Option GapValue) (b : Bool) (is : used ≡ (if b then gap else None)) where
  pub usable-gap : (x : ℕ) (v : IndexState) → IsGapFor gap x v → IsGapFor used x v
  usable-gap x v at = elim (cases_Bool b) [ inl on ↦ rw (is, on) at | inr off ↦ rw (is, off) tt ]

  -- and slots and places share a table
  pub usable-shared : IsSome used → b ≡ true
  usable-shared some = elim (cases_Bool b) [ inl on ↦ on | inr off ↦ absurd (cc) ]
