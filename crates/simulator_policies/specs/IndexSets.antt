-- Sets of indices.
use Rattle.std.specs.Prelude.{◌≡◌, ℕ, ◌≤◌, Bool, true}

-- an index is the last of those in a set
pub record IsLastIn (holds : ℕ → Bool) (index : ℕ) : Type 0 where
  pub inside : holds index ≡ true
  pub latest : (other : ℕ) → holds other ≡ true → other ≤ index
