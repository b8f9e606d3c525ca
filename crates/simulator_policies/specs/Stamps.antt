-- The list of a plain policy, given by the index in the trace at which each key was last put at the front.
use Rattle.std.specs.Prelude.{◌≡◌, ℕ, zero, suc, ◌<◌, ◌≤◌, Bool, ◌&&◌, ◌==◌, nat_lt, if◌then◌else◌, List, [], ◌∷◌, get_or, length}

module _ (trace stamps : List ℕ) (left : ℕ) where
  -- whether the key at an index was last put at the front there, and isn't evicted
  abbrev pub is_newest : ℕ → Bool
  is_newest index = (get_or stamps (get_or trace index 0) 0 == suc index) && nat_lt left (suc index)

  -- the keys held after this many of the trace, newest first
  abbrev pub held_at : ℕ → List ℕ
  held_at zero = []
  held_at (suc index) = if is_newest index then get_or trace index 0 ∷ held_at index else held_at index

-- each stamp is 0 or one more than an index that had its key
pub record AreStamps (trace stamps : List ℕ) (at : ℕ) : Type 0 where
  pub bound : (key : ℕ) → get_or stamps key 0 ≤ at
  pub own : (key index : ℕ) → get_or stamps key 0 ≡ suc index → get_or trace index 0 ≡ key

-- each key of the trace has a stamp
abbrev pub AreStamped : List ℕ → List ℕ → Type 0
AreStamped trace stamps = (index : ℕ) → index < length trace → get_or trace index 0 < length stamps
