-- A set of indices in words of 64 bits, over a set of the words that have some.
use Rattle.std.specs.Prelude.{◌≡◌, ℕ, ◌-◌, ◌*◌, ◌/◌, ◌%◌, ◌^◌, ◌≤◌, Bool, ◌==◌, nat_lt, length, get_or}
use Rattle.std.specs.Int.{bit_at}
use Rattle.simulator_policies.specs.declared.indices.Indices.{Indices}
use Rattle.simulator_policies.specs.declared.index_tree.IndexTree.{IndexTree}
use Rattle.simulator_policies.specs.IndexTree.{has, IsIndexTree}

module _ {S A : Type 0} where
  -- whether an index is in the set: its bit in its word is 1
  abbrev pub contains : Indices S A → ℕ → Bool
  contains set index = bit_at (get_or set.words.items (index / 64) 0) (63 - index % 64) == 1

  -- the indices are below this
  abbrev pub bound_of : Indices S A → ℕ
  bound_of set = 64 * length set.words.items

  -- the other set is whole, and has the words that aren't 0
  pub record IsIndices (is_whole : S → Type 0) (bound : S → ℕ) (holds : S → ℕ → Bool) (set : Indices S A) : Type 0 where
    pub few : 64 * length set.words.items ≤ 2 ^ 63
    pub whole : is_whole set.some
    pub wide : length set.words.items ≤ bound set.some
    pub each : (word : ℕ) → holds set.some word ≡ nat_lt 0 (get_or set.words.items word 0)

-- three levels of words over a tree
abbrev pub Levels : Type 0 → Type 0
Levels A = Indices (Indices (Indices (IndexTree A) A) A) A

abbrev pub AreLevels : {A : Type 0} → Levels A → Type 0
AreLevels set =
    IsIndices (IsIndices (IsIndices IsIndexTree (λ tree. tree.leaves) has) bound_of contains) bound_of contains set
