-- What the optimum holds, given by the indices of the next uses.
use Rattle.std.specs.Prelude.{◌≡◌, ℕ, zero, suc, ◌+◌, ◌<◌, ◌≤◌, Bool, true, nat_lt, if◌then◌else◌, List, [], ◌∷◌, length, get_or, drop}
use Rattle.clock2q_machine.specs.Hits.{is_in}
use Rattle.clock2q_machine.specs.Optimum.{next_use, optimal_after}
use Rattle.simulator_policies.specs.declared.optimal.Awaited.{Awaited}
use Rattle.simulator_policies.specs.Indices.{AreLevels, bound_of, contains}

-- what the optimum holds after this many keys of a trace
abbrev pub optimal_at : ℕ → List ℕ → ℕ → List ℕ
optimal_at capacity trace zero = []
optimal_at capacity trace (suc at) = optimal_after capacity (get_or trace at 0) (drop (suc at) trace) (optimal_at capacity trace at)

-- the index of the next use of a key, from an index on: the length of the trace, if it isn't used again
abbrev pub use_from : List ℕ → ℕ → ℕ → ℕ
use_from trace at key = at + next_use key (drop at trace)

-- for each index, that of the next use of its key
pub record AreNextUses (trace next : List ℕ) : Type 0 where
  pub long : length next ≡ length trace
  pub each : (at : ℕ) → at < length trace → get_or next at 0 ≡ use_from trace (suc at) (get_or trace at 0)

-- how many keys of a list are used again, from an index on
abbrev pub used_from : List ℕ → ℕ → List ℕ → ℕ
used_from trace at [] = 0
used_from trace at (key ∷ held) = (if nat_lt (use_from trace at key) (length trace) then 1 else 0) + used_from trace at held

module _ (trace : List ℕ) (at : ℕ) (held : List ℕ) where
  -- an index is that of a held key's next use
  pub record IsUse (index : ℕ) : Type 0 where
    pub within : index < length trace
    pub resident : is_in (get_or trace index 0) held ≡ true
    pub next : use_from trace at (get_or trace index 0) ≡ index

  -- a set has the next uses of the held keys, and only those; a count is how many there are
  pub record IsWaiting (waits : ℕ → Bool) (count : ℕ) : Type 0 where
    pub sound : (index : ℕ) → waits index ≡ true → IsUse index
    pub complete : (key : ℕ) → is_in key held ≡ true → use_from trace at key < length trace → waits (use_from trace at key) ≡ true
    pub counted : count ≡ used_from trace at held

-- it waits for the next uses of the held keys
pub record IsAwaiting {A : Type 0} (trace : List ℕ) (at : ℕ) (held : List ℕ) (awaited : Awaited A) : Type 0 where
  pub set : AreLevels awaited.waiting
  pub wide : length trace ≤ bound_of awaited.waiting
  pub waiting : IsWaiting trace at held (contains awaited.waiting) awaited.count
