-- Belady's optimum: on a miss in a full cache, it evicts the key whose next use is farthest away.
use Rattle.std.specs.Prelude.{◌≡◌, ℕ, ◌+◌, ◌≤◌, ◌⊎◌, Bool, true, ◌==◌, nat_lt, if◌then◌else◌, List, [], ◌∷◌, length}
use Rattle.clock2q_machine.specs.Hits.{is_in, without}

-- the number of keys of a trace before the next use of a key: all of them, if it isn't used again
abbrev pub next_use : ℕ → List ℕ → ℕ
next_use key [] = 0
next_use key (first ∷ trace) = if first == key then 0 else 1 + next_use key trace

-- the one of two keys that is used later
abbrev pub later : List ℕ → ℕ → ℕ → ℕ
later trace key other = if nat_lt (next_use key trace) (next_use other trace) then other else key

-- among a key and others, the one whose next use is farthest away
abbrev pub farthest : List ℕ → ℕ → List ℕ → ℕ
farthest trace key [] = key
farthest trace key (other ∷ held) = farthest trace (later trace key other) held

-- that key is evicted
abbrev pub without_farthest : List ℕ → List ℕ → List ℕ
without_farthest trace [] = []
without_farthest trace (first ∷ held) = without (farthest trace first held) (first ∷ held)

-- what the optimum holds after a key, with the rest of the trace ahead
abbrev pub optimal_after : ℕ → ℕ → List ℕ → List ℕ → List ℕ
optimal_after capacity key rest held =
    if is_in key held then held else key ∷ (if nat_lt (length held) capacity then held else without_farthest rest held)

-- the number of accesses of a trace that hit
abbrev pub optimal_hits_from : ℕ → List ℕ → List ℕ → ℕ
optimal_hits_from capacity [] held = 0
optimal_hits_from capacity (key ∷ rest) held = (if is_in key held then 1 else 0) + optimal_hits_from capacity rest (optimal_after capacity key rest held)

-- and in a new cache
abbrev pub optimal_hits : ℕ → List ℕ → ℕ
optimal_hits capacity trace = optimal_hits_from capacity trace []

-- whether each access hits
abbrev pub optimal_outcomes_from : ℕ → List ℕ → List ℕ → List Bool
optimal_outcomes_from capacity [] held = []
optimal_outcomes_from capacity (key ∷ rest) held = is_in key held ∷ optimal_outcomes_from capacity rest (optimal_after capacity key rest held)

abbrev pub optimal_outcomes : ℕ → List ℕ → List Bool
optimal_outcomes capacity trace = optimal_outcomes_from capacity trace []

-- a demand policy: after an access a cache holds the key, otherwise only keys it held before, and never more than its
-- capacity. `IsCache` is an invariant of the caches of the policy, and `held` lists the keys of one
pub record IsDemandPolicy {Cache : Type 0} (IsCache : Cache → Type 0) (holds : ℕ → Cache → Bool) (after : ℕ → Cache → Cache) (capacity : ℕ) : Type 0 where
  pub goes_on : (key : ℕ) (cache : Cache) → IsCache cache → IsCache (after key cache)
  pub comes : (key : ℕ) (cache : Cache) → IsCache cache → holds key (after key cache) ≡ true
  pub on_demand : (key other : ℕ) (cache : Cache) → IsCache cache → holds other (after key cache) ≡ true → (key ≡ other) ⊎ (holds other cache ≡ true)
  pub held : Cache → List ℕ
  pub listed : (key : ℕ) (cache : Cache) → IsCache cache → holds key cache ≡ is_in key (held cache)
  pub room : (cache : Cache) → IsCache cache → length (held cache) ≤ capacity
