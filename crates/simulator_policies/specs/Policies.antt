-- What a cache of each plain policy holds after a key of a trace, and how many keys of a trace hit.
use Rattle.std.specs.Prelude.{◌≡◌, ℕ, ◌<◌, Bool, false, nat_eq, if◌then◌else◌, List, [], ◌∷◌, get_or, length, take}
use Rattle.std.specs.List.{AllByRecursion, IsDistinct}
use Rattle.clock2q_machine.specs.Hits.{hits, outcomes, is_in, without}
use Rattle.simulator_policies.specs.declared.plain.PlainPolicy.{PlainPolicy}
use Rattle.simulator_policies.specs.declared.plain.PlainPolicy.TheVariants.{LeastRecentlyUsed, FirstInFirstOut}

-- the plain policies are lists of keys, of which the last is evicted: a key that isn't held is added at the front
abbrev pub brought : ℕ → ℕ → List ℕ → List ℕ
brought capacity key held = take capacity (key ∷ held)

-- the list after a hit: the key moves to the front, or nothing changes
abbrev pub after_hit : PlainPolicy → ℕ → List ℕ → List ℕ
after_hit LeastRecentlyUsed key held = key ∷ without key held
after_hit FirstInFirstOut key held = held

abbrev pub plain_after : PlainPolicy → ℕ → ℕ → List ℕ → List ℕ
plain_after policy capacity key held = if is_in key held then after_hit policy key held else brought capacity key held

-- every key of a trace is below a number
abbrev pub AreBelow : ℕ → List ℕ → Type 0
AreBelow keys trace = (index : ℕ) → index < length trace → get_or trace index 0 < keys

-- how many keys hit in a new cache
abbrev pub plain_hits : PlainPolicy → ℕ → List ℕ → ℕ
plain_hits policy capacity trace = hits is_in (plain_after policy capacity) trace []

-- and which ones
abbrev pub plain_outcomes : PlainPolicy → ℕ → List ℕ → List Bool
plain_outcomes policy capacity trace = outcomes is_in (plain_after policy capacity) trace []

-- what a cache of a plain policy holds after a trace
abbrev pub plain_after_all : PlainPolicy → ℕ → List ℕ → List ℕ → List ℕ
plain_after_all policy capacity [] held = held
plain_after_all policy capacity (key ∷ trace) held = plain_after_all policy capacity trace (plain_after policy capacity key held)

-- the keys of a trace differ from one another, and none of them is held
abbrev pub AreNew : List ℕ → List ℕ → Type 0
AreNew trace held = IsDistinct nat_eq trace × AllByRecursion (λ key. is_in key held ≡ false) trace
