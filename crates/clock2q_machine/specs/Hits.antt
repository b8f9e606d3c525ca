-- The hits of a trace with any policy, and lists of keys.
use Rattle.std.specs.Prelude.{ℕ, ◌+◌, Bool, false, ◌||◌, ◌==◌, if◌then◌else◌, List, [], ◌∷◌}

-- the number of accesses of a trace that hit, one after another
module _ {Cache : Type 0} (holds : ℕ → Cache → Bool) (after : ℕ → Cache → Cache) where
  abbrev pub hits : List ℕ → Cache → ℕ
  hits [] cache = 0
  hits (key ∷ trace) cache = (if holds key cache then 1 else 0) + hits trace (after key cache)

  -- and for each access whether it hits
  abbrev pub outcomes : List ℕ → Cache → List Bool
  outcomes [] cache = []
  outcomes (key ∷ trace) cache = holds key cache ∷ outcomes trace (after key cache)

-- the number of outcomes that are hits
abbrev pub hit_count : List Bool → ℕ
hit_count [] = 0
hit_count (hit ∷ outcomes) = (if hit then 1 else 0) + hit_count outcomes

-- whether a key is in a list
abbrev pub is_in : ℕ → List ℕ → Bool
is_in key [] = false
is_in key (first ∷ held) = (first == key) || is_in key held

-- the list without it
abbrev pub without : ℕ → List ℕ → List ℕ
without key [] = []
without key (first ∷ held) = if first == key then without key held else first ∷ without key held
