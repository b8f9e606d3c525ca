-- Slots in a ring: each links to a next one, which links back to it.
use Rattle.std.specs.Prelude.{◌≡◌, ℕ, zero, suc, not, ◌==◌, List, [], ◌∷◌}
use Rattle.std.specs.List.{filter}

-- the slots without this one
abbrev pub without : ℕ → List ℕ → List ℕ
without slot slots = filter (λ s. not (s == slot)) slots

-- links from one slot through these to another: each is the next of the one before it, and links back to it
abbrev pub Joins : (next previous : ℕ → ℕ) → ℕ → List ℕ → ℕ → Type 0
Joins next previous from [] to = (next from ≡ to) × (previous to ≡ from)
Joins next previous from (s ∷ slots) to = (next from ≡ s) × (previous s ≡ from) × Joins next previous s slots to

-- the same, with the last one linked to the first
abbrev pub IsRing : (next previous : ℕ → ℕ) → List ℕ → Type 0
IsRing next previous [] = Unit {0}
IsRing next previous (s ∷ slots) = Joins next previous s slots s

-- `count` slots, from the first one on, each the next of the one before it
abbrev pub around : (ℕ → ℕ) → ℕ → ℕ → List ℕ
around next first zero = []
around next first (suc count) = first ∷ around next (next first) count
