-- The bytes that accesses ask for, and the bytes of those that hit.
use Rattle.std.specs.Prelude.{ℕ, ◌+◌, ◌-◌, ◌^◌, Bool, if◌then◌else◌, min, List, [], ◌∷◌, drop, take}
use Rattle.std.specs.List.{sum}

-- the sum of the sizes of the accesses that hit
abbrev pub hit_bytes : List Bool → List ℕ → ℕ
hit_bytes [] sizes = 0
hit_bytes (hit ∷ outcomes) [] = 0
hit_bytes (hit ∷ outcomes) (size ∷ sizes) = (if hit then size else 0) + hit_bytes outcomes sizes

-- a sum is capped at the largest number of 64 bits
abbrev pub capped : ℕ → ℕ
capped sum = min sum (2 ^ 64 - 1)

-- what belongs to the accesses from one up to another
abbrev pub between : {X : Type 0} → ℕ → ℕ → List X → List X
between first last xs = drop first (take last xs)

-- the bytes that are asked for from one access up to another, and those of the hits among them
abbrev pub asked_between : ℕ → ℕ → List ℕ → ℕ
asked_between first last sizes = capped (sum (between first last sizes))

abbrev pub hit_between : ℕ → ℕ → List Bool → List ℕ → ℕ
hit_between first last outcomes sizes = capped (hit_bytes (between first last outcomes) (between first last sizes))
