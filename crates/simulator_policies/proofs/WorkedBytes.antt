-- A trace of keys of unequal sizes, worked out by hand, in caches for 100 bytes.
use Rattle.std.specs.Prelude.{◌≡◌, ℕ, true, false, List, [], ◌∷◌, refl}
use Rattle.simulator_policies.specs.declared.plain.PlainPolicy.TheVariants.{LeastRecentlyUsed, FirstInFirstOut}
use Rattle.simulator_policies.specs.ByteCaches.{byte_outcomes}

abbrev trace : List ℕ
trace = 1 ∷ 2 ∷ 1 ∷ 3 ∷ 2 ∷ 1 ∷ 4 ∷ 1 ∷ []

-- key 2 has 60 bytes, key 3 has 50, and key 4 doesn't fit
abbrev sizes : List ℕ
sizes = 40 ∷ 60 ∷ 40 ∷ 50 ∷ 60 ∷ 40 ∷ 101 ∷ 40 ∷ []

recent : byte_outcomes LeastRecentlyUsed 100 trace sizes ≡ false ∷ false ∷ true ∷ false ∷ false ∷ false ∷ false ∷ true ∷ []
recent = refl

first : byte_outcomes FirstInFirstOut 100 trace sizes ≡ false ∷ false ∷ true ∷ false ∷ false ∷ false ∷ false ∷ true ∷ []
first = refl
