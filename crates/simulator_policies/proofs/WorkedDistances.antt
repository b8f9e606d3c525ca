-- Stack distances on traces worked out by hand, and LRU's hits at each capacity, which are the distances below it.
use Rattle.std.proofs.Common.{◌≡◌, ℕ, List, [], ◌∷◌, map, refl}
use Rattle.std.specs.Prelude.{Option, None, Some}
use Rattle.simulator_policies.specs.declared.plain.PlainPolicy.TheVariants.{LeastRecentlyUsed}
use Rattle.simulator_policies.specs.Policies.{plain_hits}
use Rattle.simulator_policies.specs.StackDistances.{recent_after, recent_after_all, stack_distance}

-- the stack distances of a trace's keys, one after another
abbrev distances : List ℕ → List ℕ → List (Option ℕ)
distances [] recent = []
distances (key ∷ trace) recent = stack_distance key recent ∷ distances trace (recent_after key recent)

-- key 1 was accessed twice: it is in front, and is there once
in_front : recent_after_all (1 ∷ 2 ∷ 3 ∷ 1 ∷ []) [] ≡ 1 ∷ 3 ∷ 2 ∷ []
in_front = refl

-- an access of the same key again has distance 0, and a key accessed twice in between counts once
between : distances (1 ∷ 1 ∷ 2 ∷ 2 ∷ 1 ∷ []) [] ≡ None ∷ Some 0 ∷ None ∷ Some 0 ∷ Some 1 ∷ []
between = refl

abbrev textbook : List ℕ
textbook = 1 ∷ 2 ∷ 3 ∷ 4 ∷ 1 ∷ 2 ∷ 5 ∷ 1 ∷ 2 ∷ 3 ∷ 4 ∷ 5 ∷ []

textbook_distances : distances textbook [] ≡ None ∷ None ∷ None ∷ None ∷ Some 3 ∷ Some 3 ∷ None ∷ Some 2 ∷ Some 2 ∷ Some 4 ∷ Some 4 ∷ Some 4 ∷ []
textbook_distances = refl

-- two of these are below 3, two more below 4, and the other three below 5
textbook_hits : map (λ capacity. plain_hits LeastRecentlyUsed capacity textbook) (2 ∷ 3 ∷ 4 ∷ 5 ∷ 6 ∷ []) ≡ 0 ∷ 2 ∷ 4 ∷ 7 ∷ 7 ∷ []
textbook_hits = refl
