-- LRU and FIFO on traces worked out by hand, whose optimum is in `WorkedOptimum` of the machine.
use Rattle.std.proofs.Common.{◌≡◌, ℕ, List, [], ◌∷◌, refl}
use Rattle.simulator_policies.specs.declared.plain.PlainPolicy.TheVariants.{LeastRecentlyUsed, FirstInFirstOut}
use Rattle.simulator_policies.specs.Policies.{plain_hits}

-- FIFO has fewer hits with more room
abbrev textbook : List ℕ
textbook = 1 ∷ 2 ∷ 3 ∷ 4 ∷ 1 ∷ 2 ∷ 5 ∷ 1 ∷ 2 ∷ 3 ∷ 4 ∷ 5 ∷ []

room_for_three : (plain_hits FirstInFirstOut 3 textbook ≡ 3) × (plain_hits LeastRecentlyUsed 3 textbook ≡ 2)
room_for_three = (refl, refl)

room_for_four : (plain_hits FirstInFirstOut 4 textbook ≡ 2) × (plain_hits LeastRecentlyUsed 4 textbook ≡ 4)
room_for_four = (refl, refl)

-- a loop one key longer than the cache never hits
a_loop : plain_hits LeastRecentlyUsed 2 (1 ∷ 2 ∷ 3 ∷ 1 ∷ 2 ∷ 3 ∷ 1 ∷ 2 ∷ 3 ∷ []) ≡ 0
a_loop = refl
