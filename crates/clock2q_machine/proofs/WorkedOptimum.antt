-- The optimum on traces worked out by hand: the next uses, the evicted keys, and the keys that hit.
use Rattle.std.proofs.Common.{◌≡◌, ℕ, List, [], ◌∷◌, refl}
use Rattle.std.specs.Prelude.{length, nat_lt, if◌then◌else◌}
use Rattle.clock2q_machine.specs.Hits.{hits, is_in}
use Rattle.clock2q_machine.specs.SecondChance.{clock_hits}
use Rattle.clock2q_machine.specs.Optimum.{next_use, farthest, optimal_after, optimal_hits}

-- key 2 comes after two others, and key 4 never
uses : (next_use 2 (1 ∷ 3 ∷ 2 ∷ 1 ∷ []) ≡ 2) × (next_use 4 (1 ∷ 3 ∷ 2 ∷ 1 ∷ []) ≡ 4) × (farthest (1 ∷ 3 ∷ 2 ∷ 1 ∷ []) 1 (2 ∷ 3 ∷ []) ≡ 2)
uses = (refl, refl, refl)

-- key 4 misses in a full cache: key 2 is evicted, which is used last of the three; of two that aren't used again the
-- first in the list is
leaves : (optimal_after 3 4 (1 ∷ 3 ∷ 2 ∷ []) (3 ∷ 2 ∷ 1 ∷ []) ≡ 4 ∷ 3 ∷ 1 ∷ []) × (optimal_after 3 4 (1 ∷ []) (3 ∷ 2 ∷ 1 ∷ []) ≡ 4 ∷ 2 ∷ 1 ∷ [])
leaves = (refl, refl)

-- the trace on which FIFO has fewer hits with more room: the optimum has more
abbrev textbook : List ℕ
textbook = 1 ∷ 2 ∷ 3 ∷ 4 ∷ 1 ∷ 2 ∷ 5 ∷ 1 ∷ 2 ∷ 3 ∷ 4 ∷ 5 ∷ []

more_room : (optimal_hits 3 textbook ≡ 5) × (optimal_hits 4 textbook ≡ 6)
more_room = (refl, refl)

-- a loop one key longer than the cache, which never hits under CLOCK
abbrev loop : List ℕ
loop = 1 ∷ 2 ∷ 3 ∷ 1 ∷ 2 ∷ 3 ∷ 1 ∷ 2 ∷ 3 ∷ []

a_loop : (optimal_hits 2 loop ≡ 3) × (clock_hits 2 loop ≡ 0)
a_loop = (refl, refl)

-- a policy that may reject a key can hit more: with room for one key, this one keeps the first
abbrev keeping_first : ℕ → List ℕ → List ℕ
keeping_first key held = if nat_lt (length held) 1 then key ∷ held else held

turned_away : (optimal_hits 1 (1 ∷ 2 ∷ 1 ∷ []) ≡ 0) × (hits is_in keeping_first (1 ∷ 2 ∷ 1 ∷ []) [] ≡ 1)
turned_away = (refl, refl)
