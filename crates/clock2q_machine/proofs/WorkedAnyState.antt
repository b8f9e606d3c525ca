-- Loops from other states than a full cache, worked out by hand: how many rounds it takes until each access hits.
use Rattle.std.proofs.Common.{◌≡◌, ℕ, List, [], ◌∷◌, ◌++◌, map, refl}
use Rattle.clock2q_machine.specs.Calls.{Call, Put}
use Rattle.clock2q_machine.proofs.WorkedRuns.{puts, gets, remembering}
use Rattle.clock2q_machine.proofs.WorkedLoops.{hits_of_rounds}

abbrev each : List ℕ → List (Call ℕ ℕ)
each keys = map (λ k. Put k k) keys

-- a loop of five keys, as many as Main's share, of which the fourth round still misses one: all of Main were hit, and
-- three of them aren't the loop's
fourth_round_misses : hits_of_rounds 6 (each (2 ∷ 3 ∷ 1 ∷ 7 ∷ 8 ∷ [])) (remembering 6 1 1 5 (puts 1 6 ++ gets 2 5)) ≡ 3 ∷ 3 ∷ 2 ∷ 4 ∷ 5 ∷ 5 ∷ []
fourth_round_misses = refl

-- No number of rounds is enough for each loop that is longer than Main: the larger Small and its window are, the more
-- rounds miss. Small and Main are full of keys that were never evicted, and all of Main were hit; the loop's keys are all of
-- these but one, and a new one.

-- with four keys in Small the seventh round is the first without a miss
rounds_of_four : hits_of_rounds 7 (each (9 ∷ 8 ∷ 7 ∷ 3 ∷ 6 ∷ 2 ∷ 5 ∷ 1 ∷ [])) (remembering 8 4 4 4 (puts 1 8 ++ gets 5 4)) ≡ 6 ∷ 7 ∷ 7 ∷ 7 ∷ 7 ∷ 7 ∷ 8 ∷ []
rounds_of_four = refl

-- and with five the ninth
rounds_of_five : hits_of_rounds 9 (each (11 ∷ 10 ∷ 9 ∷ 4 ∷ 8 ∷ 3 ∷ 7 ∷ 2 ∷ 6 ∷ 1 ∷ [])) (remembering 10 5 5 5 (puts 1 10 ++ gets 6 5)) ≡ 8 ∷ 9 ∷ 9 ∷ 9 ∷ 9 ∷ 9 ∷ 9 ∷ 9 ∷ 10 ∷ []
rounds_of_five = refl
