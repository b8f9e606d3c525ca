-- Loops worked out by hand: how long a loop a full cache admits, and that more room may hit less.
use Rattle.std.proofs.Common.{◌≡◌, ℕ, eqb, List, [], ◌∷◌, map, refl}
use Rattle.std.specs.List.{range_with_len, count_by}
use Rattle.clock2q_machine.specs.Machine.{Machine}
use Rattle.clock2q_machine.specs.Calls.{Call, Put}
use Rattle.clock2q_machine.specs.Steps.{answers, after_all}
use Rattle.clock2q_machine.specs.Loops.{rounds, is_hit, AreFarApart}
use Rattle.clock2q_machine.proofs.WorkedRuns.{puts, gets, state, remembering}

-- the number of hits of some puts
abbrev pub hits_in : List (Call ℕ ℕ) → Machine ℕ ℕ → ℕ
hits_in calls m = count_by is_hit (answers eqb calls m)

-- the number of hits in each of the first rounds of a loop
abbrev pub hits_of_rounds : ℕ → List (Call ℕ ℕ) → Machine ℕ ℕ → List ℕ
hits_of_rounds n loop m = map (λ round. hits_in loop (after_all eqb (rounds round loop) m)) (range_with_len 0 n)

-- a full cache of twenty has two keys in Small, and remembers ten
abbrev full : Machine ℕ ℕ
full = state 20 (puts 1 20)

-- it admits a loop of twelve keys, and never one of thirteen
twelve_are_admitted : (full.shares.small ≡ 2) × ((full.shares.history ≡ 10) × (hits_of_rounds 4 (puts 21 12) full ≡ 0 ∷ 2 ∷ 12 ∷ 12 ∷ []))
twelve_are_admitted = (refl, (refl, refl))

-- it has room for twelve beside eight keys of Main that were hit, and for nine only after one more round
beside_eight : hits_of_rounds 3 (puts 21 12) (after_all eqb (gets 5 8) full) ≡ 0 ∷ 2 ∷ 12 ∷ []
beside_eight = refl

beside_nine : hits_of_rounds 4 (puts 21 12) (after_all eqb (gets 5 9) full) ≡ 0 ∷ 2 ∷ 9 ∷ 12 ∷ []
beside_nine = refl

thirteen_never_hit : hits_of_rounds 4 (puts 21 13) full ≡ 0 ∷ 0 ∷ 0 ∷ 0 ∷ []
thirteen_never_hit = refl

-- a history as long as Main's share admits them, and all loops that fit
thirteen_with_more_history : hits_of_rounds 4 (puts 21 13) (remembering 20 2 1 18 (puts 1 20)) ≡ 0 ∷ 2 ∷ 13 ∷ 13 ∷ []
thirteen_with_more_history = refl

twenty_with_more_history : hits_of_rounds 4 (puts 21 20) (remembering 20 2 1 18 (puts 1 20)) ≡ 0 ∷ 2 ∷ 20 ∷ 20 ∷ []
twenty_with_more_history = refl

-- without a history a full cache admits no loop that is longer than Small
two_without_history : hits_of_rounds 3 (puts 21 2) (remembering 20 2 1 0 (puts 1 20)) ≡ 0 ∷ 2 ∷ 2 ∷ []
two_without_history = refl

three_without_history : hits_of_rounds 3 (puts 21 3) (remembering 20 2 1 0 (puts 1 20)) ≡ 0 ∷ 0 ∷ 0 ∷ []
three_without_history = refl

-- a new cache has room for thirteen
thirteen_in_a_new_cache : hits_of_rounds 3 (puts 21 13) (state 20 []) ≡ 0 ∷ 13 ∷ 13 ∷ []
thirteen_in_a_new_cache = refl

-- Belady's anomaly: of six accesses one hits at capacity 2, and none at capacity 3
more_room_fewer_hits : let trace : List (Call ℕ ℕ) = map (λ k. Put k k) (0 ∷ 1 ∷ 2 ∷ 3 ∷ 0 ∷ 1 ∷ []) in (hits_in trace (state 2 []) ≡ 1) × (hits_in trace (state 3 []) ≡ 0)
more_room_fewer_hits = (refl, refl)

-- keys that differ from the next two
far_apart : AreFarApart {V = ℕ} eqb 2 ((1, 1) ∷ (2, 2) ∷ (3, 3) ∷ (1, 1) ∷ [])
far_apart = ((refl, (refl, tt)), ((refl, (refl, tt)), ((refl, tt), (tt, tt))))
