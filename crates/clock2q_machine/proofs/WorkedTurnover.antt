-- Calls that remove nothing, worked out by hand: what they earn, and how many keys of Main leave.
use Rattle.std.proofs.Common.{◌≡◌, ℕ, eqb, List, [], ◌∷◌, ◌++◌, refl}
use Rattle.clock2q_machine.specs.Machine.{Machine}
use Rattle.clock2q_machine.specs.Calls.{Call, Get, Evict}
use Rattle.clock2q_machine.specs.Steps.{after_all}
use Rattle.clock2q_machine.specs.Bounds.{summed}
use Rattle.clock2q_machine.specs.Scans.{set_in_small, left_main}
use Rattle.clock2q_machine.specs.Turnover.{earned}
use Rattle.clock2q_machine.proofs.WorkedRuns.{puts, gets, state, chosen}

-- what the calls earn, what Small had earned before, and how many keys of Main leave
abbrev turnover : List (Call ℕ ℕ) → Machine ℕ ℕ → ℕ × (ℕ × ℕ)
turnover calls m = (summed eqb (earned eqb) calls m, (set_in_small m, left_main eqb m (after_all eqb calls m)))

-- twelve keys that come once, and two of them again while they are remembered: two keys of Main leave
two_come_back : turnover (puts 21 12 ++ puts 23 2) (state 20 (puts 1 20)) ≡ (2, (0, 2))
two_come_back = refl

-- key 1 is old and hit twice, which earns one, and key 2 is young; key 1 takes a key's place once it is Small's tail
hit_in_small : turnover (Get 1 ∷ Get 1 ∷ Get 2 ∷ puts 21 5) (state 20 (puts 1 20)) ≡ (1, (0, 1))
hit_in_small = refl

-- hits on Main's keys earn nothing
hits_in_main : turnover (gets 3 18 ++ puts 21 40) (state 20 (puts 1 20)) ≡ (0, (0, 0))
hits_in_main = refl

-- without a Small each new key takes the place of one of Main's
without_small : turnover (puts 4 2) (after_all eqb (puts 1 3) (chosen 3 0 0)) ≡ (2, (0, 2))
without_small = refl

-- an eviction costs Main a key only while Small is empty
evictions : turnover (Evict ∷ Evict ∷ Evict ∷ []) (state 20 (puts 1 20)) ≡ (1, (0, 1))
evictions = refl
