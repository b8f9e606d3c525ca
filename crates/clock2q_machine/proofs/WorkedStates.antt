-- The machine's states in runs worked out by hand: where each key is, its age, and which keys are remembered.
use Rattle.std.proofs.Common.{◌≡◌, ℕ, ◌+◌, Bool, true, false, eqb, List, [], ◌∷◌, ◌++◌, map, refl}
use Rattle.std.specs.Prelude.{Some, None}
use Rattle.std.specs.List.{range_with_len}
use Rattle.clock2q_machine.specs.Ages.{Age, Young, Old}
use Rattle.clock2q_machine.specs.Machine.{Machine}
use Rattle.clock2q_machine.specs.Calls.{Call, Put, Get, Contains, GetAt, SlotFor, Remove, Len, Value, Slot, Flag, Number}
use Rattle.clock2q_machine.specs.Steps.{answers, after_all}
use Rattle.clock2q_machine.proofs.WorkedRuns.{puts, state}

-- Small with slots and ages, and Main with slots and bits
abbrev small_of : Machine ℕ ℕ → List ((ℕ × ℕ) × Age)
small_of m = map (λ e. ((e.key, e.slot), e.age)) m.small

abbrev main_of : Machine ℕ ℕ → List ((ℕ × ℕ) × Bool)
main_of m = map (λ e. ((e.key, e.slot), e.bit)) m.main

-- keys from one on, each in the slot one below, with clear bits
abbrev in_order : ℕ → ℕ → List ((ℕ × ℕ) × Bool)
in_order from n = map (λ s. ((s + 1, s), false)) (range_with_len from n)

abbrev twenty : Machine ℕ ℕ
twenty = state 20 (puts 1 20)

-- the keys of Small, Main and the history
abbrev pub keys : Machine ℕ ℕ → List (List ℕ)
keys m = map (λ e. e.key) m.small ∷ map (λ e. e.key) m.main ∷ m.history ∷ []

thirty_one_puts : let m = state 20 (puts 0 31) in
    (keys m ≡ (30 ∷ 29 ∷ []) ∷ range_with_len 2 18 ∷ (28 ∷ 27 ∷ 26 ∷ 25 ∷ 24 ∷ 23 ∷ 22 ∷ 21 ∷ 20 ∷ 1 ∷ []) ∷ [])
    × (answers eqb (SlotFor 1 0 ∷ SlotFor 0 0 ∷ []) m ≡ Slot 2 2 ∷ Slot 1 29 ∷ [])
thirty_one_puts = (refl, refl)

removals_age_the_young : let m = state 40 (puts 0 40) in
    let calls : List (Call ℕ ℕ) = Remove 3 ∷ Put 40 40 ∷ Get 2 ∷ Put 41 41 ∷ Put 42 42 ∷ Put 43 43 ∷ [] in
    (answers eqb (calls ++ GetAt 2 2 ∷ GetAt 4 43 ∷ Contains 4 ∷ []) m
    ≡ Flag true ∷ Value None ∷ Value (Some 2) ∷ Value None ∷ Value None ∷ Value None ∷ Value (Some 2) ∷ Value (Some 43) ∷ Flag false ∷ [])
    × ((after_all eqb calls m).history ≡ 1 ∷ 0 ∷ [])
removals_age_the_young = (refl, refl)

ages_go_by_admissions : let m = state 40 (puts 0 4 ++ Remove 0 ∷ Remove 1 ∷ Get 3 ∷ Put 4 4 ∷ []) in
    (small_of m ≡ ((4, 1), Young 0) ∷ ((3, 3), Young 1) ∷ ((2, 2), Old false) ∷ []) × (m.free ≡ 0 ∷ [])
ages_go_by_admissions = (refl, refl)

a_young_entry_removed : let m = state 40 (puts 0 40) in
    let first : List (Call ℕ ℕ) = Remove 3 ∷ Put 40 40 ∷ Remove 40 ∷ Put 41 41 ∷ Put 42 42 ∷ [] in
    (small_of (after_all eqb first m) ≡ ((42, 0), Young 0) ∷ ((41, 3), Young 1) ∷ ((2, 2), Old false) ∷ ((1, 1), Old false) ∷ [])
    × (answers eqb (first ++ Get 41 ∷ Put 43 43 ∷ Put 44 44 ∷ Put 45 45 ∷ Contains 41 ∷ GetAt 3 45 ∷ []) m
    ≡ Flag true ∷ Value None ∷ Flag true ∷ Value None ∷ Value None ∷ Value (Some 41) ∷ Value None ∷ Value None ∷ Value None ∷ Flag false ∷ Value (Some 45) ∷ [])
a_young_entry_removed = (refl, refl)

-- the history before each of three calls, and the replies of the run
history_reused : let m = state 4 (puts 1 6) in
    let later = after_all eqb (Remove 1 ∷ Put 7 7 ∷ Put 8 8 ∷ []) m in
    let end = after_all eqb (SlotFor 6 0 ∷ SlotFor 5 0 ∷ []) later in
    (m.history ∷ later.history ∷ end.history ∷ [] ≡ (5 ∷ 1 ∷ []) ∷ (7 ∷ 6 ∷ []) ∷ (8 ∷ 7 ∷ []) ∷ [])
    × (answers eqb (Remove 1 ∷ Put 7 7 ∷ Put 8 8 ∷ SlotFor 6 0 ∷ SlotFor 5 0 ∷ Contains 2 ∷ Len ∷ []) m ≡ Flag false ∷ Value None ∷ Value None ∷ Slot 1 2 ∷ Slot 0 8 ∷ Flag false ∷ Number 4 ∷ [])
history_reused = (refl, refl)

-- the hand leaves the bits behind the victim, and clears those that it passes
two_hits_passed : let m = state 4 (puts 1 4 ++ Get 4 ∷ Get 3 ∷ Put 5 5 ∷ Put 1 1 ∷ []) in
    let end = after_all eqb (Put 6 6 ∷ Put 5 5 ∷ []) m in
    (main_of m ≡ ((3, 2), true) ∷ ((4, 3), true) ∷ ((1, 1), false) ∷ [])
    × (small_of end ≡ ((6, 0), Young 0) ∷ [])
    × (main_of end ≡ ((3, 2), false) ∷ ((4, 3), false) ∷ ((5, 1), false) ∷ [])
    × (end.history ≡ [])
two_hits_passed = (refl, refl, refl, refl)

-- A run at capacity 20, state by state.

after_twenty_puts : (small_of twenty ≡ ((2, 1), Young 0) ∷ ((1, 0), Old false) ∷ []) × (main_of twenty ≡ in_order 2 18) × (twenty.history ≡ [])
after_twenty_puts = (refl, refl, refl)

after_a_hit : let m = after_all eqb (Get 1 ∷ []) twenty in
    (small_of m ≡ ((2, 1), Young 0) ∷ ((1, 0), Old true) ∷ []) × (main_of m ≡ in_order 2 18) × (m.history ≡ [])
after_a_hit = (refl, refl, refl)

after_a_promotion : let m = after_all eqb (Get 1 ∷ Put 21 21 ∷ []) twenty in
    (small_of m ≡ ((21, 2), Young 0) ∷ ((2, 1), Old false) ∷ []) × (main_of m ≡ in_order 3 17 ++ ((1, 0), false) ∷ []) × (m.history ≡ [])
after_a_promotion = (refl, refl, refl)

after_a_main_victim_returns : let m = after_all eqb (Get 1 ∷ Put 21 21 ∷ Put 3 3 ∷ []) twenty in
    (small_of m ≡ ((3, 1), Young 0) ∷ ((21, 2), Old false) ∷ []) × (main_of m ≡ in_order 3 17 ++ ((1, 0), false) ∷ []) × (m.history ≡ 2 ∷ [])
after_a_main_victim_returns = (refl, refl, refl)

after_a_key_with_history : let m = after_all eqb (Get 1 ∷ Put 21 21 ∷ Put 3 3 ∷ Put 2 2 ∷ []) twenty in
    (small_of m ≡ ((3, 1), Young 0) ∷ ((21, 2), Old false) ∷ []) × (main_of m ≡ in_order 4 16 ++ ((1, 0), false) ∷ ((2, 3), false) ∷ []) × (m.history ≡ [])
after_a_key_with_history = (refl, refl, refl)
