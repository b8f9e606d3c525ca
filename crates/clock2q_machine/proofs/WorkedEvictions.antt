-- Evictions though no key comes, in runs worked out by hand: who leaves, where the others are, and which slot is free.
use Rattle.std.proofs.Common.{◌≡◌, ℕ, false, eqb, [], ◌∷◌, ◌++◌, map, refl}
use Rattle.std.specs.Prelude.{Some, None}
use Rattle.std.specs.List.{range_with_len}
use Rattle.clock2q_machine.specs.Machine.{Machine}
use Rattle.clock2q_machine.specs.Calls.{Put, Get, Evict, Len, Contains, GetAt, Value, Number, Flag}
use Rattle.clock2q_machine.specs.Steps.{answers, after, after_all}
use Rattle.clock2q_machine.specs.Bounds.{inspections_of, set_bits}
use Rattle.clock2q_machine.specs.Leaving.{next_victim, victim_of, leaver}
use Rattle.clock2q_machine.proofs.WorkedRuns.{puts, state, chosen, replies}
use Rattle.clock2q_machine.proofs.WorkedStates.{keys}

-- the machine after an eviction
abbrev once : Machine ℕ ℕ → Machine ℕ ℕ
once m = after eqb Evict m

-- Small's tail leaves, and is remembered
tail_leaves : let m = state 20 (puts 1 20) in
    (victim_of eqb Evict m ≡ Some (1, (0, 1))) × ((keys (once m) ≡ (2 ∷ []) ∷ range_with_len 3 18 ∷ (1 ∷ []) ∷ []) × ((once m).free ≡ 0 ∷ []))
tail_leaves = (refl, (refl, refl))

-- it is the resident that a new key would make leave
the_next_leaves : let m = state 20 (puts 1 20 ++ Get 1 ∷ []) in (leaver eqb Evict m ≡ Some (3, 2)) × (next_victim m ≡ Some (3, 2))
the_next_leaves = (refl, refl)

-- a tail that was hit moves on to Main, and Main's victim leaves without history
victim_leaves_for_the_tail : let m = state 20 (puts 1 20 ++ Get 1 ∷ []) in
    (keys (once m) ≡ (2 ∷ []) ∷ (range_with_len 4 17 ++ 1 ∷ []) ∷ [] ∷ []) × (((once m).free ≡ 2 ∷ []) × (answers eqb (GetAt 0 1 ∷ []) (once m) ≡ Value (Some 1) ∷ []))
victim_leaves_for_the_tail = (refl, (refl, refl))

-- also a young tail leaves
the_only_key_leaves : let m = state 20 (Put 1 10 ∷ []) in
    (answers eqb (Evict ∷ Len ∷ Evict ∷ []) m ≡ Value (Some 10) ∷ Number 0 ∷ Value None ∷ []) × (keys (once m) ≡ [] ∷ [] ∷ (1 ∷ []) ∷ [])
the_only_key_leaves = (refl, refl)

-- a hit doesn't save it while Main is empty
no_chance_without_main : let m = state 20 (puts 1 2 ++ Get 1 ∷ []) in (leaver eqb Evict m ≡ Some (1, 0)) × (keys (once m) ≡ (2 ∷ []) ∷ [] ∷ (1 ∷ []) ∷ [])
no_chance_without_main = (refl, refl)

-- if Small is empty, Main's victim leaves, and a hit saves a key of Main
main_alone : let m = after_all eqb (puts 1 3 ++ Get 1 ∷ []) (chosen 3 0 0) in
    (leaver eqb Evict m ≡ Some (2, 1)) × ((keys (once m) ≡ [] ∷ (3 ∷ 1 ∷ []) ∷ [] ∷ []) × ((inspections_of eqb Evict m ≡ 2) × (set_bits (once m) ≡ 0)))
main_alone = (refl, (refl, (refl, refl)))

-- evictions empty a cache, Small first
all_leave : replies 4 (puts 1 4 ++ Evict ∷ Evict ∷ Evict ∷ Evict ∷ Evict ∷ Len ∷ [])
    ≡ map (λ k. Value None) (range_with_len 0 4) ++ Value (Some 1) ∷ Value (Some 2) ∷ Value (Some 3) ∷ Value (Some 4) ∷ Value None ∷ Number 0 ∷ []
all_leave = refl

-- the slot that was freed last is taken first
slots_come_back : let m = state 4 (puts 1 4 ++ Evict ∷ Evict ∷ []) in
    (m.free ≡ 1 ∷ 0 ∷ []) × (answers eqb (Put 5 5 ∷ GetAt 1 5 ∷ Contains 1 ∷ []) m ≡ Value None ∷ Value (Some 5) ∷ Flag false ∷ [])
slots_come_back = (refl, refl)

-- a key that Small lost comes back into Main
remembered : keys (state 4 (puts 1 3 ++ Evict ∷ Put 1 1 ∷ [])) ≡ [] ∷ (2 ∷ 3 ∷ 1 ∷ []) ∷ [] ∷ []
remembered = refl

-- of a longer history than there is room for, the oldest key is forgotten
the_oldest_is_forgotten : keys (state 2 (Put 1 1 ∷ Evict ∷ Put 2 2 ∷ Evict ∷ Put 3 3 ∷ [])) ≡ (3 ∷ []) ∷ [] ∷ (2 ∷ []) ∷ []
the_oldest_is_forgotten = refl
