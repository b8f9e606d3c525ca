-- The queues' definitions on lists worked out by hand: the hand's choice with its inspections, and the ages of Small.
use Rattle.clock2q_queues.proofs.Names.{◌≡◌, ℕ, Bool, true, false, List, [], ◌∷◌, ◌++◌, map, refl, range_with_len, Age, Young, Old, inspections, from_victim, main_hit_at, admitted, small_hit_at}
use Rattle.clock2q_queues.proofs.Names.{next_cursor, without_slot}

-- `n` slots, numbered from `from` on, each with this bit
abbrev slots_with : Bool → ℕ → ℕ → List (ℕ × Bool)
slots_with bit from n = map (λ slot. (slot, bit)) (range_with_len from n)

-- one slot with a set bit: the hand passes it and comes back to it
one_slot : let main : List (ℕ × Bool) = (0, true) ∷ [] in
    (inspections main ≡ 2) × (from_victim main ≡ (0, false) ∷ [])
one_slot = (refl, refl)

-- 18 slots with set bits: the hand goes all the way round, and the first one is the victim
eighteen_slots : let main = slots_with true 2 18 in
    (inspections main ≡ 19) × (from_victim main ≡ slots_with false 2 18) × (without_slot 2 (from_victim main) ≡ slots_with false 3 17)
eighteen_slots = (refl, refl, refl)

-- then two hits, on the next slot and on the last: the hand passes one bit, and the one behind the victim stays
after_two_hits : let main = main_hit_at 19 (main_hit_at 3 (slots_with false 3 17)) in
    (inspections main ≡ 2) × (from_victim main ≡ slots_with false 4 15 ++ (19, true) ∷ (3, false) ∷ [])
after_two_hits = (refl, refl)

-- no bit is set: one inspection
none_set : (inspections (slots_with false 5 3) ≡ 1) × (from_victim (slots_with false 5 3) ≡ slots_with false 5 3)
none_set = (refl, refl)

-- the first four admissions, with a window of two
abbrev four_admitted : List (ℕ × Age)
four_admitted = admitted 2 3 (admitted 2 2 (admitted 2 1 (admitted 2 0 [])))

-- a removal and one more admission: slot 2 is old by then, so a hit on it counts
removals_age_the_young : let small = admitted 2 3 (without_slot 3 four_admitted) in
    (four_admitted ≡ (3, Young 0) ∷ (2, Young 1) ∷ (1, Old false) ∷ (0, Old false) ∷ [])
    × (small ≡ (3, Young 0) ∷ (2, Old false) ∷ (1, Old false) ∷ (0, Old false) ∷ [])
    × (small_hit_at 2 small ≡ (3, Young 0) ∷ (2, Old true) ∷ (1, Old false) ∷ (0, Old false) ∷ [])
removals_age_the_young = (refl, refl, refl)

-- slot 3 leaves and is admitted again twice, then slot 0 once: slot 3 is still young, so a hit on it doesn't count
emptied_positions : let twice = admitted 2 3 (without_slot 3 (admitted 2 3 (without_slot 3 four_admitted))) in
    let small = admitted 2 0 (without_slot 0 twice) in
    (small ≡ (0, Young 0) ∷ (3, Young 1) ∷ (2, Old false) ∷ (1, Old false) ∷ [])
    × (small_hit_at 3 small ≡ small)
emptied_positions = (refl, refl)

-- the cursor goes round both positions, one for each of the seven admissions
seven_admissions : next_cursor 2 (next_cursor 2 (next_cursor 2 (next_cursor 2 (next_cursor 2 (next_cursor 2 (next_cursor 2 0)))))) ≡ 1
seven_admissions = refl
