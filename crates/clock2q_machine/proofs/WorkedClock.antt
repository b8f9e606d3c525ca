-- CLOCK on traces worked out by hand: the ring from the hand, the keys that hit and leave, and the frames.
use Rattle.std.proofs.Common.{◌≡◌, false, [], ◌∷◌, refl}
use Rattle.std.specs.Prelude.{None, Some}
use Rattle.clock2q_machine.specs.SecondChance.{clock_hits, clock_victim, clock_ring, clock_frames}

-- key 1 was hit, so the hand goes on to key 2, which is evicted for key 4
second_chance : (clock_ring 3 (1 ∷ 2 ∷ 3 ∷ 1 ∷ 4 ∷ []) ≡ (3, false) ∷ (1, false) ∷ (4, false) ∷ []) × (clock_hits 3 (1 ∷ 2 ∷ 3 ∷ 1 ∷ 4 ∷ 1 ∷ 2 ∷ []) ≡ 2)
second_chance = (refl, refl)

-- if all were hit, the hand goes round once, and the first is evicted
once_round : clock_ring 2 (1 ∷ 2 ∷ 1 ∷ 2 ∷ 3 ∷ []) ≡ (2, false) ∷ (3, false) ∷ []
once_round = refl

-- a loop one key longer than the ring never hits
a_loop : clock_hits 2 (1 ∷ 2 ∷ 3 ∷ 1 ∷ 2 ∷ 3 ∷ 1 ∷ 2 ∷ 3 ∷ []) ≡ 0
a_loop = refl

-- key 4 gets the frame of key 2, and key 5 then that of key 3; while there is room, and for a key that is there, none
-- leaves
frame_of_the_victim : (clock_victim 3 4 (clock_ring 3 (1 ∷ 2 ∷ 3 ∷ 1 ∷ [])) ≡ Some 2) × (clock_frames 3 (1 ∷ 2 ∷ 3 ∷ 1 ∷ 4 ∷ []) ≡ 2 ∷ 0 ∷ 1 ∷ [])
frame_of_the_victim = (refl, refl)

a_round_of_frames : clock_frames 3 (1 ∷ 2 ∷ 3 ∷ 1 ∷ 4 ∷ 5 ∷ []) ≡ 0 ∷ 1 ∷ 2 ∷ []
a_round_of_frames = refl

none_leaves : (clock_victim 3 3 (clock_ring 3 (1 ∷ 2 ∷ [])) ≡ None) × (clock_victim 3 1 (clock_ring 3 (1 ∷ 2 ∷ 3 ∷ [])) ≡ None)
none_leaves = (refl, refl)
