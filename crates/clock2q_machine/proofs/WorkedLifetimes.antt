-- How long keys stay, in runs worked out by hand.
use Rattle.std.proofs.Common.{◌≡◌, true, false, eqb, [], ◌∷◌, ◌++◌, Some, None, refl}
use Rattle.clock2q_machine.specs.Calls.{Put, Get}
use Rattle.clock2q_machine.specs.Machine.{slot_of}
use Rattle.clock2q_machine.specs.Steps.{after, after_all}
use Rattle.clock2q_machine.specs.Bounds.{inspections_of, summed}
use Rattle.clock2q_machine.specs.Lifetimes.{older, newer, ahead, is_in_main, is_in_small, is_remembered, admissions_of, evictions_of}
use Rattle.clock2q_machine.proofs.WorkedRuns.{puts, gets, state}

-- Small has four keys at capacity 40: the newest stays for three more admissions, and leaves with the fourth
four_in_small : let m = state 40 (puts 0 41) in
    (older (eqb 40) m.small ≡ 3)
    × ((summed eqb (admissions_of eqb) (puts 41 3) m ≡ 3)
    × ((is_in_small (eqb 40) (after_all eqb (puts 41 3) m) ≡ true) × (is_in_small (eqb 40) (after_all eqb (puts 41 4) m) ≡ false)))
four_in_small = (refl, (refl, (refl, refl)))

-- key 5 is the third of Main's keys: it stays for two inspections, and leaves with the third
two_are_ahead : let m = state 20 (puts 1 20) in
    let more = puts 21 12 ++ puts 21 2 in (ahead (eqb 5) m.main ≡ 2)
    × ((summed eqb (inspections_of eqb) more m ≡ 2) × ((is_in_main (eqb 5) (after_all eqb more m) ≡ true) × (is_in_main (eqb 5) (after_all eqb (more ++ puts 23 1) m) ≡ false)))
two_are_ahead = (refl, (refl, (refl, refl)))

-- a hit lets the hand pass it: the bound counts the inspections, and key 5 stays for the third as well
a_hit_key_is_passed : let m = state 20 (puts 1 20 ++ Get 5 ∷ []) in is_in_main (eqb 5) (after_all eqb (puts 21 12 ++ puts 21 3) m) ≡ true
a_hit_key_is_passed = refl

-- a capacity of 4 remembers two keys: the first that Small evicted is forgotten with the third
two_remembered : let m = state 4 (puts 1 5) in
    (is_remembered (eqb 1) m ≡ true)
    × ((summed eqb (evictions_of eqb) (puts 6 1) m ≡ 1)
    × ((newer (eqb 1) (after_all eqb (puts 6 1) m).history ≡ 1) × (is_remembered (eqb 1) (after_all eqb (puts 6 2) m) ≡ false)))
two_remembered = (refl, (refl, (refl, refl)))

-- a tail that is promoted to Main isn't evicted, so nothing is forgotten for it
a_tail_that_goes_on : let m = state 20 (puts 1 20 ++ Get 1 ∷ []) in
    (summed eqb (admissions_of eqb) (puts 21 1) m ≡ 1) × (summed eqb (evictions_of eqb) (puts 21 1) m ≡ 0)
a_tail_that_goes_on = (refl, refl)

-- the hand passes key 2 of Main, which was hit, and stops at key 3
a_second_chance : let m = after eqb (Put 1 1) (state 4 (puts 1 5 ++ Get 2 ∷ [])) in (slot_of (eqb 2) m ≡ Some 1) × (slot_of (eqb 3) m ≡ None)
a_second_chance = (refl, refl)

-- if all of Main were hit, it passes each of them, and stops at key 2
no_chance_for_the_first_of_all : let m = after eqb (Put 1 1) (state 4 (puts 1 5 ++ gets 2 3)) in (slot_of (eqb 2) m ≡ None) × (slot_of (eqb 3) m ≡ Some 2)
no_chance_for_the_first_of_all = (refl, refl)
