-- Which resident leaves, in runs worked out by hand: by the definition before the call, and by the call.
use Rattle.std.proofs.Common.{◌≡◌, eqb, [], ◌∷◌, ◌++◌, refl}
use Rattle.std.specs.Prelude.{Some, None}
use Rattle.clock2q_machine.specs.Calls.{Put, Get, Remove, SlotFor}
use Rattle.clock2q_machine.specs.Leaving.{next_victim, victim_of, leaver, comer}
use Rattle.clock2q_machine.proofs.WorkedRuns.{puts, state}

-- while there is a vacancy, no resident leaves
vacant : let m = state 20 (puts 1 19) in (next_victim m ≡ None) × (victim_of eqb (Put 20 20) m ≡ None)
vacant = (refl, refl)

-- Small's tail leaves with its value
tail_leaves : let m = state 20 (puts 1 20) in (next_victim m ≡ Some (1, 0)) × ((victim_of eqb (Put 21 21) m ≡ Some (1, (0, 1))) × (comer eqb (Put 21 21) m ≡ Some (21, 0)))
tail_leaves = (refl, (refl, refl))

-- a tail that was hit is promoted, and Main's victim leaves
main_leaves : let m = state 20 (puts 1 20 ++ Get 1 ∷ []) in (next_victim m ≡ Some (3, 2)) × (victim_of eqb (SlotFor 21 0) m ≡ Some (3, (2, 3)))
main_leaves = (refl, refl)

-- a remembered key takes the slot of Main's victim; a new one would take that of Small's tail
a_key_comes_back : let m = state 20 (puts 1 21) in (next_victim m ≡ Some (2, 1)) × (victim_of eqb (Put 1 1) m ≡ Some (3, (2, 3)))
a_key_comes_back = (refl, refl)

-- even while a slot is free
and_takes_no_vacancy : victim_of eqb (Put 1 11) (state 2 (puts 1 3 ++ Remove 3 ∷ [])) ≡ Some (2, (1, 2))
and_takes_no_vacancy = refl

-- an access to a resident key evicts nothing
resident : let m = state 20 (puts 1 20) in (leaver eqb (Put 5 50) m ≡ None) × (comer eqb (Put 5 50) m ≡ None)
resident = (refl, refl)
