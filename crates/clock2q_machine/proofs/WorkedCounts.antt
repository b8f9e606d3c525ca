-- How often the hand inspects an entry in runs worked out by hand, how many victims Main has, and how many bits hits set.
use Rattle.std.proofs.Common.{◌≡◌, ℕ, false, eqb, List, [], ◌∷◌, ◌++◌, refl}
use Rattle.std.specs.Prelude.{Some, None}
use Rattle.clock2q_machine.specs.Machine.{Machine}
use Rattle.clock2q_machine.specs.Calls.{Call, Put, Get, Contains, GetAt, Remove, SlotFor, Try, Value, Flag}
use Rattle.clock2q_machine.specs.Steps.{answers, after_all}
use Rattle.clock2q_machine.specs.Bounds.{set_bits, inspections_of, main_victims, settings, summed}
use Rattle.clock2q_machine.proofs.WorkedRuns.{puts, gets, state, chosen}

-- inspections, victims and settings over a run
abbrev counts : List (Call ℕ ℕ) → Machine ℕ ℕ → List ℕ
counts calls m = summed eqb (inspections_of eqb) calls m ∷ summed eqb (main_victims eqb) calls m ∷ summed eqb (settings eqb) calls m ∷ []

one_setting_pays_one_look : counts (Put 1 10 ∷ Get 1 ∷ Put 2 20 ∷ []) (state 1 []) ≡ 2 ∷ 1 ∷ 1 ∷ []
one_setting_pays_one_look = refl

a_second_hit_sets_nothing : counts (Put 1 10 ∷ Get 1 ∷ Get 1 ∷ Put 1 11 ∷ []) (state 1 []) ≡ 0 ∷ 0 ∷ 1 ∷ []
a_second_hit_sets_nothing = refl

all_bits_set : let m = state 20 (puts 1 20 ++ gets 3 18) in
    (set_bits m ≡ 18) × (answers eqb (Get 1 ∷ Put 21 21 ∷ Contains 3 ∷ GetAt 2 21 ∷ []) m ≡ Value (Some 1) ∷ Value None ∷ Flag false ∷ Value (Some 21) ∷ [])
all_bits_set = (refl, refl)

a_whole_round : let m = state 20 (puts 1 20 ++ gets 3 18 ++ Get 1 ∷ []) in
    (counts (puts 1 20 ++ gets 3 18 ++ Get 1 ∷ Put 21 21 ∷ []) (state 20 []) ≡ 19 ∷ 1 ∷ 18 ∷ [])
    × (counts (Put 21 21 ∷ []) m ≡ 19 ∷ 1 ∷ 0 ∷ [])
    × (set_bits (after_all eqb (Put 21 21 ∷ []) m) ≡ 0)
a_whole_round = (refl, refl, refl)

two_victims_behind_two_hits : counts (puts 1 4 ++ Get 4 ∷ Get 3 ∷ Put 5 5 ∷ Put 1 1 ∷ Put 6 6 ∷ Put 5 5 ∷ []) (state 4 []) ≡ 4 ∷ 2 ∷ 2 ∷ []
two_victims_behind_two_hits = refl

no_share_for_small : counts (puts 1 3 ++ Get 1 ∷ Put 4 4 ∷ Put 2 2 ∷ []) (chosen 3 0 0) ≡ 3 ∷ 2 ∷ 1 ∷ []
no_share_for_small = refl

a_promotion_and_a_return : counts (puts 1 20 ++ Get 1 ∷ Put 21 21 ∷ Put 3 3 ∷ Put 2 2 ∷ []) (state 20 []) ≡ 2 ∷ 2 ∷ 0 ∷ []
a_promotion_and_a_return = refl

no_look_for_a_tail_that_goes_out : counts (puts 0 31) (state 20 []) ≡ 0 ∷ 0 ∷ 0 ∷ []
no_look_for_a_tail_that_goes_out = refl

a_look_for_a_full_main_beside_a_vacancy : counts (Put 1 10 ∷ Put 2 20 ∷ Put 3 30 ∷ Remove 3 ∷ SlotFor 1 11 ∷ []) (state 2 []) ≡ 1 ∷ 1 ∷ 0 ∷ []
a_look_for_a_full_main_beside_a_vacancy = refl

no_look_where_a_fetch_fails : counts (Put 1 10 ∷ Put 2 20 ∷ Put 3 30 ∷ Try 1 None ∷ []) (state 2 []) ≡ 0 ∷ 0 ∷ 0 ∷ []
no_look_where_a_fetch_fails = refl

a_hit_at_a_slot_sets_a_bit : counts (Put 1 10 ∷ GetAt 1 1 ∷ GetAt 0 1 ∷ []) (state 1 []) ≡ 0 ∷ 0 ∷ 1 ∷ []
a_hit_at_a_slot_sets_a_bit = refl
