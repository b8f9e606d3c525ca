-- Slots in runs worked out by hand: hints, removals and reuse, slots that are made before they are taken, and equal
-- keys that differ.
use Rattle.std.proofs.Common.{◌≡◌, ℕ, Bool, true, false, eqb, List, [], ◌∷◌, ◌++◌, map, refl}
use Rattle.std.specs.Prelude.{Some, None}
use Rattle.clock2q_machine.specs.Shares.{usual_shares}
use Rattle.clock2q_machine.specs.Machine.{Machine, empty, by_slot}
use Rattle.clock2q_machine.specs.Calls.{Call, Put, Contains, GetAt, Set, SlotFor, Remove, Retain, Clear, Prefill, Get, Len, Value, Slot, Flag, Number, Done}
use Rattle.clock2q_machine.specs.Steps.{answers, after_all}
use Rattle.clock2q_machine.proofs.WorkedRuns.{replies, puts, state}

prefilled_slots : replies 6 (SlotFor 0 10 ∷ SlotFor 1 11 ∷ SlotFor 2 12 ∷ Remove 1 ∷ Remove 2 ∷ Prefill (13 ∷ 14 ∷ 15 ∷ []) ∷ SlotFor 3 0 ∷ SlotFor 4 0 ∷ SlotFor 5 0 ∷ SlotFor 2 0 ∷ SlotFor 1 0 ∷ [])
    ≡ Slot 0 10 ∷ Slot 1 11 ∷ Slot 2 12 ∷ Flag true ∷ Flag true ∷ Done ∷ Slot 3 13 ∷ Slot 4 14 ∷ Slot 5 15 ∷ Slot 2 12 ∷ Slot 1 11 ∷ []
prefilled_slots = refl

retained_in_order : replies 4 (Put 0 0 ∷ Put 1 10 ∷ Put 2 20 ∷ Put 3 30 ∷ Retain (true ∷ false ∷ true ∷ false ∷ []) ∷ SlotFor 10 5 ∷ SlotFor 12 5 ∷ Len ∷ [])
    ≡ Value None ∷ Value None ∷ Value None ∷ Value None ∷ Done ∷ Slot 3 30 ∷ Slot 1 10 ∷ Number 4 ∷ []
retained_in_order = refl

removed_one_by_one : replies 3 (Put 1 1 ∷ Put 2 2 ∷ Put 3 3 ∷ Retain (false ∷ []) ∷ Len ∷ Retain (false ∷ false ∷ []) ∷ Len ∷ SlotFor 9 0 ∷ [])
    ≡ Value None ∷ Value None ∷ Value None ∷ Done ∷ Number 2 ∷ Done ∷ Number 0 ∷ Slot 2 3 ∷ []
removed_one_by_one = refl

comparisons_go_by_slot : answers eqb (Get 1 ∷ Put 21 21 ∷ Retain (false ∷ true ∷ false ∷ []) ∷ Contains 1 ∷ Contains 2 ∷ Contains 21 ∷ Len ∷ []) (state 20 (puts 1 20))
    ≡ Value (Some 1) ∷ Value None ∷ Done ∷ Flag false ∷ Flag true ∷ Flag false ∷ Number 18 ∷ []
comparisons_go_by_slot = refl

the_last_value_repeats : replies 3 (Prefill (7 ∷ []) ∷ SlotFor 1 9 ∷ SlotFor 2 9 ∷ SlotFor 3 9 ∷ Len ∷ []) ≡ Done ∷ Slot 0 7 ∷ Slot 1 7 ∷ Slot 2 7 ∷ Number 3 ∷ []
the_last_value_repeats = refl

clear_unmakes_slots : replies 3 (Prefill (7 ∷ []) ∷ Clear ∷ SlotFor 1 9 ∷ []) ≡ Done ∷ Done ∷ Slot 0 9 ∷ []
clear_unmakes_slots = refl

clear_forgets_all : answers eqb (Clear ∷ Put 1 1 ∷ SlotFor 9 9 ∷ SlotFor 8 8 ∷ Len ∷ []) (state 20 (puts 1 22)) ≡ Done ∷ Value None ∷ Slot 1 9 ∷ Slot 2 8 ∷ Number 3 ∷ []
clear_forgets_all = refl

a_cleared_cache_is_a_new_one : state 20 (puts 1 22 ++ Clear ∷ []) ≡ empty (usual_shares 20)
a_cleared_cache_is_a_new_one = refl

stale_hints : replies 2 (SlotFor 1 10 ∷ Remove 1 ∷ GetAt 0 1 ∷ SlotFor 2 20 ∷ Set 2 20 ∷ GetAt 0 1 ∷ GetAt 0 2 ∷ GetAt 18446744073709551615 2 ∷ [])
    ≡ Slot 0 10 ∷ Flag true ∷ Value None ∷ Slot 0 10 ∷ Value (Some 10) ∷ Value None ∷ Value (Some 20) ∷ Value None ∷ []
stale_hints = refl

hints_of_other_slots : replies 4 (SlotFor 7 70 ∷ GetAt 4 7 ∷ GetAt 3 7 ∷ GetAt 0 7 ∷ Remove 7 ∷ GetAt 0 7 ∷ [])
    ≡ Slot 0 70 ∷ Value None ∷ Value None ∷ Value (Some 70) ∷ Flag true ∷ Value None ∷ []
hints_of_other_slots = refl

a_prefilled_slot_is_no_resident : replies 2 (Prefill (5 ∷ 6 ∷ []) ∷ GetAt 0 0 ∷ Contains 0 ∷ SlotFor 0 9 ∷ []) ≡ Done ∷ Value None ∷ Flag false ∷ Slot 0 5 ∷ []
a_prefilled_slot_is_no_resident = refl

a_younger_entry_removed : answers eqb (Get 0 ∷ Remove 1 ∷ Put 20 20 ∷ Put 21 21 ∷ GetAt 0 0 ∷ GetAt 2 21 ∷ Contains 2 ∷ []) (state 20 (puts 0 20))
    ≡ Value (Some 0) ∷ Flag true ∷ Value None ∷ Value None ∷ Value (Some 0) ∷ Value (Some 21) ∷ Flag false ∷ []
a_younger_entry_removed = refl

-- Keys of a number and a tag, which are equal if their numbers are.

abbrev Tagged : Type 0
Tagged = ℕ × ℕ

abbrev same_number : Tagged → Tagged → Bool
same_number a b = eqb a.0 b.0

abbrev tagged : List (Call Tagged ℕ) → Machine Tagged ℕ
tagged calls = after_all same_number calls (empty (usual_shares 2))

-- the keys that `retain` asks about
abbrev asked : List (Call Tagged ℕ) → List Tagged
asked calls = map (λ r. r.0) (by_slot (tagged calls))

a_resident_key_stays : (answers same_number (Put (1, 0) 10 ∷ Put (1, 1) 11 ∷ []) (tagged []) ≡ Value None ∷ Value (Some 10) ∷ []) × (asked (Put (1, 0) 10 ∷ Put (1, 1) 11 ∷ []) ≡ (1, 0) ∷ [])
a_resident_key_stays = (refl, refl)

a_removed_key_goes : asked (Put (1, 0) 10 ∷ Put (1, 1) 11 ∷ Remove (1, 2) ∷ Put (1, 3) 12 ∷ []) ≡ (1, 3) ∷ []
a_removed_key_goes = refl

a_remembered_key_goes : asked (Put (1, 0) 1 ∷ Put (2, 0) 2 ∷ Put (3, 0) 3 ∷ Put (1, 1) 4 ∷ []) ≡ (3, 0) ∷ (1, 1) ∷ []
a_remembered_key_goes = refl
