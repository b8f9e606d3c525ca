-- The machine on runs worked out by hand: the replies of runs in which keys are hit, evicted, remembered and erased.
use Rattle.std.proofs.Common.{◌≡◌, ℕ, true, false, eqb, List, [], ◌∷◌, ◌++◌, map, refl}
use Rattle.std.specs.Prelude.{Some, None}
use Rattle.std.specs.List.{range_with_len}
use Rattle.clock2q_machine.specs.Shares.{usual_shares}
use Rattle.clock2q_machine.specs.Policies.{shares_of, shares_with}
use Rattle.clock2q_machine.specs.Machine.{Machine, empty}
use Rattle.clock2q_machine.specs.Calls.{Call, Answer, Put, Get, Peek, Contains, GetAt, Set, With, Try, SlotFor, Remove, Retain, Len, IsEmpty, Capacity, Value, Stored, Tried, Slot, Flag, Number, Done}
use Rattle.clock2q_machine.specs.Steps.{answers, after_all}

-- a run on a new cache with the usual shares
abbrev pub replies : ℕ → List (Call ℕ ℕ) → List (Answer ℕ)
replies capacity calls = answers eqb calls (empty (usual_shares capacity))

-- each number put as the value of itself
abbrev pub puts : ℕ → ℕ → List (Call ℕ ℕ)
puts from n = map (λ k. Put k k) (range_with_len from n)

-- a hit on each
abbrev pub gets : ℕ → ℕ → List (Call ℕ ℕ)
gets from n = map (λ k. Get k) (range_with_len from n)

-- a new cache after these calls
abbrev pub state : ℕ → List (Call ℕ ℕ) → Machine ℕ ℕ
state capacity calls = after_all eqb calls (empty (usual_shares capacity))

-- a run on a cache that is full of the numbers from one on
abbrev pub replies_when_full : ℕ → List (Call ℕ ℕ) → List (Answer ℕ)
replies_when_full capacity calls = answers eqb calls (state capacity (puts 1 capacity))

-- a new cache with chosen shares
abbrev pub chosen : ℕ → ℕ → ℕ → Machine ℕ ℕ
chosen capacity small window = empty (shares_of capacity small window)

-- a cache with chosen shares and a chosen history, after these calls
abbrev pub remembering : ℕ → ℕ → ℕ → ℕ → List (Call ℕ ℕ) → Machine ℕ ℕ
remembering capacity small window history calls = after_all eqb calls (empty (shares_with capacity small window history))

one_value : replies 2 (Put 1 10 ∷ Put 1 11 ∷ Get 1 ∷ Len ∷ []) ≡ Value None ∷ Value (Some 10) ∷ Value (Some 11) ∷ Number 1 ∷ []
one_value = refl

one_slot : replies 1 (Put 1 10 ∷ Get 1 ∷ Put 2 20 ∷ Contains 1 ∷ Get 2 ∷ Len ∷ [])
    ≡ Value None ∷ Value (Some 10) ∷ Value None ∷ Flag false ∷ Value (Some 20) ∷ Number 1 ∷ []
one_slot = refl

history_enters_main : replies 2 (Put 1 10 ∷ Put 2 20 ∷ Put 3 30 ∷ Put 1 11 ∷ GetAt 0 3 ∷ GetAt 1 1 ∷ Contains 2 ∷ Len ∷ [])
    ≡ Value None ∷ Value None ∷ Value None ∷ Value None ∷ Value (Some 30) ∷ Value (Some 11) ∷ Flag false ∷ Number 2 ∷ []
history_enters_main = refl

history_takes_no_vacancy : replies 2 (Put 1 10 ∷ Put 2 20 ∷ Put 3 30 ∷ Remove 3 ∷ Put 1 11 ∷ Len ∷ GetAt 1 1 ∷ [])
    ≡ Value None ∷ Value None ∷ Value None ∷ Flag true ∷ Value None ∷ Number 1 ∷ Value (Some 11) ∷ []
history_takes_no_vacancy = refl

removal_erases_history : replies 2 (Put 1 10 ∷ Put 2 20 ∷ Put 3 30 ∷ Remove 1 ∷ Put 1 11 ∷ GetAt 0 1 ∷ Contains 2 ∷ Contains 3 ∷ [])
    ≡ Value None ∷ Value None ∷ Value None ∷ Flag false ∷ Value None ∷ Value (Some 11) ∷ Flag true ∷ Flag false ∷ []
removal_erases_history = refl

failure_keeps_history : replies 2 (Put 1 10 ∷ Put 2 20 ∷ Put 3 30 ∷ Try 1 None ∷ Put 1 11 ∷ GetAt 1 1 ∷ Contains 2 ∷ [])
    ≡ Value None ∷ Value None ∷ Value None ∷ Tried None ∷ Value None ∷ Value (Some 11) ∷ Flag false ∷ []
failure_keeps_history = refl

no_key_before_the_first : replies 2 (Set 1 5 ∷ Len ∷ Contains 1 ∷ []) ≡ Value None ∷ Number 0 ∷ Flag false ∷ []
no_key_before_the_first = refl

no_key_after_the_last : replies 3 (IsEmpty ∷ Capacity ∷ Put 1 1 ∷ IsEmpty ∷ Remove 1 ∷ IsEmpty ∷ Len ∷ Capacity ∷ [])
    ≡ Flag true ∷ Number 3 ∷ Value None ∷ Flag false ∷ Flag true ∷ Flag true ∷ Number 0 ∷ Number 3 ∷ []
no_key_after_the_last = refl

one_slot_peeked : replies 1 (Put 1 10 ∷ Get 1 ∷ Put 2 20 ∷ Peek 1 ∷ Get 2 ∷ Len ∷ [])
    ≡ Value None ∷ Value (Some 10) ∷ Value None ∷ Value None ∷ Value (Some 20) ∷ Number 1 ∷ []
one_slot_peeked = refl

-- A hit on Small's old tail saves it, and Main's victim is evicted instead.

promotion_keeps_the_slot : replies_when_full 20 (Get 1 ∷ Put 21 21 ∷ GetAt 2 21 ∷ GetAt 0 1 ∷ Contains 3 ∷ [])
    ≡ Value (Some 1) ∷ Value None ∷ Value (Some 21) ∷ Value (Some 1) ∷ Flag false ∷ []
promotion_keeps_the_slot = refl

promoted_key_is_resident : replies_when_full 20 (Get 1 ∷ Put 21 21 ∷ Peek 21 ∷ Peek 1 ∷ Peek 3 ∷ [])
    ≡ Value (Some 1) ∷ Value None ∷ Value (Some 21) ∷ Value (Some 1) ∷ Value None ∷ []
promoted_key_is_resident = refl

a_peek_is_no_hit : replies_when_full 20 (Peek 1 ∷ Put 21 21 ∷ GetAt 0 21 ∷ Contains 1 ∷ Contains 3 ∷ [])
    ≡ Value (Some 1) ∷ Value None ∷ Value (Some 21) ∷ Flag false ∷ Flag true ∷ []
a_peek_is_no_hit = refl

a_question_is_no_hit : replies_when_full 20 (Contains 1 ∷ Put 21 21 ∷ Contains 1 ∷ Contains 3 ∷ []) ≡ Flag true ∷ Value None ∷ Flag false ∷ Flag true ∷ []
a_question_is_no_hit = refl

a_failed_fetch_is_a_hit : replies_when_full 20 (Try 1 None ∷ Put 21 21 ∷ Contains 1 ∷ Contains 3 ∷ []) ≡ Tried (Some 1) ∷ Value None ∷ Flag true ∷ Flag false ∷ []
a_failed_fetch_is_a_hit = refl

a_stale_hint_is_no_hit : replies_when_full 20 (GetAt 5 1 ∷ Put 21 21 ∷ Contains 1 ∷ Contains 3 ∷ []) ≡ Value None ∷ Value None ∷ Flag false ∷ Flag true ∷ []
a_stale_hint_is_no_hit = refl

-- whether keys 1 and 3 are resident after a call on a full cache and the insertion of key 21
abbrev first_and_third : Call ℕ ℕ → List (Answer ℕ)
first_and_third call = answers eqb (Contains 1 ∷ Contains 3 ∷ []) (after_all eqb (call ∷ Put 21 21 ∷ []) (state 20 (puts 1 20)))

each_hit_counts : map first_and_third (GetAt 0 1 ∷ Set 1 5 ∷ Put 1 5 ∷ With 1 5 ∷ Try 1 (Some 5) ∷ SlotFor 1 5 ∷ [])
    ≡ map (λ _. Flag true ∷ Flag false ∷ []) (range_with_len 0 6)
each_hit_counts = refl

a_fetched_key_is_hit_again : answers eqb (Contains 1 ∷ Contains 3 ∷ []) (state 20 (map (λ k. With k k) (range_with_len 1 20) ++ With 1 1 ∷ With 21 21 ∷ [])) ≡ Flag true ∷ Flag false ∷ []
a_fetched_key_is_hit_again = refl

a_young_hit_is_lost : replies_when_full 4 (Get 1 ∷ Put 5 5 ∷ Contains 1 ∷ Contains 2 ∷ []) ≡ Value (Some 1) ∷ Value None ∷ Flag false ∷ Flag true ∷ []
a_young_hit_is_lost = refl

two_evictions_from_main : replies 4 (puts 1 4 ++ Get 4 ∷ Get 3 ∷ Put 5 5 ∷ Put 1 1 ∷ Put 6 6 ∷ Put 5 5 ∷ Peek 1 ∷ Peek 2 ∷ Peek 3 ∷ Peek 4 ∷ Len ∷ [])
    ≡ Value None ∷ Value None ∷ Value None ∷ Value None ∷ Value (Some 4) ∷ Value (Some 3) ∷ Value None
    ∷ Value None ∷ Value None ∷ Value None ∷ Value None ∷ Value None ∷ Value (Some 3) ∷ Value (Some 4) ∷ Number 4 ∷ []
two_evictions_from_main = refl

key_back_from_the_history : let m = state 2 (Put 1 10 ∷ Put 2 20 ∷ Put 3 30 ∷ Put 1 11 ∷ []) in m.history ≡ []
key_back_from_the_history = refl

evicted_key_in_the_history : let m = state 2 (Put 1 10 ∷ Put 2 20 ∷ Put 3 30 ∷ Remove 1 ∷ Put 1 11 ∷ []) in m.history ≡ 3 ∷ []
evicted_key_in_the_history = refl

misses_keep_the_history : (state 2 (Put 1 10 ∷ Put 2 20 ∷ Put 3 30 ∷ Get 1 ∷ GetAt 0 1 ∷ Set 1 5 ∷ Peek 1 ∷ Contains 1 ∷ Try 1 None ∷ [])).history ≡ 1 ∷ []
misses_keep_the_history = refl

newest_first_in_the_history : (state 20 (puts 1 24)).history ≡ 22 ∷ 21 ∷ 2 ∷ 1 ∷ []
newest_first_in_the_history = refl

retained_history : replies 2 (Put 1 1 ∷ Put 2 2 ∷ Put 3 3 ∷ Retain (false ∷ false ∷ []) ∷ Len ∷ Put 1 9 ∷ Put 4 4 ∷ Put 5 5 ∷ Contains 1 ∷ Contains 4 ∷ GetAt 1 1 ∷ [])
    ≡ Value None ∷ Value None ∷ Value None ∷ Done ∷ Number 0 ∷ Value None ∷ Value None ∷ Value None ∷ Flag true ∷ Flag false ∷ Value (Some 9) ∷ []
retained_history = refl

fetches : replies 2 (With 1 100 ∷ With 1 200 ∷ Try 2 None ∷ Contains 2 ∷ Try 2 (Some 20) ∷ Get 3 ∷ IsEmpty ∷ Capacity ∷ [])
    ≡ Stored 100 ∷ Stored 100 ∷ Tried None ∷ Flag false ∷ Tried (Some 20) ∷ Value None ∷ Flag false ∷ Number 2 ∷ []
fetches = refl

a_fetch_stores_nothing_on_a_hit : replies 2 (With 1 100 ∷ With 1 200 ∷ Peek 1 ∷ Try 1 (Some 300) ∷ Peek 1 ∷ SlotFor 1 400 ∷ Peek 1 ∷ [])
    ≡ Stored 100 ∷ Stored 100 ∷ Value (Some 100) ∷ Tried (Some 100) ∷ Value (Some 100) ∷ Slot 0 100 ∷ Value (Some 100) ∷ []
a_fetch_stores_nothing_on_a_hit = refl

a_fetch_stores_what_was_missing : replies 2 (With 1 100 ∷ Peek 1 ∷ Try 2 (Some 200) ∷ Peek 2 ∷ Set 2 300 ∷ Peek 2 ∷ [])
    ≡ Stored 100 ∷ Value (Some 100) ∷ Tried (Some 200) ∷ Value (Some 200) ∷ Value (Some 200) ∷ Value (Some 300) ∷ []
a_fetch_stores_what_was_missing = refl

-- Shares that are chosen.

old_in_the_window_of_one : answers eqb (puts 1 4 ++ Get 1 ∷ Put 5 5 ∷ Contains 1 ∷ Contains 3 ∷ GetAt 2 5 ∷ []) (chosen 4 2 1)
    ≡ Value None ∷ Value None ∷ Value None ∷ Value None ∷ Value (Some 1) ∷ Value None ∷ Flag true ∷ Flag false ∷ Value (Some 5) ∷ []
old_in_the_window_of_one = refl

young_in_the_window_of_two : answers eqb (puts 1 4 ++ Get 1 ∷ Put 5 5 ∷ Contains 1 ∷ Contains 3 ∷ GetAt 0 5 ∷ []) (chosen 4 2 2)
    ≡ Value None ∷ Value None ∷ Value None ∷ Value None ∷ Value (Some 1) ∷ Value None ∷ Flag false ∷ Flag true ∷ Value (Some 5) ∷ []
young_in_the_window_of_two = refl

no_share_for_small : answers eqb (puts 1 3 ++ Get 1 ∷ Put 4 4 ∷ Put 2 2 ∷ Contains 3 ∷ GetAt 1 4 ∷ GetAt 2 2 ∷ Len ∷ []) (chosen 3 0 0)
    ≡ Value None ∷ Value None ∷ Value None ∷ Value (Some 1) ∷ Value None ∷ Value None ∷ Flag false ∷ Value (Some 4) ∷ Value (Some 2) ∷ Number 3 ∷ []
no_share_for_small = refl
