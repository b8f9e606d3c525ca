-- The bounds on link accesses and on slots of the index of some calls, worked out by hand.
use Rattle.clock2q_cache.proofs.Names.{◌≡◌, ℕ, false, eqb, None, get_or, List, [], ◌∷◌, ◌++◌, map, refl, no_entries, index_state, places_with, Call, Evict, SlotFor, after_all, set_bits, summed, puts, gets, state, uncounted, HashMembers, Put, Get, GetAt, Try, Remove, Retain, Clear, CacheState, cache_state, most_accesses, most_slots}
use Rattle.std.specs.declared.hash.Hasher as hasher
use Rattle.std.specs.declared.hash.BuildHasher as builder
use Rattle.clock2q_handles.specs.Layout.{spill, layout}
use Rattle.clock2q_directory.specs.Index.{entered}
use Rattle.clock2q_cache.specs.Hashes.{hash_of}

links_of_a_whole_round : let m = state 20 (puts 1 20 ++ gets 3 18 ++ Get 1 ∷ []) in
    (most_accesses eqb (Put 21 21) m ≡ 48) × (most_accesses eqb (Put 20 20) m ≡ 0) × (most_accesses eqb (Try 21 None) m ≡ 0)
    × (most_accesses eqb (Get 1) m ≡ 0) × (most_accesses eqb (GetAt 0 1) m ≡ 0) ×
    (most_accesses eqb (Retain (false ∷ [])) m ≡ 160) × (most_accesses eqb Clear m ≡ 1) × (most_accesses eqb Evict m ≡ 38)
links_of_a_whole_round = (refl, refl, refl, refl, refl, refl, refl, refl)

-- a list of three calls, of which the second hits: what its calls may access, the bits before it and after it
links_of_a_list : let m = state 20 (puts 1 20 ++ gets 3 18 ++ Get 1 ∷ []) in let calls : List (Call ℕ ℕ) = Put 21 21 ∷ Get 21 ∷ Put 22 22 ∷ [] in
    (summed eqb (most_accesses eqb) calls m ≡ 77) × (set_bits m ≡ 18) × (set_bits (after_all eqb calls m) ≡ 0)
links_of_a_list = (refl, refl, refl)

-- each key is its own hash
abbrev key : HashMembers ℕ
key = record { eq = eqb; hash_input = λ k. (k ∷ []) ∷ [] }

abbrev build : builder.Ghosts ℕ ℕ
build = record { build_hasher = λ s. s }

abbrev hash : hasher.Ghosts ℕ
hash = record { write = λ h bytes. get_or bytes 0 h; finish = λ h. h }

-- two keys fill a cache whose index has 16 slots: both are in Small, or the first of them is in Main
abbrev full : ℕ → ℕ → CacheState ℕ ℕ ℕ
full a b = cache_state (state 2 (Put a a ∷ Put b b ∷ [])) (places_with (entered false b 1 (entered false a 0 (index_state (no_entries 16) []))) [] []) 0 uncounted

-- the bounds for calls on it
abbrev bounds : List (Call ℕ ℕ) → CacheState ℕ ℕ ℕ → List ℕ
bounds calls c = map (λ call. most_slots key build hash call c) calls

-- with homes of their own, a key that is there is found in its home, and the next slot ends the walk
index_of_two : bounds (Get 1 ∷ Get 5 ∷ Get 9 ∷ GetAt 0 1 ∷ Put 1 1 ∷ Put 9 9 ∷ Try 9 None ∷ SlotFor 9 9 ∷ Remove 1 ∷ Retain [] ∷ Clear ∷ Evict ∷ []) (full 1 5)
    ≡ 2 ∷ 2 ∷ 1 ∷ 0 ∷ 2 ∷ 19 ∷ 1 ∷ 20 ∷ 10 ∷ 16 ∷ 16 ∷ 8 ∷ []
unfolding hash_of spill layout
index_of_two = refl

-- with one home, each is dearer by those before it
index_of_two_alike : bounds (Get 1 ∷ Get 17 ∷ Get 33 ∷ Get 9 ∷ Put 33 33 ∷ []) (full 1 17) ≡ 3 ∷ 3 ∷ 3 ∷ 1 ∷ 36 ∷ []
unfolding hash_of spill layout
index_of_two_alike = refl
