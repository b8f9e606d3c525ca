-- Tables whose slots are known independently, and groups of hashes, computed.
use Rattle.std.proofs.Common.{◌≡◌, ℕ, suc, ◌+◌, ◌*◌, ◌%◌, true, false, eqb, List, [], ◌∷◌, ◌++◌, length, get_or, take, lit<, refl, Option, Some, None, replicate, map, option_map, Ok}
use Rattle.std.specs.List.{list_any}
use Rattle.clock2q_handles.specs.Homes.{capacity, total, no_entries, listed, with_handle, is_entry_of, without_handle, candidates}
use Rattle.clock2q_handles.specs.Layout.{Placed, placed, layout, spill, walk, homes_of}
use Rattle.clock2q_handles.specs.Offers.{Settles}
use Rattle.clock2q_handles.specs.Partition.{IsGroupOf}
use Rattle.clock2q_handles.specs.Rehash.{held_handles}
use Rattle.clock2q_handles.specs.TableStep.{rebuilt, fit, grown, made_for, reserved}
use Rattle.clock2q_handles.proofs.Groups.{exponent_same}
use Rattle.clock2q_handles.proofs.Promises.{few_fit}

-- the numbers from v on, put in under these hashes
abbrev put_each : List (List (ℕ × ℕ)) → List ℕ → ℕ → List (List (ℕ × ℕ))
put_each homes [] v = homes
put_each homes (x ∷ xs) v = put_each (with_handle homes x v) xs (suc v)

abbrev sixteen : List ℕ → List (List (ℕ × ℕ))
sixteen hashes = put_each (no_entries 16) hashes 0

abbrev vacant : ℕ → List (Option (Placed (ℕ × ℕ)))
vacant n = replicate n None

-- handle v of the fingerprint f, d past its home
abbrev at : ℕ → ℕ → ℕ → Option (Placed (ℕ × ℕ))
at f v d = Some (placed d (f, v))

-- the slots of a table, and for each of some hashes, what a lookup yields and how many slots it reads
abbrev Shows : List (List (ℕ × ℕ)) → List (Option (Placed (ℕ × ℕ))) → List (ℕ × List ℕ × ℕ) → Type 0
Shows homes slots lookups = (layout homes ≡ slots) × (map (λ l. (l.0, candidates homes l.0, walk homes l.0)) lookups ≡ lookups)

-- two homes beside each other, and a second fingerprint
abbrev four : List (List (ℕ × ℕ))
four = sixteen (0xAB00000000000005 ∷ 0xAB00010000000005 ∷ 0xAB00000000000006 ∷ 0xCD00000000000005 ∷ [])

-- these four; without the first one, removed under the second hash; and with one more under the first hash
four-tables : Shows four (vacant 5 ++ (at 0xAB 0 0 ∷ at 0xAB 1 1 ∷ at 0xCD 3 2 ∷ at 0xAB 2 2 ∷ []) ++ vacant 7)
    ((0xAB00000000000005, 0 ∷ 1 ∷ [], 4) ∷ (0xAB00000000000006, 2 ∷ [], 4) ∷ (0xCD00000000000005, 3 ∷ [], 4) ∷ (6, [], 4) ∷ [])
    × (homes_of (layout four) ≡ four) × (list_any (is_entry_of eqb 0xAB00010000000005 0) (listed four 0xAB00010000000005) ≡ true)
    × Shows (without_handle eqb four 0xAB00010000000005 0) (vacant 5 ++ (at 0xAB 1 0 ∷ at 0xCD 3 1 ∷ at 0xAB 2 1 ∷ []) ++ vacant 8)
    ((0xAB00000000000005, 1 ∷ [], 3) ∷ (0xAB00000000000006, 2 ∷ [], 3) ∷ (0xCD00000000000005, 3 ∷ [], 3) ∷ [])
    × Shows (with_handle four 0xAB00000000000005 4) (vacant 5 ++ (at 0xAB 0 0 ∷ at 0xAB 1 1 ∷ at 0xCD 3 2 ∷ at 0xAB 4 3 ∷ at 0xAB 2 3 ∷ []) ++ vacant 6)
    ((0xAB00000000000005, 0 ∷ 1 ∷ 4 ∷ [], 5) ∷ (5, [], 5) ∷ (6, [], 5) ∷ [])
    × (layout (without_handle eqb (with_handle four 0xAB00000000000005 4) 0xAB00000000000005 4) ≡ layout four)
unfolding layout spill homes_of
four-tables = ((refl, refl), refl, refl, (refl, refl), (refl, refl), refl)

-- handles under 4, 4, 5, 7 and 7, and with one of the first home removed
figure-tables : Shows (sixteen (4 ∷ 4 ∷ 5 ∷ 7 ∷ 7 ∷ [])) (vacant 4 ++ (at 0 0 0 ∷ at 0 1 1 ∷ at 0 2 1 ∷ at 0 3 0 ∷ at 0 4 1 ∷ []) ++ vacant 7) ((5, 2 ∷ [], 3) ∷ [])
    × Shows (without_handle eqb (sixteen (4 ∷ 4 ∷ 5 ∷ 7 ∷ 7 ∷ [])) 4 1) (vacant 4 ++ (at 0 0 0 ∷ at 0 2 0 ∷ None ∷ at 0 3 0 ∷ at 0 4 1 ∷ []) ++ vacant 7) ((5, 2 ∷ [], 2) ∷ [])
unfolding layout spill
figure-tables = ((refl, refl), (refl, refl))

-- handles under two hashes in turn, whose home is the last of 16
abbrev hash_of : ℕ → ℕ
hash_of v = 0xAB0000000000000F + 16 * (v % 2)

-- a full table, whose one run wraps
abbrev full : List (List (ℕ × ℕ))
full = sixteen (map hash_of (0 ∷ 1 ∷ 2 ∷ 3 ∷ 4 ∷ 5 ∷ 6 ∷ 7 ∷ 8 ∷ 9 ∷ 10 ∷ 11 ∷ []))

-- one removed under the other hash
abbrev full_less : List (List (ℕ × ℕ))
full_less = without_handle eqb full 0xAB0000000000001F 5

-- another put in, for which the table doesn't grow
abbrev full_again : List (List (ℕ × ℕ))
full_again = with_handle (grown hash_of full_less) 0xAB0000000000000F 12

-- these tables; and the full one in 32 slots, where the wrapped part comes first
full-tables : (layout full ≡ map (λ v. at 0xAB v v) (1 ∷ 2 ∷ 3 ∷ 4 ∷ 5 ∷ 6 ∷ 7 ∷ 8 ∷ 9 ∷ 10 ∷ 11 ∷ []) ++ vacant 4 ++ at 0xAB 0 0 ∷ [])
    × (map (walk full) (15 ∷ 0 ∷ 10 ∷ 11 ∷ []) ≡ 13 ∷ 12 ∷ 2 ∷ 1 ∷ [])
    × (candidates full_less 0xAB0000000000000F ≡ 0 ∷ 1 ∷ 2 ∷ 3 ∷ 4 ∷ 6 ∷ 7 ∷ 8 ∷ 9 ∷ 10 ∷ 11 ∷ []) × (walk full_less 15 ≡ 12)
    × (candidates full_again 0xAB0000000000000F ≡ 0 ∷ 1 ∷ 2 ∷ 3 ∷ 4 ∷ 6 ∷ 7 ∷ 8 ∷ 9 ∷ 10 ∷ 11 ∷ 12 ∷ [])
    × (walk full_again 15 ≡ 13) × (capacity (length full_again) ≡ 12)
    × Shows (rebuilt hash_of 32 full) ((at 0xAB 3 1 ∷ at 0xAB 5 2 ∷ at 0xAB 7 3 ∷ at 0xAB 9 4 ∷ at 0xAB 11 5 ∷ []) ++ vacant 10
    ++ (at 0xAB 2 0 ∷ at 0xAB 4 1 ∷ at 0xAB 6 2 ∷ at 0xAB 8 3 ∷ at 0xAB 10 4 ∷ at 0xAB 0 5 ∷ []) ++ vacant 10 ++ at 0xAB 1 0 ∷ [])
    ((0xAB0000000000000F, 2 ∷ 4 ∷ 6 ∷ 8 ∷ 10 ∷ 0 ∷ [], 7) ∷ (0xAB0000000000001F, 1 ∷ 3 ∷ 5 ∷ 7 ∷ 9 ∷ 11 ∷ [], 7) ∷ (15, [], 7) ∷ [])
unfolding layout spill
full-tables = (refl, refl, refl, refl, refl, refl, refl, (refl, refl))

-- a run that wraps past the end: handles under 14, 14, 15, 0 and 0
abbrev round : List (List (ℕ × ℕ))
round = sixteen (14 ∷ 14 ∷ 15 ∷ 0 ∷ 0 ∷ [])

-- room for twenty more: the handles' hashes are asked for by slot, and the handles are put in 64 slots
abbrev roomy : List (List (ℕ × ℕ))
roomy = reserved (λ v. get_or (14 ∷ 14 ∷ 15 ∷ 0 ∷ 0 ∷ []) v 0) round 20

-- with one removed too; and in another order of insertion, the same homes have the same slots and displacements
round-tables : Shows round ((at 0 2 1 ∷ at 0 3 1 ∷ at 0 4 2 ∷ []) ++ vacant 11 ++ (at 0 0 0 ∷ at 0 1 1 ∷ []))
    ((14, 0 ∷ 1 ∷ [], 3) ∷ (15, 2 ∷ [], 3) ∷ (0, 3 ∷ 4 ∷ [], 4) ∷ [])
    × (homes_of (layout round) ≡ round) × (held_handles round ≡ 2 ∷ 3 ∷ 4 ∷ 0 ∷ 1 ∷ [])
    × Shows (without_handle eqb round 14 0) ((at 0 3 0 ∷ at 0 4 1 ∷ []) ++ vacant 12 ++ (at 0 1 0 ∷ at 0 2 0 ∷ [])) ((14, 1 ∷ [], 2) ∷ (15, 2 ∷ [], 2) ∷ (0, 3 ∷ 4 ∷ [], 3) ∷ [])
    × (length roomy ≡ 64) × (capacity (length roomy) ≡ 48) × (map (candidates roomy) (14 ∷ 15 ∷ 0 ∷ []) ≡ (0 ∷ 1 ∷ []) ∷ (2 ∷ []) ∷ (3 ∷ 4 ∷ []) ∷ [])
    × (map (option_map (λ s. s.displacement)) (layout (sixteen (0 ∷ 15 ∷ 14 ∷ 0 ∷ 14 ∷ []))) ≡ map (option_map (λ s. s.displacement)) (layout round))
unfolding layout spill homes_of fit
round-tables = ((refl, refl), refl, refl, (refl, refl), refl, refl, refl, refl)

-- slot counts for numbers of entries, and a table without slots, which grows before a handle is looked for
fits : (map fit (1 ∷ 12 ∷ 13 ∷ 384 ∷ 385 ∷ []) ≡ 16 ∷ 16 ∷ 32 ∷ 512 ∷ 1024 ∷ []) × (grown hash_of (made_for 0) ≡ no_entries 16)
unfolding fit layout
fits = (refl, refl)

-- handle 0 is put in under the hash 5 and then found, handle 1 is put in after it was passed over, and handle 2 is put in under the hash 9
abbrev held : ℕ → List (List (ℕ × ℕ))
held n = sixteen (take n (5 ∷ 5 ∷ 9 ∷ []))

held-tables : (map (λ n. map (candidates (held n)) (5 ∷ 9 ∷ [])) (1 ∷ 2 ∷ 3 ∷ []) ≡ ((0 ∷ []) ∷ [] ∷ []) ∷ ((0 ∷ 1 ∷ []) ∷ [] ∷ []) ∷ ((0 ∷ 1 ∷ []) ∷ (2 ∷ []) ∷ []) ∷ [])
    × (total (held 3) ≡ 3) × Settles (held 0) 5 0 None (Ok (0, true)) (held 1) × Settles (held 1) 5 7 (Some 0) (Ok (0, false)) (held 1)
    × Settles (held 1) 5 1 None (Ok (1, true)) (held 2) × Settles (held 2) 9 2 None (Ok (2, true)) (held 3)
held-tables =
    (refl, refl, (refl, refl, few_fit (held 0) 5 0 (lit< tt) (lit< tt)), (refl, refl), (refl, refl, few_fit (held 1) 5 1 (lit< tt) (lit< tt)), (refl, refl, few_fit (held 2) 9 2 (lit< tt) (lit< tt)))

-- the groups of hashes
groups : IsGroupOf 0xAB000000000000 256 171 × IsGroupOf 0xFFFFFFFFFFFFFFFF 1 0 × IsGroupOf 0xFFFFFFFFFFFFFFFF 65536 65535
groups = (λ k e. rw (← exponent_same 8 k e) refl, λ k e. rw (← exponent_same 0 k e) refl, λ k e. rw (← exponent_same 16 k e) refl)
