-- The places of a history for two keys, worked out by hand: a discarded key's place is taken first, and then the oldest key's.
use Rattle.clock2q_directory.proofs.Names.{◌≡◌, ℕ, Bool, eqb, false, true, [], ◌∷◌, map, Some, refl, no_entries, candidates, IndexState, index_state, slots, places, entered, Places, places_with, pushed_places, freed_place, place_of}
use Rattle.clock2q_handles.specs.Layout.{spill, layout}

-- no key yet, and 16 slots
abbrev none : Places
none = places_with (index_state (no_entries 16) []) [] []

-- a key becomes resident at slot 3 and leaves it
abbrev out : (hash oldest : ℕ) → Places → Places
out hash oldest p = pushed_places 2 hash 3 oldest (record p { index = entered false hash 3 p.index })

-- key 1, and then key 5; each key is its own hash
abbrev two : Places
two = out 5 1 (out 1 0 none)

two_pushed : (two.taken ≡ 1 ∷ 0 ∷ []) × (map (candidates (places two.index)) (1 ∷ 5 ∷ []) ≡ (0 ∷ []) ∷ (1 ∷ []) ∷ []) × (place_of (eqb 1) (5 ∷ 1 ∷ []) two.taken ≡ Some 0)
two_pushed = (refl, refl, refl)

-- key 1 is discarded, and key 6 takes its place
abbrev six : Places
six = out 6 5 (freed_place 1 (Some 0) two)

six_pushed : (six.taken ≡ 0 ∷ 1 ∷ []) × (six.free ≡ []) × (map (candidates (places six.index)) (1 ∷ 5 ∷ 6 ∷ []) ≡ [] ∷ (1 ∷ []) ∷ (0 ∷ []) ∷ [])
six_pushed = (refl, refl, refl)

-- key 7 takes the place of key 5, the oldest
abbrev seven : Places
seven = out 7 5 six

seven_pushed : (seven.taken ≡ 1 ∷ 0 ∷ []) × (map (candidates (places seven.index)) (5 ∷ 6 ∷ 7 ∷ []) ≡ [] ∷ (0 ∷ []) ∷ (1 ∷ []) ∷ [])
seven_pushed = (refl, refl)

-- key 6 is discarded, and key 8 takes its place
abbrev eight : Places
eight = out 8 7 (freed_place 6 (Some 0) seven)

eight_pushed : (eight.taken ≡ 0 ∷ 1 ∷ []) × (map (candidates (places eight.index)) (6 ∷ 7 ∷ 8 ∷ []) ≡ [] ∷ (1 ∷ []) ∷ (0 ∷ []) ∷ [])
eight_pushed = (refl, refl)

-- once everything is forgotten, the first place is the first one taken again
abbrev anew : Places
anew = out 8 0 none

anew_pushed : (anew.taken ≡ 0 ∷ []) × (candidates (places anew.index) 8 ≡ 0 ∷ []) × (candidates (slots anew.index) 8 ≡ [])
anew_pushed = (refl, refl, refl)

-- keys of one hash make each other dear: the first reads its home, and then reads and writes it; the others walk past the
-- keys before them, and those are in their run
colliding : map (λ (v : IndexState). v.accesses) (entered false 1 0 none.index ∷ entered false 1 1 (entered false 1 0 none.index) ∷ entered false 1 2
    (entered false 1 1 (entered false 1 0 none.index)) ∷ []) ≡ 3 ∷ 9 ∷ 18 ∷ []
unfolding spill layout
colliding = refl

-- keys with homes of their own, apart from each other, don't
apart : (entered false 9 2 (entered false 5 1 (entered false 1 0 none.index))).accesses ≡ 9
unfolding spill layout
apart = refl

-- the second of two keys of one hash walks past the first, unless a lookup has found its gap
spared : map (λ (b : Bool). (entered b 1 1 (entered true 1 0 none.index)).accesses) (false ∷ true ∷ []) ≡ 8 ∷ 6 ∷ []
unfolding spill layout
spared = refl
