-- What holds of every index, and what its calls rely on.
use Rattle.clock2q_directory.proofs.Names.{◌≡◌, ℕ, zero, suc, ◌+◌, ◌-◌, ◌^◌, ◌<◌, true, false, ◌&&◌, ◌==◌, eqb, ltb, List, [], ◌∷◌, length, inl, inr, refl, sym, ap, ◌∙◌, arith, list_any, both_ways, cases_Bool, length-map, length-replicate, sum_by-cons, top, listed, no_entries, capacity, total, candidates, with_handle, without_handle, is_entry_of, made_for, HasSpare, total-no_entries, IndexState, index_state, IsSorted, HasSlotRoom, first_remembered, index_room, is_shared, slots, places, beside, slot_entries, place_entries, slots_in, places_in}
use Rattle.clock2q_directory.proofs.Indexes.{any-candidate, length-put, length-taken, fits_new, total_new}
use Rattle.clock2q_directory.proofs.Views.{place_of, listed-view, others-entered, others-left}

-- The number of entries

length-parted : (es : List (ℕ × ℕ)) → length es ≡ length (slot_entries es) + length (place_entries es)
length-parted [] = refl
length-parted (e ∷ es) = grind (arith, length-parted es)

pub total-parted : (homes : List (List (ℕ × ℕ))) → total homes ≡ total (slots_in homes) + total (places_in homes)
total-parted [] = refl
total-parted (es ∷ homes) = omega (
  arith,
  length-parted es,
  total-parted homes,
  sum_by-cons length es homes,
  sum_by-cons length (slot_entries es) (slots_in homes),
  sum_by-cons length (place_entries es) (places_in homes),
)

total-both : (v : IndexState) → IsSorted (index_state v.shared v.own) → total v.shared ≡ total (slots v) + beside v
total-both v s = grind (arith, total-parted)

none-parted : (homes : List (List (ℕ × ℕ))) → total homes ≡ 0 → total (places_in homes) ≡ 0
none-parted homes none = omega (arith, total-parted homes, none)

-- What a call relies on

-- the entries of the table of the slots are few enough for no run to be too long
pub shared-few : (v : IndexState) → IsSorted (index_state v.shared v.own) → total (slots v) + beside v < 2 ^ 24 → total v.shared < 2 ^ 24
shared-few v s few = omega (arith, total-both v s, few)

-- one entry more fits in that table
pub spare-there : (v : IndexState) → IsSorted (index_state v.shared v.own) → HasSlotRoom v → HasSpare v.shared
spare-there v s r = record { room = omega (arith, total-both v s, r.room, ap capacity (length-map v.shared slot_entries)); few = omega (arith, total-both v s, r.few) }

any-place : (x p : ℕ) (es : List (ℕ × ℕ)) → list_any (is_entry_of eqb x p) (place_entries es) ≡ true → list_any (is_entry_of eqb x (first_remembered + p)) es ≡ true
any-place x p [] h = h
any-place x p (e ∷ es) h = elim (cases_Bool (is_entry_of eqb x (first_remembered + p) e)) [
  | inl t ↦ rw t refl
  | inr t ↦ elim (cases_Bool (ltb e.1 first_remembered)) [
    | inl b ↦ rw t (any-place x p es (rw b at h))
    | inr b ↦
        let t' : is_entry_of eqb x p (e.0, e.1 - first_remembered) ≡ false = ap (λ z. (e.0 == top x) && z) (sym (place_of e.1 p b)) ∙ t in
        rw t (any-place x p es (rw (b, t') at h))
  ]
]

-- the table that a place is in has an entry of it
pub held_place : (v : IndexState) (x p : ℕ) → is_shared v ≡ true → list_any (eqb p) (candidates (places v) x) ≡ true → list_any (is_entry_of eqb x (first_remembered + p)) (listed v.shared x) ≡ true
held_place v x p h held = grind (arith, any-place, listed-view, any-candidate)

pub held_own : (v : IndexState) (x p : ℕ) → is_shared v ≡ false → list_any (eqb p) (candidates (places v) x) ≡ true → list_any (is_entry_of eqb x p) (listed v.own x) ≡ true
held_own v x p h held = grind (arith, any-candidate)

-- What holds of every index

sorted : (v w : IndexState) → IsSorted v → length w.shared ≡ length v.shared → length w.own ≡ length v.own → (is_shared v ≡ false → places_in w.shared ≡ places_in v.shared) → IsSorted w
sorted v w s shared own others = grind arith

pub sorted-entered : {v : IndexState} (x s : ℕ) → s < first_remembered → IsSorted v → IsSorted (index_state (with_handle v.shared x s) v.own)
sorted-entered {v} x s below sorts = sorted v (index_state (with_handle v.shared x s) v.own) sorts (length-put v.shared x s) refl (λ _. others-entered v.shared x s below)

pub sorted-left : {v : IndexState} (x s : ℕ) → s < first_remembered → IsSorted v → IsSorted (index_state (without_handle eqb v.shared x s) v.own)
sorted-left {v} x s below sorts = sorted v (index_state (without_handle eqb v.shared x s) v.own) sorts (length-taken v.shared x s) refl (λ _. others-left v.shared x s below)

pub sorted-remembered : {v : IndexState} (x s p : ℕ) → s < first_remembered → IsSorted v → IsSorted (index_state (without_handle eqb v.shared x s) (with_handle v.own x p))
sorted-remembered {v} x s p below sorts = grind (arith, sorted, length-taken, length-put, others-left)

-- if slots and places share a table, only its number of lists matters
pub sorted-shared : (v w : IndexState) → IsSorted v → is_shared v ≡ true → length w.shared ≡ length v.shared → w.own ≡ v.own → IsSorted w
sorted-shared v w s h shared own = sorted v w s shared (ap (λ z. length z) own) (λ apart. absurd (both_ways (is_shared v) apart h))

pub sorted-cleared : (v : IndexState) → IsSorted v → IsSorted (index_state (no_entries (length v.shared)) (no_entries (length v.own)))
sorted-cleared v s = grind (arith, length-replicate, none-parted, total-no_entries)

made_takes : (m : ℕ) → (length (made_for {H = ℕ} m) == 0) ≡ false → 0 < capacity (length (made_for {H = ℕ} m))
made_takes zero h = absurd (both_ways true h refl)
made_takes (suc m) h = omega (arith, fits_new (suc m))

-- a table that is made for some entries has slots
made_some : (n : ℕ) → 0 < n → 0 < length (made_for {H = ℕ} n)
made_some n some = omega (arith, fits_new n)

-- where there may be some entries, a table is made for some
pub room_some : (most : ℕ) → 0 < most → 0 < index_room most
room_some most some = grind arith

pub sorted-made : (n m : ℕ) → 0 < n → IsSorted (index_state (made_for n) (made_for m))
sorted-made n m some = grind (arith, made_some, none-parted, total_new, made_takes)
