-- An empty index: a new one, or one that was cleared.
use Rattle.clock2q_directory.proofs.Names.{◌≡◌, ℕ, zero, suc, ◌+◌, ◌^◌, ◌<◌, ◌≤◌, ◌⊎◌, max, ◌==◌, true, false, List, [], ◌∷◌, length, inl, inr, refl, sym, ap, ◌∙◌, arith, if◌then◌else◌, both_ways, cases_Bool, eqb-true, leb_tells, length-replicate, length-map, capacity, no_entries, made_for, Entry, IsIndex, IndexState, index_state, emptied, index_for, index_room, most_entries, is_shared, slots, places, slots_in, places_in, slot_entries}
use Rattle.clock2q_handles.specs.TableStep.{fit}
use Rattle.clock2q_directory.proofs.Views.{IsLikeBefore}
use Rattle.clock2q_directory.proofs.Indexes.{IsIndex-cleared, fits_new}

slots_in-none : (m : ℕ) → slots_in (no_entries m) ≡ no_entries m
slots_in-none zero = refl
slots_in-none (suc m) = ap (λ (z : List (List (ℕ × ℕ))). [] ∷ z) (slots_in-none m)

places_in-none : (m : ℕ) → places_in (no_entries m) ≡ no_entries m
places_in-none zero = refl
places_in-none (suc m) = ap (λ (z : List (List (ℕ × ℕ))). [] ∷ z) (places_in-none m)

-- it has no slot and no place
pub emptied-slots : {K V : Type 0} (m n : ℕ) (keys : List (Entry K V)) → IsIndex (slots (index_state (no_entries m) (no_entries n))) keys []
emptied-slots m n keys = IsIndex-cleared (slots_in (no_entries m)) m keys (slots_in-none m)

pub emptied-places : {K V : Type 0} (m n : ℕ) (keys : List (Entry K V)) → IsIndex (places (index_state (no_entries m) (no_entries n))) keys []
emptied-places m n keys = elim (cases_Bool (length (no_entries {E = ℕ × ℕ} n) == 0)) [
  | inl e ↦ rw e (IsIndex-cleared (places_in (no_entries m)) m keys (places_in-none m))
  | inr e ↦ rw e (IsIndex-cleared (no_entries n) n keys refl)
]

-- a new table is one without entries
made-none : (n : ℕ) → (m : ℕ) × (made_for {H = ℕ} n ≡ no_entries m)
made-none zero = (0, refl)
made-none (suc k) = (fit (suc k), refl)

room_enough : (n : ℕ) → 0 < n → n < index_room n
room_enough n some = grind (arith, leb_tells)

made_enough : (n : ℕ) → 0 < n → n < capacity (length (made_for {H = ℕ} (index_room n)))
made_enough n some = omega (arith, room_enough n some, fits_new (index_room n))

-- room for as many as the index was made for, and for one more if they share a table
pub record IsFor (s p : ℕ) (v : IndexState) : Type 0 where
  pub slots : s + (if is_shared v then p + 1 else 0) ≤ capacity (length (slots v))
  pub few : s + (if is_shared v then p + 1 else 0) < 2 ^ 24
  pub own : is_shared v ≡ false → p ≤ capacity (length (places v))
  pub some : (0 < length (places v)) ⊎ (p ≡ 0)

as_many : (m : ℕ) → length (slots_in (no_entries m)) ≡ length (no_entries {E = ℕ × ℕ} m)
as_many m = ap (λ (z : List (List (ℕ × ℕ))). length z) (slots_in-none m)

module _ (s p : ℕ) (least : 0 < s) (slots_few : s < 2 ^ 24) (places_few : p < 2 ^ 24) where
  -- a new index is empty
  pub new-none : (m : ℕ) × (n : ℕ) × (index_for s p ≡ index_state (no_entries m) (no_entries n))
  new-none = elim (leb_tells (s + p) most_entries) [
    | inl q ↦ let t = made-none (index_room (s + p)) in (t.0, 0, rw (q.0, t.1) refl)
    | inr q ↦
        let t = made-none (index_room s) in
        let u = made-none (index_room (max p 1)) in
        (t.0, u.0, rw (q.0, t.1, u.1) refl)
  ]

  pub for-new : IsFor s p (index_for s p)
  for-new = elim (leb_tells (s + p) most_entries) [
    | inl q ↦
        let t = made-none (index_room (s + p)) in
        let enough = made_enough (s + p) (omega (arith, least)) in
        let n = ap (λ (z : List (List (ℕ × ℕ))). length z) t.1 in
        let l = as_many t.0 in
        let k = ap (λ (z : List (List (ℕ × ℕ))). length z) (places_in-none t.0) in
        rw (q.0, t.1) (record {
          slots = omega (arith, enough, ap capacity n, ap capacity l);
          few = omega (arith, q.1);
          own = λ e. absurd (both_ways true e refl);
          some = inl (omega (arith, enough, n, k, least));
        })
    | inr q ↦
        let t = made-none (index_room s) in
        let u = made-none (index_room (max p 1)) in
        let enough = made_enough s least in
        let own_enough = made_enough (max p 1) (omega arith) in
        let n = ap (λ (z : List (List (ℕ × ℕ))). length z) t.1 in
        let k = ap (λ (z : List (List (ℕ × ℕ))). length z) u.1 in
        let l = as_many t.0 in
        let some_own : 0 < length (no_entries {E = ℕ × ℕ} u.0) = omega (arith, own_enough, k, q.1, slots_few) in
        rw (q.0, t.1, u.1) (record {
          slots = elim (cases_Bool (is_shared (index_state (no_entries t.0) (no_entries u.0)))) [
            | inl e ↦ absurd (omega (arith, some_own, eqb-true (length (no_entries {E = ℕ × ℕ} u.0)) 0 e))
            | inr e ↦ rw e (omega (arith, enough, ap capacity n, ap capacity l))
          ];
          few = elim (cases_Bool (is_shared (index_state (no_entries t.0) (no_entries u.0)))) [
            | inl e ↦ absurd (omega (arith, some_own, eqb-true (length (no_entries {E = ℕ × ℕ} u.0)) 0 e))
            | inr e ↦ rw e (omega (arith, slots_few))
          ];
          own = λ e. rw e (omega (arith, own_enough, ap capacity k));
          some = elim (cases_Bool (is_shared (index_state (no_entries t.0) (no_entries u.0)))) [
            | inl e ↦ absurd (omega (arith, some_own, eqb-true (length (no_entries {E = ℕ × ℕ} u.0)) 0 e))
            | inr e ↦ rw e (inl some_own)
          ];
        })
  ]

-- a cleared index has the tables that it had, with as many slots
pub cleared_like : (v : IndexState) → IsLikeBefore v (emptied v)
cleared_like v = grind (arith, length-replicate, as_many, length-map, places_in-none)

-- and no resident's slot
pub slots-cleared : (v : IndexState) → slots (emptied v) ≡ no_entries (length (slots v))
slots-cleared v = slots_in-none (length v.shared) ∙ ap (λ n. no_entries n) (sym (length-map v.shared slot_entries))
