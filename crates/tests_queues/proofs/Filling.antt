-- A ring that was filled in order, each slot with a set bit.
use Rattle.std.proofs.Common.{◌≡◌, ℕ, zero, suc, ◌+◌, ◌≤◌, Bool, true, false, cond, eqb, List, [], ◌∷◌, ◌++◌, map, inl, inr, refl, sym, ap, ◌∙◌, arith}
use Rattle.std.specs.List.{range_with_len, list_any}
use Rattle.std.proofs.lemmas.Bool.{cases_Bool, eq-eqb, eqb-true}
use Rattle.std.proofs.lemmas.List.FromFn.{map-range_with_len_more}
use Rattle.clock2q_queues.specs.Main.{main_hit_at}
use Rattle.clock2q_queues.specs.Queues.{slots_of}
use Rattle.clock2q_queues.proofs.Rings.{among_first, among_later}

abbrev pub all_set : List ℕ → List (ℕ × Bool)
all_set slots = map (λ slot. (slot, true)) slots

same : (b : Bool) (e : ℕ × Bool) → cond b e e ≡ e
same true e = refl
same false e = refl

-- a hit on the last slot sets the one bit that was clear
hit_last : (slot : ℕ) (slots : List ℕ) → main_hit_at slot (all_set slots ++ (slot, false) ∷ []) ≡ all_set slots ++ (slot, true) ∷ []
hit_last slot [] = rw (eq-eqb slot slot refl) refl
hit_last slot (s ∷ slots) = rw (same (eqb s slot) (s, true)) (ap (λ es. (s, true) ∷ es) (hit_last slot slots))

-- one slot more
pub filled_more : (from n slot : ℕ) → from + n ≡ slot → main_hit_at slot (all_set (range_with_len from n) ++ (slot, false) ∷ []) ≡ all_set (range_with_len from (n + 1))
filled_more from n slot e =
    let set : ℕ → ℕ × Bool = λ s. (s, true) in
    hit_last slot (range_with_len from n) ∙ sym (map-range_with_len_more set from n slot e)

-- the next slot is not there yet
pub not_there : (from n slot : ℕ) → from + n ≤ slot → list_any (eqb slot) (slots_of (all_set (range_with_len from n))) ≡ false
not_there from zero slot h = refl
not_there from (suc n) slot h = elim (cases_Bool (eqb slot from)) [
  | inl e ↦ absurd (omega (arith, h, eqb-true slot from e))
  | inr e ↦ rw e (not_there (from + 1) n slot (omega (arith, h)))
]

-- the slot that was put last is there
pub put_there : (slot : ℕ) (es : List (ℕ × Bool)) → list_any (eqb slot) (slots_of (es ++ (slot, false) ∷ [])) ≡ true
put_there slot [] = among_first slot []
put_there slot (e ∷ es) = among_later slot e.0 (slots_of (es ++ (slot, false) ∷ [])) (put_there slot es)
