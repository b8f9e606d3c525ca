-- The slots at the window's positions, which hold numbers.
use Rattle.clock2q_queues.proofs.Names.{◌≡◌, ℕ, ◌<◌, Bool, true, false, not, eqb, List, Some, None, length, map, get_or, refl, sym, ap, ◌∙◌, arith, then_some, ne_eqb, drop-map, get_or-map, map-append}
use Rattle.clock2q_queues.proofs.Names.{take-map, with_gap, no_slot, slot_of, mapped-same}

-- a slot's number isn't that of a free position
pub slot_of-slot : (slot : ℕ) → slot < no_slot → slot_of slot ≡ Some slot
slot_of-slot slot below = rw (ne_eqb slot no_slot (λ e. omega (arith, below, e))) refl

-- the slot that a position held
pub slot_of-read : (numbers : List ℕ) (position was : ℕ) → position < length numbers → was ≡ get_or numbers position was
    → then_some (not (eqb was no_slot)) was ≡ get_or (map slot_of numbers) position None
slot_of-read numbers position was within is = of (eqb was no_slot) refl ∙ ap slot_of is ∙ sym (get_or-map slot_of numbers position was None within)
  where
    of : (b : Bool) → eqb was no_slot ≡ b → then_some (not (eqb was no_slot)) was ≡ slot_of was
    of true e = rw e refl
    of false e = rw e refl

-- free positions were put in
pub gap-mapped : (at gap : ℕ) (numbers : List ℕ) → map slot_of (with_gap at gap no_slot numbers) ≡ with_gap at gap None (map slot_of numbers)
gap-mapped at gap numbers = simp (map-append, take-map, drop-map, mapped-same)
