-- Values stored at a slot more than once.
use Rattle.std.proofs.Common.{◌≡◌, ℕ, zero, suc, ◌≤◌, true, List, [], ◌∷◌, ◌++◌, length, inl, inr, Some, refl, sym, ap, ◌∙◌, arith, length-append}
use Rattle.std.specs.Prelude.{nat_lt, slice_get, slice_set}
use Rattle.std.proofs.lemmas.Bool.{cases_lt, lt-ltb, le-ltb}
use Rattle.std.proofs.lemmas.Option.{slice_get_within}
use Rattle.std.proofs.Math.ListN.{length-set}
use Rattle.std.proofs.Math.Seq.{set-append_seam}
use Rattle.clock2q_machine.specs.Machine.{Machine, stored}

module _ {V : Type 0} where
  set_again : (values : List V) (slot : ℕ) (v w : V) → slice_set (slice_set values slot v) slot w ≡ slice_set values slot w
  set_again [] slot v w = refl
  set_again (x ∷ values) zero v w = refl
  set_again (x ∷ values) (suc slot) v w = ap (λ vs. x ∷ vs) (set_again values slot v w)

  set_same : (values : List V) (slot : ℕ) (v : V) → slice_get values slot ≡ Some v → slice_set values slot v ≡ values
  set_same [] slot v there = refl
  set_same (x ∷ values) zero v there = let e : x ≡ v = cc in ap (λ y. y ∷ values) (sym e)
  set_same (x ∷ values) (suc slot) v there = ap (λ vs. x ∷ vs) (set_same values slot v there)

-- of two values that are stored at a slot the second stays
pub stored_again : {K V : Type 0} (m : Machine K V) (slot : ℕ) (v w : V) → slot ≤ length m.values → stored slot w (stored slot v m) ≡ stored slot w m
stored_again m slot v w within =
    elim (cases_lt slot (length m.values)) [
      | inl made ↦
          let still : nat_lt slot (length (slice_set m.values slot v)) ≡ true = lt-ltb slot (length (slice_set m.values slot v)) (omega (arith, made, length-set m.values slot v)) in
          rw (lt-ltb slot (length m.values) made, still) (ap (λ vs. record m { values = vs }) (set_again m.values slot v w))
      | inr next ↦
          let end : slot ≡ length m.values = omega (arith, within, next) in
          let now : nat_lt slot (length (m.values ++ v ∷ [])) ≡ true = lt-ltb slot (length (m.values ++ v ∷ [])) (omega (arith, end, length-append m.values (v ∷ []))) in
          rw (le-ltb slot (length m.values) next, now) (ap (λ vs. record m { values = vs }) (ap (λ s. slice_set (m.values ++ v ∷ []) s w) end ∙ set-append_seam m.values v [] w))
    ]

-- storing the value that a slot has changes nothing
pub stored_same : {K V : Type 0} (m : Machine K V) (slot : ℕ) (v : V) → slice_get m.values slot ≡ Some v → stored slot v m ≡ m
stored_same m slot v there = rw (lt-ltb slot (length m.values) (slice_get_within m.values slot v there)) (ap (λ vs. record m { values = vs }) (set_same m.values slot v there))
