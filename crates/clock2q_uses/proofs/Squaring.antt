-- A cache of squares remains one: any other number that has a value afterwards had it before.
use Rattle.std.proofs.Common.{ℕ, eqb, inl, inr, Some, sym, ap, ◌∙◌, ne_eqb}
use Rattle.std.specs.Cmp.{nat_eq_equiv}
use Rattle.std.proofs.lemmas.Bool.{cases_eq}
use Rattle.clock2q_machine.specs.Calls.{Get, Put}
use Rattle.clock2q_machine.specs.Machine.{Machine, hit, value_of}
use Rattle.clock2q_machine.specs.Steps.{put}
use Rattle.clock2q_machine.specs.Whole.{IsWhole}
use Rattle.clock2q_machine.proofs.Whole.{some_is}
use Rattle.clock2q_machine.proofs.MachineInvariant.{lasting-after}
use Rattle.clock2q_machine.proofs.Laws.{others_had, put_there}
use Rattle.clock2q_uses.specs.Squares.{HasSquares, square}

module _ (m : Machine ℕ ℕ) (whole : IsWhole eqb m) (had : HasSquares m) (number : ℕ) where
  pub squares_got : HasSquares (hit (eqb number) m)
  squares_got other v found = had other v (others_had eqb nat_eq_equiv m whole (Get number) other tt v found)

  pub squares_put : HasSquares (put (eqb number) number (square number) m)
  squares_put other v found = elim (cases_eq other number) [
    | inl same ↦
        let now = put (eqb number) number (square number) m in
        some_is v (square other) (sym found ∙ ap (λ k. value_of (eqb k) now) same ∙ put_there eqb nat_eq_equiv m whole number (square number) ∙ ap (λ k. Some (square k)) (sym same))
    | inr differ ↦ had other v (others_had eqb nat_eq_equiv m whole (Put number (square number)) other (ne_eqb other number differ) v found)
  ]

-- a number that is put because it was not found
pub squares_missed : (m : Machine ℕ ℕ) (whole : IsWhole eqb m) (had : HasSquares m) (number : ℕ) → HasSquares (put (eqb number) number (square number) (hit (eqb number) m))
squares_missed m whole had number = squares_put (hit (eqb number) m) (lasting-after eqb nat_eq_equiv (Get number) m whole) (squares_got m whole had number) number
