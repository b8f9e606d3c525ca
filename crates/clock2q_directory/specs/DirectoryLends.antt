-- The directory after a call that lends one of its values.
use Rattle.std.specs.Prelude.{ℕ, Bool}
use Rattle.std.specs.Borrow.{Lends, MutBor, Fml, RattleType}
use Rattle.std.specs.declared.alloc.Allocator as alloc
use Rattle.clock2q_directory.specs.Keys.{with_value}
use Rattle.clock2q_directory.specs.Directory.{Known}
use Rattle.clock2q_directory.specs.contracts.directory.Directory.{the_row}

module _ (K V A : RattleType) (eq : K.Denot → K.Denot → Bool) (heap : alloc.Ghosts A.Denot) where
  -- the value at that slot is what the caller leaves there, and nothing else changes
  abbrev pub LendsValueOf : MutBor (Known K.Denot V.Denot) → ℕ → MutBor V.Denot → Fml
  LendsValueOf d slot r =
      Lends (the_row K V A (record { eq = eq }) heap) V d r (λ w. record d.now { residents = record d.now.residents { entries = with_value slot w d.now.residents.entries } })
