-- The keys by place after a call that lends one of their values.
use Rattle.std.specs.Prelude.{ℕ}
use Rattle.std.specs.Borrow.{Lends, MutBor, Fml, RattleType}
use Rattle.std.specs.declared.alloc.Allocator as alloc
use Rattle.clock2q_directory.specs.Keys.{KeyPlaces, with_value}
use Rattle.clock2q_directory.specs.contracts.keys.Keys.{the_row}

module _ (K V A : RattleType) (heap : alloc.Ghosts A.Denot) where
  -- the value at that place is what the caller leaves there, and nothing else changes
  abbrev pub LendsValueAt : MutBor (KeyPlaces K.Denot V.Denot) → ℕ → MutBor V.Denot → Fml
  LendsValueAt k place r = Lends (the_row K V A heap) V k r (λ w. record k.now { entries = with_value place w k.now.entries })
