-- What a handle points to once a borrow of it has ended.
use Rattle.std.specs.Borrow.{Fml, MutBor, Lends}
use Rattle.std.specs.Prelude.{Some}
use Rattle.clock2q_c.specs.Handle.{HeldInC, held_row}
use Rattle.clock2q_c.specs.declared.handle.Handle.{Handle}
use Rattle.clock2q_c.specs.contracts.handle.Handle.{the_row}

-- the same handle, pointing to this
abbrev pub with_held : Handle → HeldInC → Handle
with_held handle held = record handle { cache = Some held }

-- once the borrow r has ended, the handle points to what was left behind r
abbrev pub LendsHeld : MutBor Handle → MutBor HeldInC → Fml
LendsHeld handle r = Lends the_row held_row handle r (with_held handle.now)
