-- What a handle owns, and the machine of the cache that it points to.
use Rattle.std.specs.Prelude.{ℕ, Option, Some, None}
use Rattle.std.specs.Coded.{Coded, coded_option}
use Rattle.std.specs.Option.{option_map}
use Rattle.std.specs.Borrow.{Fml, RattleType}
use base.Fml.{ftrue}
use denote.RawPtr.{Ptr}
use Rattle.std.specs.Box.Ownership.{box_owns}
use Rattle.std.specs.contracts.alloc.Global
use Rattle.std.specs.contracts.impls.GlobalAllocator.TheImpl as heap
use Rattle.clock2q_machine.specs.Machine.{Machine}
use Rattle.clock2q_c.specs.contracts.held.Held as held

-- the type of what a handle points to, in the logic
abbrev pub held_row : RattleType
held_row = held.the_row Global.the_row heap.ghosts

-- what a handle points to
abbrev pub HeldInC : Type 0
HeldInC = held_row.Denot

abbrev pub held_coded : Coded (Option HeldInC)
held_coded = coded_option held_row.coded

-- what a box of this owns at the pointer, or nothing
abbrev pub handle_owns : (Global.the_row).Denot → Ptr → Option HeldInC → Fml
handle_owns alloc p None = ftrue
handle_owns alloc p (Some held) = box_owns (heap.ghosts.dealloc_token alloc) held_row p held

-- the machine of the cache, if there is one
abbrev pub machine_in : Option HeldInC → Option (Machine ℕ (Unit {0}))
machine_in held = option_map (λ h. h.cache.machine) held
