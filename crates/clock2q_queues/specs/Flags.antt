-- What the flag of a slot says: its hit bit, and whether the slot is in a queue.
use Rattle.std.specs.Prelude.{◌≡◌, ℕ, ◌-◌, ◌<◌, Bool, true, false, List, Option, ◌++◌, map, length, replicate, slice_index_or}
use Rattle.clock2q_queues.specs.Cells.{CellsState, hit_bits}
use Rattle.clock2q_queues.specs.declared.entries.Location.{Location}
use Rattle.clock2q_queues.specs.declared.entries.Location.TheVariants.{Free, SmallYoung, SmallOld, Main}
use Rattle.clock2q_queues.specs.declared.links.flags.Flag.{Flag}
use Rattle.clock2q_queues.specs.declared.links.flags.Flag.TheVariants as flag
use Rattle.clock2q_queues.specs.Links.{LinkState, location_at}
use Rattle.clock2q_queues.specs.Ring.{RingState}

abbrev pub is_set : Flag → Bool
is_set flag.Free = false
is_set flag.Clear = false
is_set flag.Hit = true

abbrev pub says_linked : Flag → Bool
says_linked flag.Free = false
says_linked flag.Clear = true
says_linked flag.Hit = true

-- the flags of all slots, of which the first are in memory and the others say that a slot is in no queue
abbrev pub all_flags : List Flag → ℕ → List Flag
all_flags flags slots = flags ++ replicate (slots - length flags) flag.Free

-- the flags by slot, and the number of slots, from 0 on, whose flags were made
pub record FlagState : Type 0 where
  pub items : List Flag
  pub made : ℕ

abbrev pub flag_state : List Flag → ℕ → FlagState
flag_state items made = record { items = items; made = made }

-- what the links hold, with the hit bits that the flags say
abbrev pub links_shown : RingState → List Flag → CellsState (Option ℕ) → ℕ → LinkState
links_shown ring flags window inspections =
    record { records = ring.cells; made = ring.made; window = window; bits = hit_bits (map is_set flags) inspections }

-- a slot with this location is in a queue
abbrev pub is_linked : Location → Bool
is_linked Free = false
is_linked (SmallYoung position) = true
is_linked SmallOld = true
is_linked Main = true

-- each slot has a flag, which says whether it is in a queue, as its record does. A flag is made with its record, and a slot
-- in a queue has both
pub record AreLinks (ring : RingState) (flags : FlagState) : Type 0 where
  pub as_many : length flags.items ≡ length ring.cells.items
  pub agree : (slot : ℕ) → slice_index_or (map says_linked flags.items) slot false ≡ is_linked (location_at ring.cells.items slot)
  pub made : (slot : ℕ) → is_linked (location_at ring.cells.items slot) ≡ true → slot < ring.made
  pub together : flags.made ≡ ring.made
