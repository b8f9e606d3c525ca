-- The entries of a ring by place, as records.
use Rattle.std.specs.Prelude.{ℕ, List, length}
use Rattle.clock2q_queues.specs.Cells.{CellsState, cells_state}
use Rattle.clock2q_queues.specs.Links.{Record, all_records}

-- the records by place, and the number of places, from 0 on, whose records were made: a place gets its record when it is
-- first used
pub record RingState : Type 0 where
  pub cells : CellsState Record
  pub made : ℕ

abbrev pub ring_state : CellsState Record → ℕ → RingState
ring_state cells made = record { cells = cells; made = made }

-- what these records in memory say of so many places, with this number of accesses
abbrev pub ring_shown : List Record → ℕ → ℕ → RingState
ring_shown rs places accesses = ring_state (cells_state (all_records rs places) accesses) (length rs)
