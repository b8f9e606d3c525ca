-- Vectors whose reads and writes are counted.
use Rattle.std.specs.Prelude.{ℕ, ◌+◌, ◌≤◌, List, Bool, false, slice_index_or, slice_set}

-- items by number, and the number of reads and writes
pub record CellsState (T : Type 0) : Type 0 where
  pub items : List T
  pub accesses : ℕ

abbrev pub cells_state : {T : Type 0} → List T → ℕ → CellsState T
cells_state items accesses = record { items = items; accesses = accesses }

-- an item was read
abbrev pub accessed : {T : Type 0} → CellsState T → CellsState T
accessed c = cells_state c.items (c.accesses + 1)

-- an item was written
abbrev pub written : {T : Type 0} → ℕ → T → CellsState T → CellsState T
written at item c = cells_state (slice_set c.items at item) (c.accesses + 1)

-- a hit bit for each slot, and the number of inspections by the hand
pub record HitBits : Type 0 where
  pub items : List Bool
  pub inspections : ℕ

abbrev pub hit_bits : List Bool → ℕ → HitBits
hit_bits items inspections = record { items = items; inspections = inspections }

-- the bit of a slot
abbrev pub bit_in : List Bool → ℕ → Bool
bit_in bits slot = slice_index_or bits slot false

-- the hand inspected a bit
abbrev pub inspected : HitBits → HitBits
inspected b = hit_bits b.items (b.inspections + 1)

abbrev pub with_bit : ℕ → Bool → HitBits → HitBits
with_bit slot bit b = hit_bits (slice_set b.items slot bit) b.inspections

-- a count went up by at least `least` and at most `most`
abbrev pub Rises : (least most old new : ℕ) → Type 0
Rises least most old new = (old + least ≤ new) × (new ≤ old + most)
