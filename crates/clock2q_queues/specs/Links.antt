-- What the links hold, and how it changes.
use Rattle.std.specs.Prelude.{◌≡◌, ℕ, ◌+◌, ◌-◌, ◌^◌, ◌<◌, ◌==◌, nat_lt, Bool, true, false, List, [], ◌++◌, length, Option, Some, None, slice_get, slice_index_or, replicate, if◌then◌else◌, nat_eq}
use Rattle.std.specs.Bool.{then_some}
use Rattle.std.specs.List.{list_any, AllByRecursion, IsDistinct}
use Rattle.clock2q_queues.specs.Cells.{CellsState, HitBits, cells_state, hit_bits, written, bit_in}
use Rattle.clock2q_queues.specs.Rings.{IsRing, around}
use Rattle.clock2q_queues.specs.declared.entries.Entry.{Entry}
use Rattle.clock2q_queues.specs.declared.entries.Location.{Location}
use Rattle.clock2q_queues.specs.declared.entries.Location.TheVariants.{Free, SmallYoung, SmallOld, Main}

-- Records by slot number

-- the neighbours of a slot or a place, and the location of a slot
abbrev pub Record : Type 0
Record = Entry Location

-- the record that contracts see in an entry
abbrev pub record_of : {T : Type 0} → (T → Location) → Entry T → Record
record_of location_of e = record { previous = e.previous; next = e.next; held = location_of e.held }

-- the record of a slot that is in no queue
abbrev pub vacant : Record
vacant = record { previous = 0; next = 0; held = Free }

abbrev pub record_at : List Record → ℕ → Record
record_at rs slot = slice_index_or rs slot vacant

-- the records of all slots, of which the first are in memory and the others vacant
abbrev pub all_records : List Record → ℕ → List Record
all_records rs slots = rs ++ replicate (slots - length rs) vacant

abbrev pub next_at : List Record → ℕ → ℕ
next_at rs slot = (record_at rs slot).next

abbrev pub previous_at : List Record → ℕ → ℕ
previous_at rs slot = (record_at rs slot).previous

abbrev pub location_at : List Record → ℕ → Location
location_at rs slot = (record_at rs slot).held

abbrev pub with_next : ℕ → ℕ → CellsState Record → CellsState Record
with_next slot next rs = written slot (record (record_at rs.items slot) { next = next }) rs

abbrev pub with_previous : ℕ → ℕ → CellsState Record → CellsState Record
with_previous slot previous rs = written slot (record (record_at rs.items slot) { previous = previous }) rs

abbrev pub with_location : ℕ → Location → CellsState Record → CellsState Record
with_location slot location rs = written slot (record (record_at rs.items slot) { held = location }) rs

-- these slots form a ring, each of them once
pub record IsLinked (rs : List Record) (slots : List ℕ) : Type 0 where
  pub ring : IsRing (next_at rs) (previous_at rs) slots
  pub apart : IsDistinct nat_eq slots
  pub below : AllByRecursion (λ s. s < length rs) slots

-- the slot at an end of a queue with this number of slots, if it has any
abbrev pub end_of : ℕ → ℕ → Option ℕ
end_of len slot = then_some (nat_lt 0 len) slot

-- these slots are a queue: `first` is its first slot, if there is one, and `count` their number
pub record IsQueue (rs : List Record) (first : Option ℕ) (count : ℕ) (slots : List ℕ) : Type 0 where
  pub linked : IsLinked rs slots
  pub starts : first ≡ slice_get slots 0
  pub counted : count ≡ length slots
  pub countable : length rs < 2 ^ 32

-- the slots of such a queue, in order
abbrev pub slots_from : List Record → Option ℕ → ℕ → List ℕ
slots_from rs None count = []
slots_from rs (Some first) count = around (next_at rs) first count

-- the number of records made after those below a bound were, of which none is made twice
abbrev pub made_below : ℕ → ℕ → ℕ
made_below bound made = made + (bound - made)

-- a slot was put just before another
pub record Attaches (slot before : ℕ) (location : Location) (old new : CellsState Record) : Type 0 where
  pub nexts : (t : ℕ) → next_at new.items t ≡ (if t == previous_at old.items before then slot else (if t == slot then before else next_at old.items t))
  pub previouses : (t : ℕ) → previous_at new.items t ≡ (if t == before then slot else (if t == slot then previous_at old.items before else previous_at old.items t))
  pub locations : (t : ℕ) → location_at new.items t ≡ (if t == slot then location else location_at old.items t)
  pub as_many : length new.items ≡ length old.items
  pub accesses : new.accesses ≡ old.accesses + 6

-- a slot was taken from between its neighbours, and is in no queue now
pub record Detaches (slot : ℕ) (old new : CellsState Record) : Type 0 where
  pub nexts : (t : ℕ) → (t == slot) ≡ false → next_at new.items t ≡ (if t == previous_at old.items slot then next_at old.items slot else next_at old.items t)
  pub previouses : (t : ℕ) → (t == slot) ≡ false → previous_at new.items t ≡ (if t == next_at old.items slot then previous_at old.items slot else previous_at old.items t)
  pub locations : (t : ℕ) → (t == slot) ≡ false → location_at new.items t ≡ location_at old.items t
  pub freed : record_at new.items slot ≡ vacant
  pub as_many : length new.items ≡ length old.items
  pub accesses : new.accesses ≡ old.accesses + 6

-- What Small and Main share

-- the records by slot, the number of those that were made, the window's positions, and the hit bits by slot
pub record LinkState : Type 0 where
  pub records : CellsState Record
  pub made : ℕ
  pub window : CellsState (Option ℕ)
  pub bits : HitBits

-- the number of reads and writes of records and positions
abbrev pub accesses_of : LinkState → ℕ
accesses_of l = l.records.accesses + l.window.accesses

abbrev pub bit_at : LinkState → ℕ → Bool
bit_at l slot = bit_in l.bits.items slot

abbrev pub young_at : LinkState → ℕ → Option ℕ
young_at l position = slice_index_or l.window.items position None

-- a slot's record and its bit
abbrev pub slot_at : LinkState → ℕ → Record × Bool
slot_at l slot = (record_at l.records.items slot, bit_at l slot)

-- the initial state: no slot is in a queue, no bit is set, and no position is taken
abbrev pub fresh : ℕ → ℕ → LinkState
fresh slots window = record { records = cells_state (replicate slots vacant) 0; made = 0; window = cells_state (replicate window None) 0; bits = hit_bits (replicate slots false) 0 }

-- a slot's bit is this one, and nothing else changed
pub record SetsBit (slot : ℕ) (bit : Bool) (old new : LinkState) : Type 0 where
  pub bits : (t : ℕ) → bit_at new t ≡ (if t == slot then bit else bit_at old t)
  pub records : new.records ≡ old.records
  pub made : new.made ≡ old.made
  pub window : new.window ≡ old.window
  pub inspections : new.bits.inspections ≡ old.bits.inspections

-- all slots but these are unchanged
pub record IsSameBut (slots : List ℕ) (old new : LinkState) : Type 0 where
  pub others : (t : ℕ) → list_any (nat_eq t) slots ≡ false → slot_at new t ≡ slot_at old t
  pub as_many : length new.records.items ≡ length old.records.items

-- no slot is in a queue and no position is taken, and the numbers of slots and of positions fit in 32 bits
pub record IsBlank (l : LinkState) : Type 0 where
  pub nowhere : (slot : ℕ) → location_at l.records.items slot ≡ Free
  pub free : (position : ℕ) → young_at l position ≡ None
  pub countable : length l.records.items < 2 ^ 32
  pub countable_positions : length l.window.items < 2 ^ 32

-- a slot with this location is old
abbrev pub is_old : Location → Bool
is_old Free = false
is_old (SmallYoung position) = false
is_old SmallOld = true
is_old Main = false
