-- What a ring and the links become when they get room for more slots and more positions.
use Rattle.std.specs.Prelude.{◌≡◌, ℕ, ◌+◌, ◌-◌, ◌*◌, ◌≤◌, nat_lt, if◌then◌else◌, List, ◌++◌, length, take, drop, replicate, None}
use Rattle.clock2q_queues.specs.Links.{Record, LinkState, accesses_of, bit_at, record_at}
use Rattle.clock2q_queues.specs.Ring.{RingState}
use Rattle.clock2q_queues.specs.declared.entries.Location.{Location}
use Rattle.clock2q_queues.specs.declared.entries.Location.TheVariants.{Free, SmallYoung, SmallOld, Main}

-- a list with `gap` copies of an item put in before the one at `at`
abbrev pub with_gap : {T : Type 0} → ℕ → ℕ → T → List T → List T
with_gap at gap item items = (take at items ++ replicate gap item) ++ drop at items

-- a position of the window after such a gap was put in at the cursor
abbrev pub moved_position : ℕ → ℕ → ℕ → ℕ
moved_position cursor gap position = if nat_lt position cursor then position else position + gap

abbrev pub moved_location : ℕ → ℕ → Location → Location
moved_location cursor gap (SmallYoung position) = SmallYoung (moved_position cursor gap position)
moved_location cursor gap SmallOld = SmallOld
moved_location cursor gap Free = Free
moved_location cursor gap Main = Main

abbrev pub moved_record : ℕ → ℕ → Record → Record
moved_record cursor gap r = record r { held = moved_location cursor gap r.held }

-- a ring of this many places has another's entries, changed like this. Each entry that was made was read and written
pub record GrowsRing (change : Record → Record) (places : ℕ) (old new : RingState) : Type 0 where
  pub entries : (t : ℕ) → record_at new.cells.items t ≡ change (record_at old.cells.items t)
  pub as_many : length new.cells.items ≡ places
  pub made : new.made ≡ old.made
  pub within : old.made ≤ length old.cells.items
  pub accesses : new.cells.accesses ≡ old.cells.accesses + 2 * old.made

-- links for this many slots and positions have another's records and bits, and its window with the new positions at the
-- cursor. Each record that was made and each old position was read and written
pub record GrowsLinks (cursor slots window : ℕ) (old new : LinkState) : Type 0 where
  pub records : (t : ℕ) → record_at new.records.items t ≡ moved_record cursor (window - length old.window.items) (record_at old.records.items t)
  pub bits : (t : ℕ) → bit_at new t ≡ bit_at old t
  pub positions : new.window.items ≡ with_gap cursor (window - length old.window.items) None old.window.items
  pub as_many : length new.records.items ≡ slots
  pub made : new.made ≡ old.made
  pub within : old.made ≤ length old.records.items
  pub inspections : new.bits.inspections ≡ old.bits.inspections
  pub accesses : accesses_of new ≡ accesses_of old + 2 * old.made + 2 * length old.window.items
