-- Small as a list of slots with their ages, newest first, and how an admission changes it.
use Rattle.std.specs.Prelude.{◌≡◌, ℕ, ◌+◌, ◌-◌, ◌^◌, ◌<◌, Bool, true, false, nat_lt, ◌==◌, if◌then◌else◌, List, ◌∷◌, map, length, Option, Some, None, nat_eq}
use Rattle.std.specs.List.{last_or, list_any}
use Rattle.clock2q_machine.specs.Ages as ages
use Rattle.clock2q_machine.specs.Ages.{Age, grown_older, touched}
use Rattle.clock2q_queues.specs.Links.{LinkState, IsQueue, end_of, slots_from, next_at, previous_at, location_at, bit_at, young_at}
use Rattle.clock2q_queues.specs.declared.entries.Location.{Location}
use Rattle.clock2q_queues.specs.declared.entries.Location.TheVariants.{Free, SmallYoung, SmallOld, Main}
use Rattle.clock2q_queues.specs.declared.small.Small.{Small}

-- the position after the cursor's: the next one, or the first one after the last
abbrev pub next_cursor : ℕ → ℕ → ℕ
next_cursor window cursor = if nat_lt (cursor + 1) window then cursor + 1 else 0

-- the number of admissions after the one at a position: each moves the cursor on by one
abbrev pub admissions_since : ℕ → ℕ → ℕ → ℕ
admissions_since window cursor position = if nat_lt position cursor then cursor - 1 - position else cursor + window - 1 - position

-- the age of a slot of Small, by its location and its bit
abbrev pub age_of : ℕ → ℕ → Location → Bool → Age
age_of window cursor (SmallYoung position) bit = ages.Young (admissions_since window cursor position)
age_of window cursor SmallOld bit = ages.Old bit
age_of window cursor Free bit = ages.Old bit
age_of window cursor Main bit = ages.Old bit

abbrev pub age_at : LinkState → ℕ → ℕ → Age
age_at l cursor slot = age_of (length l.window.items) cursor (location_at l.records.items slot) (bit_at l slot)

-- the slots of Small, newest first
abbrev pub small_slots : LinkState → Small → List ℕ
small_slots l small = slots_from l.records.items (end_of small.len small.newest) small.len

-- the same, each with its age
abbrev pub small_entries : LinkState → Small → List (ℕ × Age)
small_entries l small = map (λ s. (s, age_at l small.cursor s)) (small_slots l small)

-- a slot with this location is in Small
abbrev pub IsInSmall : Location → Type 0
IsInSmall (SmallYoung position) = Unit {0}
IsInSmall SmallOld = Unit {0}
IsInSmall Free = ⊥
IsInSmall Main = ⊥

-- these slots are Small's, their locations say so, and the window's positions hold the young ones
pub record IsSmall (l : LinkState) (small : Small) (slots : List ℕ) : Type 0 where
  pub queue : IsQueue l.records.items (end_of small.len small.newest) small.len slots
  pub ends : end_of small.len small.oldest ≡ last_or None slots
  pub location : (t : ℕ) → list_any (nat_eq t) slots ≡ true → IsInSmall (location_at l.records.items t)
  pub placed : (t position : ℕ) → list_any (nat_eq t) slots ≡ true → location_at l.records.items t ≡ SmallYoung position → (position < length l.window.items) × (young_at l position ≡ Some t)
  pub occupied : (position t : ℕ) → young_at l position ≡ Some t → (list_any (nat_eq t) slots ≡ true) × (location_at l.records.items t ≡ SmallYoung position)
  pub cursor_in : 0 < length l.window.items → small.cursor < length l.window.items
  pub countable_positions : length l.window.items < 2 ^ 32

-- the links represent Small
abbrev pub IsSmallQueue : LinkState → Small → Type 0
IsSmallQueue l small = IsSmall l small (small_slots l small)

-- a new slot is first, and all young ones grow older
abbrev pub admitted : ℕ → ℕ → List (ℕ × Age) → List (ℕ × Age)
admitted window slot small = (slot, ages.Young 0) ∷ map (λ e. (e.0, grown_older window e.1)) small

-- after a hit on a slot
abbrev pub small_hit_at : ℕ → List (ℕ × Age) → List (ℕ × Age)
small_hit_at slot small = map (λ e. if e.0 == slot then (e.0, touched e.1) else e) small

-- whether this slot is there
abbrev pub is_there : Option ℕ → ℕ → Bool
is_there None slot = false
is_there (Some there) slot = slot == there

-- the slot at the cursor, if there is one, became old with a clear bit
pub record GrowsOld (cursor : ℕ) (old new : LinkState) : Type 0 where
  pub nexts : (t : ℕ) → next_at new.records.items t ≡ next_at old.records.items t
  pub previouses : (t : ℕ) → previous_at new.records.items t ≡ previous_at old.records.items t
  pub locations : (t : ℕ) → location_at new.records.items t ≡ (if is_there (young_at old cursor) t then SmallOld else location_at old.records.items t)
  pub bits : (t : ℕ) → bit_at new t ≡ (if is_there (young_at old cursor) t then false else bit_at old t)
  pub as_many : length new.records.items ≡ length old.records.items
  pub positions : new.window.items ≡ old.window.items
  pub inspections : new.bits.inspections ≡ old.bits.inspections
