-- Pages in frames of memory: the frame of a page is the slot of its number.
use Rattle.std.specs.Prelude.{◌≡◌, ℕ, eqb, Option, Some, slice_get}
use Rattle.std.specs.Option.{option_and_then}
use Rattle.clock2q_machine.specs.Machine.{Machine, slot_of}

-- the frame that a page is in, if it is in memory
abbrev pub resident_frame : {V : Type 0} → Machine ℕ V → ℕ → Option ℕ
resident_frame m page = slot_of (eqb page) m

-- the page that got the frame last, which is the value there
abbrev pub last_in : Machine ℕ (Option ℕ) → ℕ → Option ℕ
last_in m frame = option_and_then (λ last. last) (slice_get m.values frame)

-- the page was the last one that got the frame
abbrev pub IsLoaded : Machine ℕ (Option ℕ) → ℕ → ℕ → Type 0
IsLoaded m page frame = slice_get m.values frame ≡ Some (Some page)
