-- Pages of a file in frames of memory.
use Rattle.std.specs.Prelude.{◌≡◌, ℕ, List, Option, slice_get}
use Rattle.clock2q_machine.specs.Machine.{Machine}
use Rattle.clock2q_pages.specs.Pages.{IsLoaded}

-- each loaded page is in its frame as it is in the file
abbrev pub AreLoaded : {T : Type 0} → List T → Machine ℕ (Option ℕ) → List T → Type 0
AreLoaded file m frames = (page frame : ℕ) → IsLoaded m page frame → slice_get frames frame ≡ slice_get file page
