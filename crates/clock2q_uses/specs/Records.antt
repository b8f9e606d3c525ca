-- Caches whose values are all records of a file.
use Rattle.std.specs.Prelude.{◌≡◌, ℕ, List, eqb, Some, slice_get}
use Rattle.clock2q_machine.specs.Machine.{Machine, value_of}

-- each resident number has its record
abbrev pub HoldsRecords : {T : Type 0} → List T → Machine ℕ T → Type 0
HoldsRecords {T} file m = (number : ℕ) (kept : T) → value_of (eqb number) m ≡ Some kept → slice_get file number ≡ Some kept
