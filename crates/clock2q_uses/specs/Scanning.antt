-- The keys of a scan, each put with itself as its value, and what it leaves of the residents.
use Rattle.std.specs.Prelude.{◌≡◌, ◌⊎◌, ℕ, List, map, eqb, Some, None}
use Rattle.clock2q_machine.specs.Calls.{Call}
use Rattle.clock2q_machine.specs.Machine.{Machine, slot_of, value_of}
use Rattle.clock2q_machine.specs.Scans.{scan}

abbrev pub puts_of : List ℕ → List (ℕ × ℕ)
puts_of keys = map (λ k. (k, k)) keys

abbrev pub calls_of : List ℕ → List (Call ℕ ℕ)
calls_of keys = scan (puts_of keys)

-- each resident is gone, or has the slot and the value that it had
abbrev pub LeavesOrStays : Machine ℕ ℕ → Machine ℕ ℕ → Type 0
LeavesOrStays old new = (key slot : ℕ) → slot_of (eqb key) old ≡ Some slot → (slot_of (eqb key) new ≡ None) ⊎ ((slot_of (eqb key) new ≡ Some slot) × (value_of (eqb key) new ≡ value_of (eqb key) old))
