-- The slot at a position of the window, or none, as one number.
use Rattle.std.specs.Prelude.{ℕ, nat_eq, if◌then◌else◌, Option, None, Some}

-- what a free position holds
abbrev pub no_slot : ℕ
no_slot = 4294967295

-- the slot at a position that holds this number
abbrev pub slot_of : ℕ → Option ℕ
slot_of number = if nat_eq number no_slot then None else Some number
