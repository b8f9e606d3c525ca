-- A home's slots and list, by any hash of it, and where a table's entries are.
use Rattle.std.proofs.Common.{◌≡◌, ℕ, ◌+◌, ◌%◌, ◌<◌, arith, List, length, Option}
use Rattle.std.proofs.lemmas.List.{get_or_past}
use Rattle.std.proofs.Math.Nat.{mod-mod, mod-add-mod}
use Rattle.clock2q_handles.specs.Homes.{listed}
use Rattle.clock2q_handles.specs.Layout.{Placed, slot_at, homes_of}
use Rattle.clock2q_handles.specs.Table.{IsTable}
use Rattle.clock2q_handles.specs.TableStep.{table_value}
use Rattle.clock2q_handles.specs.Changes.{IsLaidOut}
use Rattle.clock2q_handles.proofs.layout.TidyLayout.{length-homes_of, tidy-layout, tidy-room}
use Rattle.clock2q_handles.proofs.layout.Placement.{best-placed}

module _ {E : Type 0} where
  -- the slots past a home are those past any hash of it
  pub past_home : (slots : List (Option (Placed E))) (m g x : ℕ) → length slots ≡ m → g ≡ x % m → (j : ℕ) → slot_at slots (g + j) ≡ slot_at slots (x + j)
  past_home slots m g x len at j = grind (arith, len, at, mod-add-mod x m j)

  -- a home's list, by any hash of it
  pub listed-home : (slots : List (Option (Placed E))) (g x : ℕ) → (0 < length slots → g ≡ x % length slots) → listed (homes_of slots) g ≡ listed (homes_of slots) x
  listed-home slots g x at = grind (arith, length-homes_of, mod-mod, get_or_past)

-- in the slots that its lists determine, a table's entries are placed as well as possible
pub table-laid : {H : Type 0} (slots : List (Option (Placed (ℕ × H)))) (len : ℕ) → IsTable slots len → (writes reads : ℕ) → IsLaidOut (table_value (homes_of slots) slots writes reads)
table-laid slots len table writes reads = record { laid = tidy-layout slots table.tidy; best = best-placed (homes_of slots) (tidy-room slots table.tidy) }

-- a home's list, by any hash of it
pub ruleset home_lists = (listed-home)
