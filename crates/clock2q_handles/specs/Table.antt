-- What holds of every table.
use Rattle.std.specs.Prelude.{◌≡◌, ℕ, ◌≤◌, List, length, Option}
use Rattle.clock2q_handles.specs.Homes.{total, capacity}
use Rattle.clock2q_handles.specs.Layout.{Placed, layout, homes_of, IsTidy, IsTooLong, AreNear}
use Rattle.clock2q_handles.specs.TableStep.{TableValue}
use Rattle.clock2q_handles.specs.Slots.{IsSlotCount}

-- the invariant of a table: its slots are tidy, a power of two of them or none, `len` counts its entries, and no entry is more than 2^24 - 2 past its home
pub record IsTable {H : Type 0} (slots : List (Option (Placed (ℕ × H)))) (len : ℕ) : Type 0 where
  pub tidy : IsTidy slots
  pub counted : len ≡ total (homes_of slots)
  pub slot_count : IsSlotCount (length slots)
  pub near : AreNear slots

-- what callers may rely on of every table: its slots are the layout of its lists, they are a power of two or none, at least a quarter of them is empty, and no run is too long
pub record IsWholeTable {H : Type 0} (t : TableValue H) : Type 0 where
  pub laid : t.slots ≡ layout t.homes
  pub slot_count : IsSlotCount (length t.homes)
  pub room : total t.homes ≤ capacity (length t.homes)
  pub short : IsTooLong t.homes → ⊥
