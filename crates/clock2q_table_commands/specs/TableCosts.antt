-- What commands to a handle table cost, if the table has room for them: the slots that they read and write.
use Rattle.std.specs.Prelude.{ℕ, ◌+◌, ◌≤◌, Bool, if◌then◌else◌, is_some, List, [], ◌∷◌, length}
use Rattle.std.specs.declared.vec.Vec.{Vec}
use Rattle.clock2q_handles.specs.Changes.{WritesAtMost, ReadsAtMost}
use Rattle.clock2q_handles.specs.Homes.{candidates, capacity, total, with_handle, without_handle}
use Rattle.clock2q_handles.specs.Layout.{layout, run, walk}
use Rattle.clock2q_handles.specs.TableStep.{TableValue, HasSpare}
use Rattle.clock2q_table_commands.specs.TableCommands.{first_accepted}
use Rattle.clock2q_table_commands.specs.declared.table_commands.TableCommand.{TableCommand}
use Rattle.clock2q_table_commands.specs.declared.table_commands.TableCommand.TheVariants.{Insert, Remove, Find, Reserve, Get}

-- a call wrote at most w slots, and read at most n beside as many as it wrote
pub record Spends {H : Type 0} (w n : ℕ) (old new : TableValue H) : Type 0 where
  pub writes : WritesAtMost w old new
  pub reads : ReadsAtMost n old new

module _ {H A : Type 0} where
  -- the table has room for a command: it need not grow, and no run becomes too long
  abbrev pub HasRoomFor : TableCommand H (Vec H A) → List (List (ℕ × H)) → Type 0
  HasRoomFor (Insert v) homes = HasSpare homes
  HasRoomFor (Remove x v) homes = Unit {0}
  HasRoomFor (Find v accepted) homes = HasSpare homes
  HasRoomFor (Reserve n) homes = total homes + n ≤ capacity (length homes)
  HasRoomFor (Get x) homes = Unit {0}

module _ {H A : Type 0} (key : H → ℕ) where
  -- the most slots that it writes then: its run, and one more if it may insert
  abbrev pub most_written : TableCommand H (Vec H A) → List (List (ℕ × H)) → ℕ
  most_written (Insert v) homes = run (layout homes) (key v) + 1
  most_written (Remove x v) homes = run (layout homes) x
  most_written (Find v accepted) homes = run (layout homes) (key v) + 1
  most_written (Reserve n) homes = 0
  most_written (Get x) homes = 0

  -- and the most that it reads beside as many: its walk. What a lookup reads its candidates count, and not the table
  abbrev pub most_walked : TableCommand H (Vec H A) → List (List (ℕ × H)) → ℕ
  most_walked (Insert v) homes = walk homes (key v)
  most_walked (Remove x v) homes = walk homes x
  most_walked (Find v accepted) homes = walk homes (key v)
  most_walked (Reserve n) homes = 0
  most_walked (Get x) homes = 0

module _ {H A : Type 0} (eq : H → H → Bool) (key : H → ℕ) where
  -- the lists that it leaves then
  abbrev pub left_by : TableCommand H (Vec H A) → List (List (ℕ × H)) → List (List (ℕ × H))
  left_by (Insert v) homes = with_handle homes (key v) v
  left_by (Remove x v) homes = without_handle eq homes x v
  left_by (Find v accepted) homes = if is_some (first_accepted eq accepted.items (candidates homes (key v))) then homes else with_handle homes (key v) v
  left_by (Reserve n) homes = homes
  left_by (Get x) homes = homes

  -- the table has room for each of the commands, on what the one before left
  abbrev pub HaveRoom : List (TableCommand H (Vec H A)) → List (List (ℕ × H)) → Type 0
  HaveRoom [] homes = Unit {0}
  HaveRoom (command ∷ commands) homes = HasRoomFor command homes × HaveRoom commands (left_by command homes)

  -- the sum of a bound over the commands, each on what the one before left
  abbrev pub summed : (TableCommand H (Vec H A) → List (List (ℕ × H)) → ℕ) → List (TableCommand H (Vec H A)) → List (List (ℕ × H)) → ℕ
  summed most [] homes = 0
  summed most (command ∷ commands) homes = most command homes + summed most commands (left_by command homes)
