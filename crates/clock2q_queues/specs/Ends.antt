-- What changes in the window when a slot leaves Small.
use Rattle.std.specs.Prelude.{ℕ, Option, None}
use Rattle.clock2q_queues.specs.Cells.{CellsState, written}
use Rattle.clock2q_queues.specs.Links.{LinkState}
use Rattle.clock2q_queues.specs.declared.entries.Location.{Location}
use Rattle.clock2q_queues.specs.declared.entries.Location.TheVariants.{Free, SmallYoung, SmallOld, Main}

-- the window without the slot at this location
abbrev pub window_freed : Location → CellsState (Option ℕ) → CellsState (Option ℕ)
window_freed (SmallYoung position) w = written position None w
window_freed Free w = w
window_freed SmallOld w = w
window_freed Main w = w

-- the position of a young slot is emptied
abbrev pub position_freed : Location → LinkState → LinkState
position_freed location l = record l { window = window_freed location l.window }
