-- The hits so far are those of their replays, in order.
use Rattle.std.proofs.Common.{◌≡◌, map, take}
use Rattle.simulator_replay.specs.Windows.{counted}
use Rattle.simulator_replay.proofs.window.row_between.Given as goal

abbrev pub invariant-loop-replay : goal.invariant-loop-replay
invariant-loop-replay g l = l.hits.items ≡ map (counted l.fn.first l.fn.last l.sizes) (take l.replay-index l.replays)
