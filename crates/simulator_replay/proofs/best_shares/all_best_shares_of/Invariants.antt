-- The best shares so far are those of the rows so far.
use Rattle.std.proofs.Common.{◌≡◌, map, take}
use Rattle.std.specs.List.{All}
use Rattle.std.specs.NonZero.{non_zero_usize_get}
use Rattle.simulator_replay.specs.BestShares.{AreBest}
use Rattle.simulator_replay.proofs.best_shares.all_best_shares_of.Given as goal

abbrev pub invariant-loop-row : goal.invariant-loop-row
invariant-loop-row g l = record {
  capacities : map (λ best. non_zero_usize_get best.capacity) l.all.items ≡ map (λ row. non_zero_usize_get row.capacity) (take l.row-index l.rows);
  each : All (λ best. AreBest l.fn.skipped l.fn.trace.numbers (non_zero_usize_get best.capacity) l.fn.tried best) l.all.items;
}
