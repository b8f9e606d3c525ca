-- The best so far hit most of the usual shares and those so far.
use Rattle.std.proofs.Common.{◌≡◌, ◌≤◌, take}
use Rattle.std.specs.List.{All}
use Rattle.std.specs.Option.{IfSome}
use Rattle.std.specs.NonZero.{non_zero_usize_get}
use Rattle.simulator_replay.specs.BestShares.{AreFirst, HasNoMore, clock2q_hits_after}
use Rattle.simulator_replay.proofs.best_shares.best_shares_of.Given as goal

abbrev pub invariant-loop-shares : goal.invariant-loop-shares
invariant-loop-shares g l = record {
  no_fewer : l.usual ≤ l.most;
  hits : l.most ≡ clock2q_hits_after l.fn.skipped l.fn.trace.numbers (non_zero_usize_get l.fn.capacity) l.best;
  each : All (HasNoMore l.fn.skipped l.fn.trace.numbers (non_zero_usize_get l.fn.capacity) l.most) (take l.shares-index l.tried);
  first : IfSome l.best (AreFirst l.fn.skipped l.fn.trace.numbers (non_zero_usize_get l.fn.capacity) l.tried l.usual l.most);
}
