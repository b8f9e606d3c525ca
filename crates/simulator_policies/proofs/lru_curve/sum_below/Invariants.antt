-- The sum so far.
use Rattle.std.proofs.Common.{◌≡◌}
use Rattle.simulator_policies.proofs.Curve.{sum_to}
use Rattle.simulator_policies.proofs.lru_curve.sum_below.Given as goal

abbrev pub invariant-loop-index : goal.invariant-loop-index
invariant-loop-index l = l.sum ≡ sum_to l.counts l.index
