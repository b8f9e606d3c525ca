-- The hits so far are those of the capacities so far.
use Rattle.std.proofs.Common.{◌≡◌, map, take}
use Rattle.std.specs.NonZero.{non_zero_usize_get}
use Rattle.simulator_policies.specs.declared.plain.PlainPolicy.TheVariants.{LeastRecentlyUsed}
use Rattle.simulator_policies.specs.Policies.{plain_hits}
use Rattle.simulator_policies.proofs.lru_curve.lru_hits_at.Given as goal

abbrev pub invariant-loop-capacity : goal.invariant-loop-capacity
invariant-loop-capacity g l = l.hits.items ≡ map (λ capacity. plain_hits LeastRecentlyUsed (non_zero_usize_get capacity) l.fn.trace) (take l.capacity-index l.capacities)
