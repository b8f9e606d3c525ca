-- The hits so far are those of the capacities so far.
use Rattle.std.proofs.Common.{◌≡◌, map, take}
use Rattle.std.specs.NonZero.{non_zero_usize_get}
use Rattle.clock2q_machine.specs.Optimum.{optimal_hits}
use Rattle.simulator_policies.proofs.optimal.optimal_hits_at.Given as goal

abbrev pub invariant-loop-capacity : goal.invariant-loop-capacity
invariant-loop-capacity g l = l.hits.items ≡ map (λ capacity. optimal_hits (non_zero_usize_get capacity) l.fn.trace) (take l.capacity-index l.capacities)
