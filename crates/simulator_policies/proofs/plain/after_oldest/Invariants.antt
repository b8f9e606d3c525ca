-- None of the indices so far is in the list.
use Rattle.std.proofs.Common.{◌≡◌}
use Rattle.simulator_policies.specs.Stamps.{held_at}
use Rattle.simulator_policies.proofs.plain.after_oldest.Given as goal

abbrev pub invariant-loop-index : goal.invariant-loop-index
invariant-loop-index l = held_at l.trace l.stamps l.index l.at ≡ held_at l.trace l.stamps l.left l.at
