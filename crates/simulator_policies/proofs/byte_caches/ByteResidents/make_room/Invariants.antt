-- The entries that are left have those that fit, and the room for others.
use Rattle.std.proofs.Common.{◌≡◌, ◌-◌, ◌≤◌}
use Rattle.simulator_policies.specs.ByteCaches.{fitting}
use Rattle.simulator_policies.specs.ByteResidents.{entries_by, IsByteHolding}
use Rattle.simulator_policies.proofs.byte_caches.ByteResidents.make_room.Given as goal

abbrev pub invariant-loop-self : goal.invariant-loop-self
invariant-loop-self g l = record {
  holding : IsByteHolding l.trace l.at l.self;
  stamps : l.self.stamps ≡ l.initial.self.stamps;
  sizes : l.self.sizes ≡ l.initial.self.sizes;
  order : l.initial.self.left ≤ l.self.left;
  fits : fitting l.room (entries_by l.trace l.at l.self) ≡ fitting l.room (entries_by l.trace l.at l.initial.self);
}

abbrev pub decreases-loop-self : goal.decreases-loop-self
decreases-loop-self g l = l.at - l.self.left
