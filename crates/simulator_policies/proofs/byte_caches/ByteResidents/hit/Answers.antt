use Rattle.std.proofs.Common.{refl}
use Rattle.simulator_policies.proofs.ByteHolding.{byte-holds-moved, byte-moved}
use Rattle.simulator_policies.proofs.byte_caches.ByteResidents.hit.Goals as goal

pub returns-in-LeastRecentlyUsed-clause-held : goal.returns-in-LeastRecentlyUsed-clause-held
returns-in-LeastRecentlyUsed-clause-held g c = rw c.in-LeastRecentlyUsed.is (byte-moved _ _ c.args.self.now c.requires.holding c.requires.at c.requires.held)

pub returns-in-LeastRecentlyUsed-clause-holding : goal.returns-in-LeastRecentlyUsed-clause-holding
returns-in-LeastRecentlyUsed-clause-holding g c = byte-holds-moved _ _ c.args.self.now c.requires.holding c.requires.at c.requires.held _ refl refl refl refl
