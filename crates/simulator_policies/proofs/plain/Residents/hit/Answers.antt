use Rattle.std.proofs.Common.{refl}
use Rattle.simulator_policies.proofs.Holding.{moved, holds-moved}
use Rattle.simulator_policies.proofs.plain.Residents.hit.Goals as goal

pub returns-in-LeastRecentlyUsed-clause-held : goal.returns-in-LeastRecentlyUsed-clause-held
returns-in-LeastRecentlyUsed-clause-held g c = rw c.in-LeastRecentlyUsed.is (moved _ _ _ c.args.self.now c.requires.holding c.requires.at)

pub returns-in-LeastRecentlyUsed-clause-holding : goal.returns-in-LeastRecentlyUsed-clause-holding
returns-in-LeastRecentlyUsed-clause-holding g c = holds-moved _ _ _ c.args.self.now c.requires.holding c.requires.at _ refl refl refl c.requires.held
