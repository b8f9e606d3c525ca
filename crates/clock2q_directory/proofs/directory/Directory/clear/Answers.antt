use Rattle.clock2q_directory.proofs.Histories.{IsHistory-cleared}
use Rattle.clock2q_directory.proofs.directory.Directory.clear.Goals as goal

pub invariant_of-self : goal.invariant_of-self
invariant_of-self g c = rw c.clear-2.ensures.cleared (IsHistory-cleared c.self.invariant c.clear-3.ensures.whole c.clear-3.ensures.order c.clear-3.ensures.keys)
