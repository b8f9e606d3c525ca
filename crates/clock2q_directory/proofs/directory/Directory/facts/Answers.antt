use Rattle.clock2q_directory.proofs.Histories.{IsWholeHistory-from}
use Rattle.clock2q_directory.proofs.directory.Directory.facts.Goals as goal

pub returns-clause-whole : goal.returns-clause-whole
returns-clause-whole g c = rw (← c.self.view_is) (IsWholeHistory-from c.self.invariant)
