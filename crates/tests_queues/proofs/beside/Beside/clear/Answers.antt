use Rattle.tests_queues.proofs.Residents.{cleared-alone}
use Rattle.tests_queues.proofs.beside.Beside.clear.Goals as goal

pub invariant_of-self : goal.invariant_of-self
invariant_of-self g c = cleared-alone c.self.invariant c.clear.ensures.history c.clear.ensures.residents
