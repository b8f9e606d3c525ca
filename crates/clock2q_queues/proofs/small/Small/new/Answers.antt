use Rattle.clock2q_queues.proofs.Window.{IsSmallQueue-empty}
use Rattle.clock2q_queues.proofs.small.Small.new.Goals as goal

pub returns-clause-whole : goal.returns-clause-whole
returns-clause-whole c = λ l b. IsSmallQueue-empty l b
