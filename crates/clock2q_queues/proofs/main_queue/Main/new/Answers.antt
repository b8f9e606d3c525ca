use Rattle.clock2q_queues.proofs.Main.{IsMainQueue-empty}
use Rattle.clock2q_queues.proofs.main_queue.Main.new.Goals as goal

pub returns-clause-whole : goal.returns-clause-whole
returns-clause-whole c = λ l h. IsMainQueue-empty l h
