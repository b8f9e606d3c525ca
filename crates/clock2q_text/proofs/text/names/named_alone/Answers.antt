use Rattle.std.proofs.Common.{rules}
use Rattle.clock2q_text.proofs.Calling.{call-len, call-is_empty, call-capacity, call-clear}
use Rattle.clock2q_text.proofs.text.names.named_alone.Goals as goal

pub returns-then-eq : goal.returns-then-eq
returns-then-eq g c = search (rules, call-len)

pub returns-then-eq-2 : goal.returns-then-eq-2
returns-then-eq-2 g c = search (rules, call-is_empty)

pub returns-then-eq-3 : goal.returns-then-eq-3
returns-then-eq-3 g c = search (rules, call-capacity)

pub returns-then-eq-4 : goal.returns-then-eq-4
returns-then-eq-4 g c = search (rules, call-clear)
