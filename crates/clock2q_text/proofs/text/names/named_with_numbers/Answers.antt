use Rattle.std.proofs.Common.{rules}
use Rattle.clock2q_text.proofs.Calling.{call-put, call-get, call-peek, call-contains, call-get_at, call-set, call-with, call-try, call-slot, call-remove}
use Rattle.clock2q_text.proofs.text.names.named_with_numbers.Goals as goal

pub returns-then-eq : goal.returns-then-eq
returns-then-eq g c = search (rules, call-put)

pub returns-then-eq-2 : goal.returns-then-eq-2
returns-then-eq-2 g c = search (rules, call-get)

pub returns-then-eq-3 : goal.returns-then-eq-3
returns-then-eq-3 g c = search (rules, call-peek)

pub returns-then-eq-4 : goal.returns-then-eq-4
returns-then-eq-4 g c = search (rules, call-contains)

pub returns-then-eq-5 : goal.returns-then-eq-5
returns-then-eq-5 g c = search (rules, call-get_at)

pub returns-then-eq-6 : goal.returns-then-eq-6
returns-then-eq-6 g c = search (rules, call-set)

pub returns-then-eq-7 : goal.returns-then-eq-7
returns-then-eq-7 g c = search (rules, call-with)

pub returns-then-eq-8 : goal.returns-then-eq-8
returns-then-eq-8 g c = search (rules, call-try)

pub returns-then-eq-9 : goal.returns-then-eq-9
returns-then-eq-9 g c = search (rules, call-slot)

pub returns-then-eq-10 : goal.returns-then-eq-10
returns-then-eq-10 g c = search (rules, call-remove)
