-- Each handle so far is below the count.
use Rattle.std.proofs.Common.{◌<◌, All}
use Rattle.clock2q_bench.proofs.tables.append_order.Given as goal

abbrev pub invariant-loop-i : goal.invariant-loop-i
invariant-loop-i l = All (λ at. at < l.count) l.order.items
