use Rattle.std.proofs.Common.{arith}
use Rattle.clock2q_handles.proofs.walks.Cursors.{begins_empty}
use Rattle.clock2q_handles.proofs.walks.Yields.{left_at_start}
use Rattle.clock2q_handles.proofs.table.Table.get.Goals as goal

pub returns-then-count-eq0-clause-candidates : goal.returns-then-count-eq0-clause-candidates
returns-then-count-eq0-clause-candidates g c = grind (arith, begins_empty c.self.inside.slots.slots c.args.hash c.self.invariant.tidy, left_at_start c.self.inside.slots.slots c.args.hash)
