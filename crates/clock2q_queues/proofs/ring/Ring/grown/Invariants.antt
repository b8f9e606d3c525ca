use Rattle.std.proofs.Common.{◌≡◌, ◌+◌, ◌*◌, ◌≤◌, take, vec_capacity}
use Rattle.clock2q_queues.proofs.ring.Ring.grown.Given as goal

abbrev pub ghost-raise : goal.ghost-raise
ghost-raise g a = a.seen.now.total

abbrev pub invariant-loop-entry : goal.invariant-loop-entry
invariant-loop-entry g l = record {
  copied : l.entries.items ≡ take l.entry-index l.entry-items;
  counted : l.accesses.total ≡ l.self.cells.accesses + 2 * l.entry-index;
  enough : l.places ≤ vec_capacity l.entries;
}
