use Rattle.clock2q_queues.proofs.Names.{◌≡◌, ◌+◌, ◌*◌, ◌≤◌, take, map, vec_capacity, moved_record}
use Rattle.clock2q_queues.proofs.ring.Ring+Location+A.grown_past_gap.Given as goal

abbrev pub ghost-raise : goal.ghost-raise
ghost-raise g a = a.seen.now.total

abbrev pub invariant-loop-entry : goal.invariant-loop-entry
invariant-loop-entry g l = record {
  moved : l.entries.items ≡ map (moved_record l.cursor l.gap) (take l.entry-index l.entry-items);
  counted : l.accesses.total ≡ l.self.cells.accesses + 2 * l.entry-index;
  enough : l.slots ≤ vec_capacity l.entries;
}
