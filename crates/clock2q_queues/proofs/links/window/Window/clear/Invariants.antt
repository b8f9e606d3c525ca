use Rattle.clock2q_queues.proofs.Names.{◌≡◌, ◌+◌, take, length, replicate, no_slot}
use Rattle.clock2q_queues.proofs.links.window.Window.clear.Given as goal

abbrev pub invariant-loop-at : goal.invariant-loop-at
invariant-loop-at g l = record {
  front : take l.at l.numbers ≡ replicate l.at no_slot;
  as_many : length l.numbers ≡ length l.fn.self.items;
  counted : l.accesses.total ≡ l.fn.self.accesses + l.at;
}
