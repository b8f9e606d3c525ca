-- Only vacant entries were made, each with one access.
use Rattle.clock2q_queues.proofs.Names.{◌≡◌, ◌+◌, ◌-◌, ◌≤◌, length, map, vec_capacity, all_records, made_below, record_of}
use Rattle.clock2q_queues.proofs.ring.Ring.make_below.Given as goal

abbrev pub invariant-loop-self : goal.invariant-loop-self
invariant-loop-self g l = record {
  same : all_records (map (record_of g.T.Held.location_of) l.self-inside.entries.items) l.self-inside.places ≡ l.fn.self.cells.items;
  more : l.fn.self.made ≤ length l.self-inside.entries.items;
  fewest : length l.self-inside.entries.items ≤ made_below l.bound l.fn.self.made;
  counted : l.self-inside.accesses.total + l.fn.self.made ≡ l.fn.self.cells.accesses + length l.self-inside.entries.items;
  within : length l.self-inside.entries.items ≤ l.self-inside.places;
  enough : l.self-inside.places ≤ vec_capacity l.self-inside.entries;
}

abbrev pub decreases-loop-self : goal.decreases-loop-self
decreases-loop-self g l = l.bound - length l.self-inside.entries.items
