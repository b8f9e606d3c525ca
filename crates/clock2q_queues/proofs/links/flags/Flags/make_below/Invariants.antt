-- Only free flags were made.
use Rattle.clock2q_queues.proofs.Names.{◌≡◌, ◌-◌, ◌≤◌, length, vec_capacity, all_flags, made_below}
use Rattle.clock2q_queues.proofs.links.flags.Flags.make_below.Given as goal

abbrev pub invariant-loop-self : goal.invariant-loop-self
invariant-loop-self g l = record {
  same : all_flags l.self-inside.flags.items l.self-inside.slots ≡ l.fn.self.items;
  more : l.fn.self.made ≤ length l.self-inside.flags.items;
  fewest : length l.self-inside.flags.items ≤ made_below l.bound l.fn.self.made;
  within : length l.self-inside.flags.items ≤ l.self-inside.slots;
  enough : l.self-inside.slots ≤ vec_capacity l.self-inside.flags;
}

abbrev pub decreases-loop-self : goal.decreases-loop-self
decreases-loop-self g l = l.bound - length l.self-inside.flags.items
