use Rattle.clock2q_queues.proofs.Names.{◌≡◌, ◌+◌, cells_state}
use Rattle.clock2q_queues.proofs.NextVictim.{Walks}
use Rattle.clock2q_queues.proofs.main_queue.Main.victim.Given as goal

-- the bits of the slots that were passed are set, and each was one access
abbrev pub invariant-loop : goal.invariant-loop
invariant-loop g l = record {
  walk : Walks l.fn.links l.self l.hand l.slot l.counter;
  links : l.links ≡ record l.fn.links { records = cells_state l.fn.links.records.items (l.fn.links.records.accesses + l.counter) };
}
