-- The hits so far are those after the first accesses.
use Rattle.std.proofs.Common.{◌≡◌, ◌+◌, ◌≤◌, take}
use Rattle.clock2q_machine.specs.Hits.{hit_count}
use Rattle.simulator_replay.proofs.row.hits_in_block.Given as goal

abbrev pub invariant-loop-index : goal.invariant-loop-index
invariant-loop-index l = record {
  few : l.hits + l.first ≤ l.index;
  counted : l.hits + hit_count (take l.first l.outcomes) ≡ hit_count (take l.index l.outcomes);
}
