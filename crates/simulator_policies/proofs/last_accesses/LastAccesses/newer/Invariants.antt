-- The last accesses so far and those of the blocks behind are counted.
use Rattle.std.proofs.Common.{◌≡◌, ◌+◌, ◌-◌, ◌≤◌}
use Rattle.simulator_policies.specs.CountTree.{sum_in, count_of}
use Rattle.simulator_policies.specs.LastAccesses.{newest}
use Rattle.simulator_policies.proofs.last_accesses.LastAccesses.newer.Given as goal

abbrev pub invariant-loop-index : goal.invariant-loop-index
invariant-loop-index g l = record {
  so_far : l.count ≡ sum_in (newest l.trace l.self.stamps.items) l.from (l.index - l.from) + sum_in (count_of l.self.counts) l.block (l.self.counts.blocks - l.block);
  few : l.count + l.edge ≤ l.at + (l.index - l.from);
}
