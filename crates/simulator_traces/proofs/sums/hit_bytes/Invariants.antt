-- The bytes so far and those of the hits to come are all.
use Rattle.std.proofs.Common.{◌≡◌, ◌+◌, ◌-◌, ◌^◌, ◌≤◌}
use Rattle.simulator_traces.specs.Bytes.{between, capped, hit_between, hit_bytes}
use Rattle.simulator_traces.proofs.sums.hit_bytes.Given as goal

abbrev pub invariant-loop-index : goal.invariant-loop-index
invariant-loop-index l = record {
  few : l.bytes ≤ 2 ^ 64 - 1;
  all : capped (l.bytes + hit_bytes (between l.index l.last l.outcomes) (between l.index l.last l.sizes)) ≡ hit_between l.first l.last l.outcomes l.sizes;
}
