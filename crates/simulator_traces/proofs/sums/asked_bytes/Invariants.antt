-- The bytes so far and those to come are all.
use Rattle.std.proofs.Common.{◌≡◌, ◌+◌, ◌-◌, ◌^◌, ◌≤◌}
use Rattle.std.specs.List.{sum}
use Rattle.simulator_traces.specs.Bytes.{asked_between, between, capped}
use Rattle.simulator_traces.proofs.sums.asked_bytes.Given as goal

abbrev pub invariant-loop-index : goal.invariant-loop-index
invariant-loop-index l = record {
  few : l.bytes ≤ 2 ^ 64 - 1;
  all : capped (l.bytes + sum (between l.index l.last l.sizes)) ≡ asked_between l.first l.last l.sizes;
}
