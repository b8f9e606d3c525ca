-- The replays so far are those of their policies, in order.
use Rattle.std.proofs.Common.{◌≡◌, map, take}
use Rattle.std.specs.List.{All}
use Rattle.std.specs.NonZero.{non_zero_usize_get}
use Rattle.simulator_replay.specs.Rows.{IsReplay}
use Rattle.simulator_replay.proofs.window.replays_of.Given as goal

abbrev pub invariant-loop-policy : goal.invariant-loop-policy
invariant-loop-policy g l = record {
  policies : map (λ replay. replay.policy) l.replays.items ≡ take l.policy-index l.policies;
  each : All (λ replay. IsReplay l.fn.shares l.fn.trace.numbers (non_zero_usize_get l.fn.capacity) replay.policy replay.outcomes.items) l.replays.items;
}
