-- The hits so far are those of their policies, in order.
use Rattle.std.proofs.Common.{◌≡◌, length, map, take}
use Rattle.std.specs.List.{All}
use Rattle.std.specs.NonZero.{non_zero_usize_get}
use Rattle.simulator_replay.specs.RowBytes.{AreBytes}
use Rattle.simulator_replay.specs.Rows.{AreHitsAfter}
use Rattle.simulator_traces.specs.Trace.{sizes_of}
use Rattle.simulator_replay.proofs.row.replay_with_known.Given as goal

abbrev pub invariant-loop-policy : goal.invariant-loop-policy
invariant-loop-policy g l = record {
  policies : map (λ h. h.policy) l.hits.items ≡ take l.policy-index l.policies;
  bytes : All (λ h. AreBytes l.fn.shares l.fn.trace.numbers (sizes_of l.fn.trace) (non_zero_usize_get l.fn.capacity) l.fn.skipped (length l.fn.trace.numbers) h.policy h.bytes) l.hits.items;
  hits : All (λ h. AreHitsAfter l.fn.skipped l.fn.shares l.fn.trace.numbers (non_zero_usize_get l.fn.capacity) h.policy h.hits) l.hits.items;
}
