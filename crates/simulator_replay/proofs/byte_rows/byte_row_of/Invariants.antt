-- The hits so far are those of the policies so far that are defined, in order.
use Rattle.std.proofs.Common.{◌≡◌, map, take}
use Rattle.std.specs.List.{All, filter}
use Rattle.std.specs.NonZero.{non_zero_usize_get}
use Rattle.simulator_interface.specs.PolicyNames.{has_bytes}
use Rattle.simulator_replay.specs.ByteRows.{AreByteHits}
use Rattle.simulator_traces.specs.Trace.{sizes_of}
use Rattle.simulator_replay.proofs.byte_rows.byte_row_of.Given as goal

abbrev pub invariant-loop-policy : goal.invariant-loop-policy
invariant-loop-policy g l = record {
  policies : map (λ h. h.policy) l.hits.items ≡ filter has_bytes (take l.policy-index l.policies);
  hits : All (λ h. AreByteHits l.fn.skipped l.fn.trace.numbers (sizes_of l.fn.trace) (non_zero_usize_get l.fn.capacity) h.policy h.hits h.bytes) l.hits.items;
}
