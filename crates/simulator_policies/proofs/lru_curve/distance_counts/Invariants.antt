-- The accesses so far are counted by their distances, and with the hits to come those of each capacity are all hits.
use Rattle.std.proofs.Common.{◌≡◌, ℕ, ◌+◌, ◌<◌, ◌≤◌, length, take, drop}
use Rattle.clock2q_machine.specs.Hits.{hits, is_in}
use Rattle.simulator_policies.specs.declared.plain.PlainPolicy.TheVariants.{LeastRecentlyUsed}
use Rattle.simulator_policies.specs.Policies.{plain_after, plain_hits}
use Rattle.simulator_policies.specs.LastAccesses.{recent_by, IsCounting}
use Rattle.simulator_policies.proofs.Curve.{sum_to}
use Rattle.simulator_policies.proofs.lru_curve.distance_counts.Given as goal

abbrev pub invariant-loop-at : goal.invariant-loop-at
invariant-loop-at g l = record {
  counting : IsCounting l.trace l.at l.accesses;
  long : length l.counts.items ≡ length (recent_by l.trace l.at l.accesses);
  few : (n : ℕ) → sum_to l.counts.items n ≤ l.at;
  so_far : (capacity : ℕ) → 0 < capacity →
      sum_to l.counts.items capacity + hits is_in (plain_after LeastRecentlyUsed capacity) (drop l.at l.trace)
      (take capacity (recent_by l.trace l.at l.accesses)) ≡ plain_hits LeastRecentlyUsed capacity l.trace;
}
