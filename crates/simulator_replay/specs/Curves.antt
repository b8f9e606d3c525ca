-- The hits of a policy at many capacities.
use Rattle.std.specs.Prelude.{◌≡◌, ℕ, ◌-◌, ◌<◌, List, get_or, length, map, take}
use Rattle.std.specs.NonZero.{non_zero_usize_get}
use Rattle.std.specs.declared.num.NonZeroUsize.{NonZeroUsize}
use Rattle.clock2q_machine.specs.Optimum.{optimal_hits}
use Rattle.simulator_policies.specs.declared.plain.PlainPolicy.TheVariants as plain
use Rattle.simulator_policies.specs.Policies.{plain_hits}
use Rattle.simulator_replay.specs.declared.curve.Curve.{Curve}
use Rattle.simulator_replay.specs.declared.curve.Curve.TheVariants.{LeastRecentlyUsed, Optimal}

-- the hits of a trace at one capacity
abbrev pub curve_hits : Curve → ℕ → List ℕ → ℕ
curve_hits LeastRecentlyUsed = plain_hits plain.LeastRecentlyUsed
curve_hits Optimal = optimal_hits

module _ (hits : ℕ → List ℕ → ℕ) (skipped : ℕ) (numbers : List ℕ) where
  -- the hits after the first accesses: all hits minus those of a cache that sees only the first accesses
  abbrev pub hits_after : ℕ → ℕ
  hits_after room = hits room numbers - hits room (take skipped numbers)

  -- the hits are those at the first capacities, in order
  abbrev pub AreHitsAt : List NonZeroUsize → List ℕ → Type 0
  AreHitsAt capacities counted = (place : ℕ) → place < length counted → get_or counted place 0 ≡ hits_after (get_or (map non_zero_usize_get capacities) place 0)
