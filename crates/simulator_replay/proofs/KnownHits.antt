-- Hits that are known are those of a replay.
use Rattle.std.proofs.Common.{◌≡◌, ℕ, Bool, List, take, Option, Some, None, refl, sym, subst}
use Rattle.std.specs.Prelude.{IfSome}
use Rattle.clock2q_machine.specs.Optimum.{optimal_hits, optimal_outcomes}
use Rattle.simulator_policies.specs.declared.plain.PlainPolicy.TheVariants as plain
use Rattle.simulator_policies.specs.Policies.{plain_hits, plain_outcomes}
use Rattle.simulator_replay.specs.KnownHits.{AreKnown, known_of}
use Rattle.simulator_replay.specs.Rows.{AreHitsAfter, IsReplay}
use Rattle.simulator_replay.specs.declared.known_hits.KnownHits.{KnownHits}
use Rattle.simulator_interface.specs.declared.policy.Policy.{Policy}
use Rattle.simulator_interface.specs.declared.policy.Policy.TheVariants.{Clock2Q, Sieve, S3Fifo, LeastRecentlyUsed, Optimal, FirstInFirstOut, Clock, Arc, TwoQ, Lirs, Lru2, WTinyLfu}
use Rattle.simulator_interface.specs.declared.shares.ChosenShares.{ChosenShares}
use Rattle.simulator_replay.proofs.Replaying.{least_recent_is, optimal_is}

none-some : {X : Type 0} (x : X) → Some x ≡ None → ⊥
none-some x e = cc

of-some : {X : Type 0} (P : X → Type 0) (x : X) (o : Option X) → IfSome o P → Some x ≡ o → P x
of-some P x o if same = subst (λ z. IfSome z P) (sym same) if

module _ (shares : Option ChosenShares) (numbers : List ℕ) (room : ℕ) (known : KnownHits) {hits : ℕ} where
  -- the policy of known hits is one whose outcomes have a definition
  pub known-replay : (policy : Policy) → Some hits ≡ known_of known policy → (outcomes : List Bool) × IsReplay shares numbers room policy outcomes
  known-replay LeastRecentlyUsed is = (plain_outcomes plain.LeastRecentlyUsed room numbers, least_recent_is shares numbers room LeastRecentlyUsed (plain_outcomes plain.LeastRecentlyUsed room numbers) refl refl)
  known-replay Optimal is = (optimal_outcomes room numbers, optimal_is shares numbers room Optimal (optimal_outcomes room numbers) refl refl)
  known-replay Clock2Q is = absurd (none-some hits is)
  known-replay Sieve is = absurd (none-some hits is)
  known-replay S3Fifo is = absurd (none-some hits is)
  known-replay FirstInFirstOut is = absurd (none-some hits is)
  known-replay Clock is = absurd (none-some hits is)
  known-replay Arc is = absurd (none-some hits is)
  known-replay TwoQ is = absurd (none-some hits is)
  known-replay Lirs is = absurd (none-some hits is)
  known-replay Lru2 is = absurd (none-some hits is)
  known-replay WTinyLfu is = absurd (none-some hits is)

  -- and they are its hits after the first accesses
  pub known-hits : (skipped : ℕ) → AreKnown skipped numbers room known → (policy : Policy) → Some hits ≡ known_of known policy → AreHitsAfter skipped shares numbers room policy hits
  known-hits skipped are LeastRecentlyUsed is = record {
    all = plain_hits plain.LeastRecentlyUsed room numbers;
    before = plain_hits plain.LeastRecentlyUsed room (take skipped numbers);
    all_are = refl;
    before_are = refl;
    rest = of-some _ hits known.lru are.lru is;
  }
  known-hits skipped are Optimal is = record {
    all = optimal_hits room numbers;
    before = optimal_hits room (take skipped numbers);
    all_are = refl;
    before_are = refl;
    rest = of-some _ hits known.optimal are.optimal is;
  }
  known-hits skipped are Clock2Q is = absurd (none-some hits is)
  known-hits skipped are Sieve is = absurd (none-some hits is)
  known-hits skipped are S3Fifo is = absurd (none-some hits is)
  known-hits skipped are FirstInFirstOut is = absurd (none-some hits is)
  known-hits skipped are Clock is = absurd (none-some hits is)
  known-hits skipped are Arc is = absurd (none-some hits is)
  known-hits skipped are TwoQ is = absurd (none-some hits is)
  known-hits skipped are Lirs is = absurd (none-some hits is)
  known-hits skipped are Lru2 is = absurd (none-some hits is)
  known-hits skipped are WTinyLfu is = absurd (none-some hits is)
