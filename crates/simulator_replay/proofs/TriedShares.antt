-- The hits with shares of Clock2Q+, and shares with no more hits.
use Rattle.std.proofs.Common.{◌≡◌, ℕ, ◌-◌, ◌<◌, ◌≤◌, List, ap, subst, ◌∙◌, arith}
use Rattle.std.specs.Prelude.{Option}
use Rattle.std.specs.List.{All}
use Rattle.simulator_interface.specs.declared.policy.Policy.{Policy}
use Rattle.simulator_interface.specs.declared.policy.Policy.TheVariants.{Clock2Q}
use Rattle.simulator_interface.specs.declared.shares.ChosenShares.{ChosenShares}
use Rattle.simulator_replay.specs.BestShares.{HasFewer, HasNoMore, clock2q_hits_after}
use Rattle.simulator_interface.specs.ChosenShares.{shares_for}
use Rattle.simulator_replay.specs.MachineHits.{machine_hits}
use Rattle.simulator_replay.specs.Rows.{AreHitsAfter}

module _ (skipped : ℕ) (numbers : List ℕ) (room : ℕ) where
  of_clock2q : (shares : Option ChosenShares) (hits : ℕ) → AreHitsAfter skipped shares numbers room Clock2Q hits → hits ≡ clock2q_hits_after skipped numbers room shares
  of_clock2q shares hits are =
      are.rest ∙ ap (λ n. n - are.before) are.all_are ∙ ap (λ n. machine_hits (shares_for shares room) numbers - n) are.before_are

  -- the hits of a row with Clock2Q+ are those with its shares
  pub clock2q_are : (shares : Option ChosenShares) (policy : Policy) (hits : ℕ) → policy ≡ Clock2Q
      → AreHitsAfter skipped shares numbers room policy hits
      → hits ≡ clock2q_hits_after skipped numbers room shares
  clock2q_are shares policy hits is are = of_clock2q shares hits (subst (λ p. AreHitsAfter skipped shares numbers room p hits) is are)

  -- what hits no more than some hits no more than a larger number
  pub no_more_of_all : (hits more : ℕ) (tried : List ChosenShares) → hits ≤ more → All (HasNoMore skipped numbers room hits) tried → All (HasNoMore skipped numbers room more) tried
  no_more_of_all hits more tried grown each = λ k d within fits. omega (arith, grown, each k d within fits)

  pub no_more_than : (hits more : ℕ) (shares : ChosenShares) → hits ≤ more → HasNoMore skipped numbers room hits shares → HasNoMore skipped numbers room more shares
  no_more_than hits more shares grown no_more = λ fits. omega (arith, grown, no_more fits)

  -- and it hits fewer than a larger number
  pub fewer_of_all : (hits more : ℕ) (tried : List ChosenShares) → hits < more → All (HasNoMore skipped numbers room hits) tried → All (HasFewer skipped numbers room more) tried
  fewer_of_all hits more tried grown each = λ k d within fits. omega (arith, grown, each k d within fits)
