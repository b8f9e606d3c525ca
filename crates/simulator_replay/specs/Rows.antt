-- The result of a trace in a new cache of each policy.
use Rattle.std.specs.Prelude.{◌≡◌, ℕ, ◌-◌, Bool, List, Option, length, map, take}
use Rattle.std.specs.List.{All}
use Rattle.std.specs.NonZero.{non_zero_usize_get}
use Rattle.clock2q_machine.specs.SecondChance.{clock_hits, clock_outcomes}
use Rattle.clock2q_machine.specs.Optimum.{optimal_hits, optimal_outcomes}
use Rattle.simulator_policies.specs.declared.plain.PlainPolicy.TheVariants as plain
use Rattle.simulator_policies.specs.Policies.{plain_hits, plain_outcomes}
use Rattle.simulator_interface.specs.declared.policy.Policy.{Policy}
use Rattle.simulator_interface.specs.declared.policy.Policy.TheVariants.{Clock2Q, Sieve, S3Fifo, LeastRecentlyUsed, Optimal, FirstInFirstOut, Clock, Arc, TwoQ, Lirs, Lru2, WTinyLfu}
use Rattle.simulator_interface.specs.declared.row.Row.{Row}
use Rattle.simulator_interface.specs.declared.shares.ChosenShares.{ChosenShares}
use Rattle.simulator_interface.specs.declared.amount.Amount.{Amount}
use Rattle.simulator_interface.specs.Amounts.{keys_of}
use Rattle.simulator_interface.specs.ChosenShares.{shares_for}
use Rattle.simulator_traces.specs.Trace.{Numbered}
use Rattle.simulator_replay.specs.MachineHits.{machine_hits, machine_outcomes}

module _ (shares : Option ChosenShares) (numbers : List ℕ) (room : ℕ) where
  -- hits are those of the policy's definition; a policy that has none is only tested
  abbrev pub AreHits : Policy → ℕ → Type 0
  AreHits Clock2Q hits = hits ≡ machine_hits (shares_for shares room) numbers
  AreHits LeastRecentlyUsed hits = hits ≡ plain_hits plain.LeastRecentlyUsed room numbers
  AreHits FirstInFirstOut hits = hits ≡ plain_hits plain.FirstInFirstOut room numbers
  AreHits Sieve hits = Unit {0}
  AreHits S3Fifo hits = Unit {0}
  AreHits Optimal hits = hits ≡ optimal_hits room numbers
  AreHits Clock hits = hits ≡ clock_hits room numbers
  AreHits Arc hits = Unit {0}
  AreHits TwoQ hits = Unit {0}
  AreHits Lirs hits = Unit {0}
  AreHits Lru2 hits = Unit {0}
  AreHits WTinyLfu hits = Unit {0}

  -- and so are outcomes: for each access whether it hits
  abbrev pub AreOutcomes : Policy → List Bool → Type 0
  AreOutcomes Clock2Q outcomes = outcomes ≡ machine_outcomes (shares_for shares room) numbers
  AreOutcomes LeastRecentlyUsed outcomes = outcomes ≡ plain_outcomes plain.LeastRecentlyUsed room numbers
  AreOutcomes FirstInFirstOut outcomes = outcomes ≡ plain_outcomes plain.FirstInFirstOut room numbers
  AreOutcomes Sieve outcomes = Unit {0}
  AreOutcomes S3Fifo outcomes = Unit {0}
  AreOutcomes Optimal outcomes = outcomes ≡ optimal_outcomes room numbers
  AreOutcomes Clock outcomes = outcomes ≡ clock_outcomes room numbers
  AreOutcomes Arc outcomes = Unit {0}
  AreOutcomes TwoQ outcomes = Unit {0}
  AreOutcomes Lirs outcomes = Unit {0}
  AreOutcomes Lru2 outcomes = Unit {0}
  AreOutcomes WTinyLfu outcomes = Unit {0}

  -- there is an outcome for each access
  pub record IsReplay (policy : Policy) (outcomes : List Bool) : Type 0 where
    pub long : length outcomes ≡ length numbers
    pub are : AreOutcomes policy outcomes

-- hits are those after the first accesses: all hits minus those of a cache that sees only the first accesses
pub record AreHitsAfter (skipped : ℕ) (shares : Option ChosenShares) (numbers : List ℕ) (room : ℕ) (policy : Policy) (hits : ℕ) : Type 0 where
  pub all : ℕ
  pub before : ℕ
  pub all_are : AreHits shares numbers room policy all
  pub before_are : AreHits shares (take skipped numbers) room policy before
  pub rest : hits ≡ all - before

-- a row has a policy's hits for each policy, in order
pub record IsRow {A : Type 0} (compared : List Policy) (shares : Option ChosenShares) (skipped : ℕ) (numbers : List ℕ) (room : ℕ) (row : Row A) : Type 0 where
  pub capacity : non_zero_usize_get row.capacity ≡ room
  pub accesses : row.accesses ≡ length numbers - skipped
  pub policies : map (λ h. h.policy) row.hits.items ≡ compared
  pub hits : All (λ h. AreHitsAfter skipped shares numbers room h.policy h.hits) row.hits.items

-- there is a row for each capacity that was asked for, in order, with the number of keys that it is for the trace
pub record AreRows {A : Type 0} (compared : List Policy) (shares : Option ChosenShares) (skipped : ℕ) (trace : Numbered) (asked : List Amount) (rows : List (Row A)) : Type 0 where
  pub capacities : map (λ row. non_zero_usize_get row.capacity) rows ≡ map (λ amount. keys_of amount trace.different) asked
  pub each : All (λ row. IsRow compared shares skipped trace.numbers (non_zero_usize_get row.capacity) row) rows
