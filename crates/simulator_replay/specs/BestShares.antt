-- The shares of Clock2Q+ that hit most, of some that are tried.
use Rattle.std.specs.Prelude.{◌≡◌, ℕ, ◌-◌, ◌<◌, ◌≤◌, Bool, true, false, List, [], Option, Some, None, IfSome, map, slice_get, take}
use Rattle.std.specs.List.{All}
use Rattle.std.specs.NonZero.{non_zero_usize_get}
use Rattle.clock2q_machine.specs.Policies.{IsPolicy}
use Rattle.simulator_interface.specs.declared.best_shares.BestShares.{BestShares}
use Rattle.simulator_interface.specs.declared.row.Row.{Row}
use Rattle.simulator_interface.specs.declared.shares.ChosenShares.{ChosenShares}
use Rattle.simulator_interface.specs.ChosenShares.{shares_for}
use Rattle.simulator_replay.specs.MachineHits.{machine_hits}

module _ (skipped : ℕ) (numbers : List ℕ) (room : ℕ) where
  -- the hits with shares after the first accesses: all hits minus those of a cache that sees only the first accesses
  abbrev pub clock2q_hits_after : Option ChosenShares → ℕ
  clock2q_hits_after shares = machine_hits (shares_for shares room) numbers - machine_hits (shares_for shares room) (take skipped numbers)

  -- shares that fit together in the cache have no more hits than this
  abbrev pub HasNoMore : ℕ → ChosenShares → Type 0
  HasNoMore hits shares = IsPolicy (shares_for (Some shares) room) → clock2q_hits_after (Some shares) ≤ hits

  -- and these have fewer
  abbrev pub HasFewer : ℕ → ChosenShares → Type 0
  HasFewer hits shares = IsPolicy (shares_for (Some shares) room) → clock2q_hits_after (Some shares) < hits

  -- shares are the first of those tried that hit most, and hit more than the usual ones
  pub record AreFirst (tried : List ChosenShares) (usual hits : ℕ) (shares : ChosenShares) : Type 0 where
    pub place : ℕ
    pub there : slice_get tried place ≡ Some shares
    pub fewer : All (HasFewer hits) (take place tried)
    pub gain : usual < hits

  -- the usual hits are those of the usual shares, and the most hits those of the best shares: neither the usual ones nor
  -- any that are tried hit more
  pub record AreBest (tried : List ChosenShares) (best : BestShares) : Type 0 where
    pub capacity : non_zero_usize_get best.capacity ≡ room
    pub usual : best.usual ≡ clock2q_hits_after None
    pub hits : best.hits ≡ clock2q_hits_after best.shares
    pub no_fewer : best.usual ≤ best.hits
    pub most : All (HasNoMore best.hits) tried
    pub first : IfSome best.shares (AreFirst tried best.usual best.hits)

-- there are the best shares for each row, in order, at its capacity
pub record AreAllBest {A : Type 0} (tried : List ChosenShares) (skipped : ℕ) (numbers : List ℕ) (rows : List (Row A)) (all : List BestShares) : Type 0 where
  pub capacities : map (λ best. non_zero_usize_get best.capacity) all ≡ map (λ row. non_zero_usize_get row.capacity) rows
  pub each : All (λ best. AreBest skipped numbers (non_zero_usize_get best.capacity) tried best) all

-- there are none unless they are asked for
abbrev pub AreAskedBest : {A : Type 0} → List ChosenShares → ℕ → List ℕ → Bool → List (Row A) → List BestShares → Type 0
AreAskedBest tried skipped numbers false rows all = all ≡ []
AreAskedBest tried skipped numbers true rows all = AreAllBest tried skipped numbers rows all
