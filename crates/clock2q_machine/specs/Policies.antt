-- The shares that a cache can have.
use Rattle.std.specs.Prelude.{◌≡◌, ℕ, ◌<◌, ◌≤◌, ◌↔◌}
use Rattle.clock2q_machine.specs.Shares.{Shares, usual_history}

-- the caller's share for Small, window and history
abbrev pub shares_with : ℕ → ℕ → ℕ → ℕ → Shares
shares_with capacity small window history = record { capacity = capacity; small = small; window = window; history = history }

-- the caller's share for Small and window, and the usual history
abbrev pub shares_of : ℕ → ℕ → ℕ → Shares
shares_of capacity small window = shares_with capacity small window (usual_history capacity)

-- Small leaves Main a slot; it has a window if and only if it has a share, and none that is longer; and the history
-- remembers no more keys than the cache holds
pub record IsPolicy (shares : Shares) : Type 0 where
  pub below : shares.small < shares.capacity
  pub both : (shares.small ≡ 0) ↔ (shares.window ≡ 0)
  pub within : shares.window ≤ shares.small
  pub remembered : shares.history ≤ shares.capacity
