-- The bytes of the hits of rows and windows, and those that they ask for.
use Rattle.std.specs.Prelude.{◌≡◌, ℕ, ◌+◌, Bool, List, Option, length}
use Rattle.std.specs.List.{All}
use Rattle.std.specs.NonZero.{non_zero_usize_get}
use Rattle.simulator_interface.specs.declared.policy.Policy.{Policy}
use Rattle.simulator_interface.specs.declared.row.Row.{Row}
use Rattle.simulator_interface.specs.declared.shares.ChosenShares.{ChosenShares}
use Rattle.simulator_interface.specs.declared.window.Window.{Window}
use Rattle.simulator_interface.specs.declared.window.Windows.{Windows}
use Rattle.simulator_traces.specs.Bytes.{asked_between, hit_between}
use Rattle.simulator_replay.specs.Rows.{IsReplay}

module _ (shares : Option ChosenShares) (numbers sizes : List ℕ) (room first last : ℕ) where
  -- a policy's hit bytes are those of its replay
  pub record AreBytes (policy : Policy) (bytes : ℕ) : Type 0 where
    pub outcomes : List Bool
    pub replay : IsReplay shares numbers room policy outcomes
    pub are : bytes ≡ hit_between first last outcomes sizes

  -- and so are those of a row, which has the bytes that are asked for too
  pub record HasBytes {A : Type 0} (row : Row A) : Type 0 where
    pub asked : row.bytes ≡ asked_between first last sizes
    pub hits : All (λ h. AreBytes h.policy h.bytes) row.hits.items

module _ (shares : Option ChosenShares) (numbers sizes : List ℕ) where
  -- rows have the bytes of all accesses after the skipped ones, each at its capacity
  abbrev pub HaveBytes : {A : Type 0} → ℕ → List (Row A) → Type 0
  HaveBytes skipped rows = All (λ row. HasBytes shares numbers sizes (non_zero_usize_get row.capacity) skipped (length numbers) row) rows

  -- windows have the bytes of their own accesses
  abbrev pub WindowsHaveBytes : {A : Type 0} → ℕ → List (Window A) → Type 0
  WindowsHaveBytes room windows = All (λ window. HasBytes shares numbers sizes room window.first (window.first + window.row.accesses) window.row) windows

  -- and so do those of each row
  abbrev pub AllHaveBytes : {A : Type 0} → List (Windows A) → Type 0
  AllHaveBytes all = All (λ windows. WindowsHaveBytes (non_zero_usize_get windows.capacity) windows.windows.items) all
