-- The hits of a trace in windows: consecutive accesses, as many as asked for, but fewer in the last one.
use Rattle.std.specs.Prelude.{◌≡◌, ℕ, ◌+◌, ◌-◌, ◌<◌, min, List, [], ◌∷◌, Option, None, Some, length, map, take}
use Rattle.std.specs.List.{All}
use Rattle.std.specs.NonZero.{non_zero_usize_get}
use Rattle.std.specs.declared.num.NonZeroUsize.{NonZeroUsize}
use Rattle.clock2q_machine.specs.Hits.{hit_count}
use Rattle.simulator_interface.specs.declared.policy.Policy.{Policy}
use Rattle.simulator_interface.specs.declared.row.Hits.{Hits}
use Rattle.simulator_interface.specs.declared.row.Row.{Row}
use Rattle.simulator_interface.specs.declared.shares.ChosenShares.{ChosenShares}
use Rattle.simulator_replay.specs.declared.row.Replayed.{Replayed}
use Rattle.simulator_interface.specs.declared.window.Window.{Window}
use Rattle.simulator_interface.specs.declared.window.Windows.{Windows}
use Rattle.simulator_traces.specs.Bytes.{hit_between}
use Rattle.simulator_replay.specs.Rows.{IsReplay, IsRow}

-- windows follow one another from an access up to another
abbrev pub AreInTurn : {A : Type 0} → ℕ → List (Window A) → ℕ → Type 0
AreInTurn first [] last = first ≡ last
AreInTurn first (window ∷ windows) last = (window.first ≡ first) × AreInTurn (first + window.row.accesses) windows last

-- the hits of a replay from one access up to another, and their bytes
abbrev pub counted : {A : Type 0} → ℕ → ℕ → List ℕ → Replayed A → Hits
counted first last sizes replay = record {
  policy = replay.policy;
  hits = hit_count (take last replay.outcomes.items) - hit_count (take first replay.outcomes.items);
  bytes = hit_between first last replay.outcomes.items sizes;
}

module _ {A : Type 0} (compared : List Policy) (shares : Option ChosenShares) (numbers : List ℕ) where
  -- there is a replay for each policy, in order
  pub record AreReplays (room : ℕ) (replays : List (Replayed A)) : Type 0 where
    pub policies : map (λ replay. replay.policy) replays ≡ compared
    pub each : All (λ replay. IsReplay shares numbers room replay.policy replay.outcomes.items) replays

  -- a window is the row of the trace up to its end that skips the accesses before it
  pub record IsWindow (room size : ℕ) (window : Window A) : Type 0 where
    pub some : window.first < length numbers
    pub row : IsRow compared shares window.first (take (window.first + size) numbers) room window.row

  -- the windows go from the first access that isn't skipped to the end of the trace
  pub record AreWindows (skipped room size : ℕ) (windows : List (Window A)) : Type 0 where
    pub in_turn : AreInTurn (min skipped (length numbers)) windows (length numbers)
    pub each : All (IsWindow room size) windows

  -- there are windows for each row, in order, at its capacity
  pub record AreAllWindows (skipped size : ℕ) (rows : List (Row A)) (all : List (Windows A)) : Type 0 where
    pub capacities : map (λ windows. non_zero_usize_get windows.capacity) all ≡ map (λ row. non_zero_usize_get row.capacity) rows
    pub each : All (λ windows. AreWindows skipped (non_zero_usize_get windows.capacity) size windows.windows.items) all

  -- there are none unless they are asked for
  abbrev pub AreAskedWindows : ℕ → Option NonZeroUsize → List (Row A) → List (Windows A) → Type 0
  AreAskedWindows skipped None rows all = all ≡ []
  AreAskedWindows skipped (Some size) rows all = AreAllWindows skipped (non_zero_usize_get size) rows all
