-- Rows and windows whose hit ratios are parts of the accesses that a sample is expected to have.
use Rattle.std.specs.Prelude.{◌≡◌, List}
use Rattle.std.specs.List.{All}
use Rattle.simulator_interface.specs.declared.row.Row.{Row}
use Rattle.simulator_interface.specs.declared.window.Window.{Window}
use Rattle.simulator_interface.specs.declared.window.Windows.{Windows}
use Rattle.simulator_traces.specs.Trace.{Numbered, expected_of}

module _ (trace : Numbered) where
  abbrev pub IsExpected : {A : Type 0} → Row A → Type 0
  IsExpected row = row.expected ≡ expected_of trace row.accesses

  abbrev pub AreExpected : {A : Type 0} → List (Row A) → Type 0
  AreExpected rows = All (λ row. IsExpected row) rows

  abbrev pub WindowsAreExpected : {A : Type 0} → List (Window A) → Type 0
  WindowsAreExpected windows = All (λ window. IsExpected window.row) windows

  abbrev pub AllWindowsAreExpected : {A : Type 0} → List (Windows A) → Type 0
  AllWindowsAreExpected all = All (λ windows. WindowsAreExpected windows.windows.items) all
