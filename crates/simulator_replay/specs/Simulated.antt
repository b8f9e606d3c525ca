-- A trace read, and the text written about it.
use Rattle.std.specs.Prelude.{◌≡◌, ℕ, List, Option, None, length, map}
use Rattle.clock2q_ports.specs.Ports.{Traffic}
use Rattle.simulator_traces.specs.Reading.{AreRead}
use Rattle.simulator_interface.specs.declared.amount.Amount.{Amount}
use Rattle.simulator_interface.specs.declared.format.TraceFormat.{TraceFormat}
use Rattle.simulator_interface.specs.declared.options.Options.{Options}
use Rattle.simulator_interface.specs.declared.outcome.Outcome.{Outcome}
use Rattle.simulator_interface.specs.declared.shares.ChosenShares.{ChosenShares}
use Rattle.simulator_replay.specs.BestShares.{AreAskedBest}
use Rattle.simulator_traces.specs.Bytes.{asked_between}
use Rattle.simulator_replay.specs.ExpectedRows.{AllWindowsAreExpected, AreExpected}
use Rattle.simulator_replay.specs.RowBytes.{AllHaveBytes, HaveBytes}
use Rattle.simulator_replay.specs.ByteRows.{AreAskedByteRows}
use Rattle.simulator_traces.specs.Formats.{Access}
use Rattle.simulator_replay.specs.Rows.{AreRows}
use Rattle.simulator_traces.specs.Sampled.{sampled}
use Rattle.simulator_interface.specs.Sample.{scaled, scaled_shares, shown}
use Rattle.simulator_interface.specs.Written.{IsWritten}
use Rattle.simulator_traces.specs.Uses.{keys_once}
use Rattle.simulator_traces.specs.Trace.{AreNumbers, Numbered, all_accesses, keys_of, sizes_of}
use Rattle.simulator_replay.specs.Windows.{AreAskedWindows}

-- the trace of the sampled keys alone, without a sample
abbrev pub filtered : Numbered → Numbered
filtered trace = record { accesses = sampled trace.sample trace.accesses; sample = None; is_sized = trace.is_sized; numbers = trace.numbers; different = trace.different }

-- the figures, the rows, the windows, their bytes and the best shares are those of a trace, with these shares and capacities
pub record IsRun {A : Type 0} (tried : List ChosenShares) (options : Options A) (trace : Numbered) (shares : Option ChosenShares) (capacities : List Amount) (outcome : Outcome A) : Type 0 where
  pub numbers : AreNumbers (keys_of trace.accesses) trace.numbers
  pub accesses : outcome.summary.accesses ≡ length trace.numbers
  pub keys : outcome.summary.keys ≡ trace.different
  pub once : outcome.summary.keys_once ≡ keys_once trace.different trace.numbers
  pub sizes : outcome.summary.bytes ≡ asked_between 0 (length trace.numbers) (sizes_of trace)
  pub rows : AreRows options.policies.items shares options.skipped trace capacities outcome.rows.items
  pub byte_rows : AreAskedByteRows options.skipped trace options.policies.items options.byte_capacities.items outcome.byte_rows.items
  pub bytes : HaveBytes shares trace.numbers (sizes_of trace) options.skipped outcome.rows.items
  pub windows : AreAskedWindows options.policies.items shares trace.numbers options.skipped options.window outcome.rows.items outcome.windows.items
  pub window_bytes : AllHaveBytes shares trace.numbers (sizes_of trace) outcome.windows.items
  pub best : AreAskedBest tried options.skipped trace.numbers options.best_shares outcome.rows.items outcome.best_shares.items

module _ (given gives : Traffic) (left remain : Option (List ℕ)) (format : TraceFormat) where
  -- the whole input was read, as the accesses of its records
  pub record IsRead : Type 0 where
    pub accesses : List Access
    pub read : AreRead given gives left remain format accesses

module _ (given gives : Traffic) (left remain : Option (List ℕ)) where
  -- the whole input was read, and the result is the run on the trace of the sampled keys alone, with every capacity and
  -- share as much smaller as the sample is; its hit ratios are parts of the accesses that the sample is expected to have
  pub record IsReplayed {A : Type 0} (tried : List ChosenShares) (options : Options A) (outcome : Outcome A) : Type 0 where
    pub trace : Numbered
    pub read : AreRead given gives left remain options.trace_format trace.accesses
    pub sampled : trace.sample ≡ options.sample
    pub run : IsRun tried options (filtered trace) (scaled_shares options.sample options.shares) (map (scaled options.sample) options.capacities.items) outcome
    pub capacities : outcome.capacities.items ≡ map (shown options.sample trace.different) options.capacities.items
    pub all : outcome.summary.all_accesses ≡ all_accesses trace
    pub expected : AreExpected trace outcome.rows.items
    pub expected_in_bytes : AreExpected trace outcome.byte_rows.items
    pub expected_in_windows : AllWindowsAreExpected trace outcome.windows.items

-- the whole input was read, and a whole text was written and flushed
pub record IsSimulated (given gives : Traffic) (left remain : Option (List ℕ)) (format : TraceFormat) (took takes : Traffic) (held holds : Option (List ℕ)) : Type 0 where
  pub read : IsRead given gives left remain format
  pub written : IsWritten took takes held holds
