-- The accesses so far, with those of the bytes from the begun line's start on, are those at the start with all bytes.
use Rattle.std.proofs.Common.{◌≡◌, ◌≤◌, ◌++◌, ℕ, List, drop}
use Rattle.std.specs.List.{between}
use Rattle.simulator_traces.specs.Formats.{accesses_after}
use Rattle.simulator_traces.specs.Reading.{HasNoEnd, joined}
use Rattle.simulator_traces.proofs.records.Records.take_lines.Given as goal

abbrev pub invariant-loop-index : goal.invariant-loop-index
invariant-loop-index g l = record {
  from : l.start ≤ l.index;
  format : l.self.format ≡ l.initial.self.format;
  sample : l.self.trace.sample ≡ l.initial.self.trace.sample;
  sized : l.self.trace.is_sized ≡ l.initial.self.trace.is_sized;
  line : HasNoEnd (l.self.begun.items ++ between l.start l.index l.bytes);
  same : (next : List ℕ) → joined l.initial.self.trace.accesses (accesses_after l.initial.self.format l.initial.self.count (l.initial.self.begun.items ++ (l.bytes ++ next)))
      ≡ joined l.self.trace.accesses (accesses_after l.initial.self.format l.self.count (l.self.begun.items ++ (drop l.start l.bytes ++ next)));
}
