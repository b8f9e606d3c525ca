-- The accesses so far, with those of the bytes still to come, are those at the start with all bytes.
use Rattle.std.proofs.Common.{◌≡◌, ◌++◌, ℕ, List, drop}
use Rattle.simulator_traces.specs.Formats.{accesses_after}
use Rattle.simulator_traces.specs.Reading.{IsBegun, joined}
use Rattle.simulator_traces.proofs.records.Records.take_pieces.Given as goal

abbrev pub invariant-loop-byte : goal.invariant-loop-byte
invariant-loop-byte g l = record {
  format : l.self.format ≡ l.initial.self.format;
  sample : l.self.trace.sample ≡ l.initial.self.trace.sample;
  sized : l.self.trace.is_sized ≡ l.initial.self.trace.is_sized;
  begun : IsBegun l.initial.self.format l.self.begun.items;
  same : (next : List ℕ) → joined l.initial.self.trace.accesses (accesses_after l.initial.self.format l.initial.self.count (l.initial.self.begun.items ++ (l.bytes ++ next)))
      ≡ joined l.self.trace.accesses (accesses_after l.initial.self.format l.self.count (l.self.begun.items ++ (drop l.byte-index l.bytes ++ next)));
}
