-- What was read so far is the accesses so far and the beginning of the next record.
use Rattle.std.proofs.Common.{◌≡◌}
use Rattle.simulator_interface.specs.TraceFormats.{has_sizes}
use Rattle.simulator_traces.proofs.RecordByRecord.{IsReadUpTo}
use Rattle.simulator_traces.proofs.reading.read_sample.Given as goal

abbrev pub invariant-loop-index : goal.invariant-loop-index
invariant-loop-index g l = record {
  format : l.records.format ≡ l.fn.format;
  sample : l.records.trace.sample ≡ l.fn.sample;
  sized : l.records.trace.is_sized ≡ has_sizes l.fn.format;
  read : IsReadUpTo (g.R.Source.given l.initial.reader) (g.R.Source.given l.reader)
      (g.R.Source.remaining l.initial.reader)
      (g.R.Source.remaining l.reader) l.fn.format l.records.trace.accesses l.records.count
      l.records.begun.items;
}
