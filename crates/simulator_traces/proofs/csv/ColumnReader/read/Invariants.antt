-- The key is to be found, from what there is of it, in what is left of the line.
use Rattle.std.proofs.Common.{◌≡◌, drop}
use Rattle.std.specs.NonZero.{non_zero_usize_get}
use Rattle.simulator_traces.specs.Fields.{IsEarly, found_in}
use Rattle.simulator_traces.specs.Formats.{field, fields_from}
use Rattle.simulator_traces.proofs.csv.ColumnReader.read.Given as goal

abbrev pub invariant-loop-byte : goal.invariant-loop-byte
invariant-loop-byte g l = record {
  early : IsEarly l.self.left l.self.key.items;
  found : found_in l.self.left l.self.key.items (fields_from l.fn.separator l.self.place (drop l.byte-index l.text)) ≡ field l.fn.separator (non_zero_usize_get l.fn.column) l.line;
}
