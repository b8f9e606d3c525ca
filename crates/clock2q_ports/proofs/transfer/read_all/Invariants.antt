use Rattle.std.proofs.Common.{◌≡◌, ◌-◌, ◌^◌, false, vec_len}
use Rattle.std.specs.Io.KnownBytes.{Consumes}
use Rattle.clock2q_ports.specs.Ports.{traffic_after}
use Rattle.clock2q_ports.proofs.transfer.read_all.Given as goal

abbrev pub invariant-loop-input : goal.invariant-loop-input
invariant-loop-input g l = record {
  given : g.R.Source.given l.reader ≡ traffic_after (g.R.Source.given l.initial.reader) l.input.items false false;
  bytes : Consumes (g.R.Source.remaining l.initial.reader) (g.R.Source.remaining l.reader) l.input.items;
}

abbrev pub decreases-loop-input : goal.decreases-loop-input
decreases-loop-input g l = 2 ^ 63 - vec_len l.input
