use Rattle.std.proofs.Common.{◌≡◌, ◌+◌, ◌<◌, ◌≤◌, length, map}
use Rattle.clock2q_text.specs.Commands.{call_of}
use Rattle.clock2q_ports.specs.Lines.{lines_of}
use Rattle.clock2q_text.specs.Text.{calls_from}
use Rattle.clock2q_text.proofs.Spelling.{gathered}
use Rattle.clock2q_text.proofs.text.commands_of.Given as goal

abbrev pub invariant-loop-line : goal.invariant-loop-line
invariant-loop-line g l = record {
  so_far : gathered (map call_of l.commands.items) (calls_from (l.number + 1) (lines_of l.rest)) ≡ calls_from 2 (lines_of l.text);
  begun : 0 < l.number;
  few : l.number + length l.rest ≤ length l.text + 1;
}

abbrev pub decreases-loop-line : goal.decreases-loop-line
decreases-loop-line g l = length l.rest
