-- The digits written so far follow those of the rest.
use Rattle.std.proofs.Common.{◌≡◌, ◌+◌, ◌<◌, ◌≤◌, ◌++◌, length, drop, [], ◌∷◌}
use Rattle.std.specs.Prelude.{decimal}
use Rattle.clock2q_text.proofs.replies.push_number.Given as goal

abbrev pub invariant-loop-rest : goal.invariant-loop-rest
invariant-loop-rest g l = record {
  written : decimal l.number ++ l.end ∷ [] ≡ decimal l.rest ++ drop (l.start + 1) l.bytes;
  room : length (decimal l.rest) ≤ l.start + 1;
  fits : l.start < 20;
  size : length l.bytes ≡ 21;
}

abbrev pub decreases-loop-rest : goal.decreases-loop-rest
decreases-loop-rest g l = l.rest
