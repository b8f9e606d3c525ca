use Rattle.std.proofs.Common.{◌≡◌, ◌+◌, take, length, replicate}
use Rattle.clock2q_handles.proofs.slots.vectors.fill.Given as goal

abbrev pub invariant-loop-at : goal.invariant-loop-at
invariant-loop-at l = record {
  front : take l.at l.metadata ≡ replicate l.at l.word;
  as_many : length l.metadata ≡ length l.initial.metadata;
  counted : l.writes.total ≡ l.initial.writes.total + l.at;
}
