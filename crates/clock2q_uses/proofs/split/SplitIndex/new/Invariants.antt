-- As many parts as rounds have been made, and there is room for the others.
use Rattle.std.proofs.Common.{◌≡◌, ◌+◌, ◌-◌, ◌≤◌, [], replicate, vec_len, vec_capacity}
use Rattle.clock2q_uses.proofs.split.SplitIndex.new.Given as goal

abbrev pub invariant-loop : goal.invariant-loop
invariant-loop l = record {
  made : l.made.items ≡ replicate l.counter [];
  room : vec_len l.made + (l.parts - l.counter) ≤ vec_capacity l.made;
}
