-- The keys so far have their puts, and there is room for the others.
use Rattle.std.proofs.Common.{◌≡◌, ◌+◌, ◌-◌, ◌≤◌, map, length, take, vec_len, vec_capacity}
use Rattle.clock2q_text.specs.Commands.{call_of}
use Rattle.clock2q_uses.specs.Replay.{put_of}
use Rattle.clock2q_uses.proofs.replay.puts_of.Given as goal

abbrev pub invariant-loop-key : goal.invariant-loop-key
invariant-loop-key l = record {
  made : map call_of l.puts.items ≡ map put_of (take l.key-index l.keys);
  room : vec_len l.puts + (length l.keys - l.key-index) ≤ vec_capacity l.puts;
}
