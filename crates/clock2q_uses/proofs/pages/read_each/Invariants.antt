-- The pages so far are those of the file, there is room for the others, and each loaded page is in its frame.
use Rattle.std.proofs.Common.{◌≡◌, ◌+◌, ◌-◌, ◌≤◌, map, length, take, slice_get, vec_len, vec_capacity}
use Rattle.clock2q_uses.specs.Pages.{AreLoaded}
use Rattle.clock2q_uses.proofs.pages.read_each.Given as goal

abbrev pub invariant-loop-number : goal.invariant-loop-number
invariant-loop-number g l = record {
  read : l.read.items ≡ map (slice_get l.file) (take l.number-index l.numbers);
  room : vec_len l.read + (length l.numbers - l.number-index) ≤ vec_capacity l.read;
  loaded : AreLoaded l.file l.pages.machine l.frames;
  frames : l.pages.machine.shares.capacity ≤ length l.frames;
}
