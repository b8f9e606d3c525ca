-- The next uses from an index on.
use Rattle.std.proofs.Common.{◌≡◌, ℕ, suc, ◌<◌, ◌≤◌, length, get_or}
use Rattle.simulator_policies.specs.Awaited.{use_from}
use Rattle.simulator_policies.proofs.optimal.next_uses.Given as goal

abbrev pub invariant-loop-at : goal.invariant-loop-at
invariant-loop-at g l = record {
  keys : length l.soonest.items ≡ l.fn.keys;
  long : length l.next.items ≡ length l.trace;
  soonest : (key : ℕ) → key < l.fn.keys → get_or l.soonest.items key 0 ≡ use_from l.trace l.at key;
  next : (index : ℕ) → l.at ≤ index → index < length l.trace → get_or l.next.items index 0 ≡ use_from l.trace (suc index) (get_or l.trace index 0);
}
