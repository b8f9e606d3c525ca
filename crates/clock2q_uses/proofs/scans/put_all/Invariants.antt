-- Putting the keys that are left gives the cache that putting all keys in the first one gives.
use Rattle.std.proofs.Common.{◌≡◌, eqb, drop}
use Rattle.clock2q_machine.specs.Steps.{after_all}
use Rattle.clock2q_uses.specs.Scanning.{calls_of}
use Rattle.clock2q_uses.proofs.scans.put_all.Given as goal

abbrev pub invariant-loop-key : goal.invariant-loop-key
invariant-loop-key l = after_all eqb (calls_of (drop l.key-index l.keys)) l.cache.machine ≡ after_all eqb (calls_of l.keys) l.fn.cache.machine
