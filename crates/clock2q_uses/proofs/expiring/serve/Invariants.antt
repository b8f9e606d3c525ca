-- The replies so far are those to the requests so far, and there is room for the others.
use Rattle.std.proofs.Common.{◌≡◌, ◌+◌, ◌-◌, ◌≤◌, length, take, vec_len, vec_capacity}
use Rattle.clock2q_uses.specs.Expiring.{after_requests, replies}
use Rattle.clock2q_uses.proofs.expiring.serve.Given as goal

abbrev pub invariant-loop-now : goal.invariant-loop-now
invariant-loop-now g l = record {
  served : l.served.items ≡ replies (take l.now-index l.requests) l.fn.cache.machine;
  machine : l.cache.machine ≡ after_requests (take l.now-index l.requests) l.fn.cache.machine;
  room : vec_len l.served + (length l.requests - l.now-index) ≤ vec_capacity l.served;
}
