use Rattle.std.proofs.Common.{rules}
use Rattle.clock2q_queues.proofs.Flagged.{are_fresh, shown_fresh}
use Rattle.clock2q_queues.proofs.links.Links.new.Goals as goal

pub invariant_of-result : goal.invariant_of-result
invariant_of-result g c = are_fresh c.args.slots 0 c.in_ok-ring.ring c.in_ok-flags.flags c.in_ok-ring.ensures c.in_ok-flags.ensures

pub returns : goal.returns
returns g c = shown_fresh c.args.slots c.args.window (search rules) (search rules) (search rules) c.new-4.ensures.zero
