use Rattle.std.proofs.Common.{◌-◌, ap}
use Rattle.clock2q_queues.proofs.Copies.{AreLinks-grown, GrowsLinks-from}
use Rattle.clock2q_queues.proofs.links.Links.grown.Goals as goal

pub invariant_of-result : goal.invariant_of-result
invariant_of-result g c =
    let i = c.self.inside in
    AreLinks-grown i.ring c.in_ok-ring.ring i.flags c.in_ok-flags.flags c.args.slots c.args.cursor _ c.self.invariant
    c.in_ok-ring.ensures c.in_ok-flags.ensures (rw (← c.self.view_is) at c.requires.slots)

pub returns : goal.returns
returns g c =
    let i = c.self.inside in
    GrowsLinks-from i.ring c.in_ok-ring.ring i.flags c.in_ok-flags.flags c.args.slots c.args.cursor _ c.self.invariant
    c.in_ok-ring.ensures c.in_ok-flags.ensures (rw (← c.self.view_is) at c.requires.slots)
    i.window c.in_ok-positions.positions c.args.window i.inspections.total c.raise.new.self.total c.args.self.now c.self.view_is
    (ap (λ n. c.args.window - n) c.len.ensures)
    c.raise.ensures.raised c.in_ok-positions.ensures
