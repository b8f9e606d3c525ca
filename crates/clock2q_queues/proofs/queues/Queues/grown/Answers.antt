use Rattle.clock2q_queues.proofs.Names.{ap, arith, QueueState}
use Rattle.clock2q_queues.proofs.Growth.{queues-grown, young_within}
use Rattle.clock2q_queues.proofs.queues.Queues.grown.Goals as goal

pub grown-requires-clause-positions : goal.grown-requires-clause-positions
grown-requires-clause-positions g c = young_within c.self.inside.links c.self.inside.small c.self.inside.main c.self.invariant

pub invariant_of-result : goal.invariant_of-result
invariant_of-result g c =
    let i = c.self.inside in
    (queues-grown i.links i.small i.main c.in_ok-grown.field-0 c.min.result c.args.slots c.args.window c.self.invariant c.in_ok-grown.ensures
    (rw (ap (λ (q : QueueState). q.slots) c.self.view_is) c.requires.slots) (rw (ap (λ (q : QueueState). q.window) c.self.view_is) c.requires.window)
    c.ranges.slots.fits c.ranges.window.fits (omega (arith, c.min.ensures, c.window_len.ensures))
    (λ some. omega (arith, c.min.ensures, c.window_len.ensures, c.self.invariant.small.cursor_in some))).queues

pub returns-clause-grown : goal.returns-clause-grown
returns-clause-grown g c =
    let i = c.self.inside in
    rw (← c.self.view_is) (queues-grown i.links i.small i.main c.in_ok-grown.field-0 c.min.result c.args.slots c.args.window c.self.invariant c.in_ok-grown.ensures
    (rw (ap (λ (q : QueueState). q.slots) c.self.view_is) c.requires.slots) (rw (ap (λ (q : QueueState). q.window) c.self.view_is) c.requires.window)
    c.ranges.slots.fits c.ranges.window.fits (omega (arith, c.min.ensures, c.window_len.ensures))
    (λ some. omega (arith, c.min.ensures, c.window_len.ensures, c.self.invariant.small.cursor_in some))).is

pub returns-clause-within : goal.returns-clause-within
returns-clause-within g c = rw (← c.self.view_is) (omega (arith, c.in_ok-grown.ensures.made, c.in_ok-grown.ensures.within))
