use Rattle.std.proofs.Common.{arith}
use Rattle.clock2q_handles.specs.Candidates.{IsWalkFor}
use Rattle.clock2q_handles.specs.Slots.{sought}
use Rattle.clock2q_handles.proofs.shifts.Carrying.{walks_on}
use Rattle.clock2q_handles.proofs.walks.Cursors.{goes_on}
use Rattle.clock2q_handles.proofs.slots.vectors.Slots.gap.Given.{Over}
use Rattle.clock2q_handles.proofs.slots.vectors.Slots.gap.Goals.{After-next-wanted}
use Rattle.clock2q_handles.proofs.slots.vectors.Slots.gap.Goals as goal

more : (g : Over) (c : After-next-wanted g) → IsWalkFor c.args.self.now.slots c.args.hash (sought c.next-wanted.result) c.after-slot.result
more g c =
    let slots = c.args.self.now.slots in
    let far = goes_on slots c.ends_walk_for.result (sought c.loop-view.wanted) _ c.loop-view.slot c.ends_walk_for.ensures c.loop-view-test.true (rw c.view-view.ensures at c.read.ensures.meaning) in
    walks_on slots c.requires.tidy c.args.hash (sought c.loop-view.wanted) (sought c.next-wanted.result) c.loop-view.slot c.after-slot.result c.loop-view.invariant.walk far c.next-wanted.ensures (rw c.view-view.ensures at c.after-slot.ensures.after)

pub loop-view-smaller : goal.loop-view-smaller
loop-view-smaller g c = let next = more g (goal.at.loop-view-smaller g c).After-next-wanted in grind (arith, next.come.within, next.mark, c.loop-view.invariant.walk.mark)

pub loop-view-preserved : goal.loop-view-preserved
loop-view-preserved g c = grind (arith, more)
