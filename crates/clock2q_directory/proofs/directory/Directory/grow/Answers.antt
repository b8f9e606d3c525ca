use Rattle.clock2q_directory.proofs.Larger.{IsHistory-grown, grows}
use Rattle.clock2q_directory.proofs.directory.Directory.grow.Goals as goal

pub invariant_of-self-2 : goal.invariant_of-self-2
invariant_of-self-2 g c =
    let r = c.requires in
    let order = c.in_ok-order.ensures in
    IsHistory-grown c.self.invariant order.whole order.grown c.reserve-2.ensures.kept r.some r.few r.short c.in_ok-reserve-2.ensures.room c.in_ok-index.ensures.grown

pub returns-clause-grown : goal.returns-clause-grown
returns-clause-grown g c =
    let order = c.in_ok-order.ensures in
    rw (← c.self.view_is) (grows c.self.invariant order.whole order.grown c.reserve-2.ensures.kept c.reserve.ensures.kept c.in_ok-index.ensures.grown order.accesses)
