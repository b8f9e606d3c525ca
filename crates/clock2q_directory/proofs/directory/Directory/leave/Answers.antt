use Rattle.clock2q_directory.proofs.Names.{refl, arith}
use Rattle.clock2q_directory.proofs.Histories.{IsHistory-index}
use Rattle.clock2q_directory.proofs.Views.{places-left, left-like}
use Rattle.clock2q_directory.proofs.directory.Directory.leave.Goals as goal

pub invariant_of-self : goal.invariant_of-self
invariant_of-self g c =
    let i = c.self.inside.index in
    rw c.remove_slot.ensures.left (IsHistory-index c.self.invariant
    (places-left i c.hash.result c.args.slot (omega (arith, c.requires.resident.below))) (left-like i c.hash.result c.args.slot).shared)

pub returns-clause-left : goal.returns-clause-left
returns-clause-left g c = rw (← c.self.view_is, c.remove_slot.ensures.left) (record { hash = c.hash.result; had = c.hash.ensures.hash; becomes = refl })
