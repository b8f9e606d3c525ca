use Rattle.clock2q_directory.proofs.Names.{refl, arith}
use Rattle.clock2q_directory.proofs.Histories.{IsHistory-index}
use Rattle.clock2q_directory.proofs.Views.{places-entered, entered-like}
use Rattle.clock2q_directory.proofs.directory.Directory.enter.Goals as goal

pub invariant_of-self : goal.invariant_of-self
invariant_of-self g c =
    let i = c.self.inside.index in
    rw c.add_slot.ensures.entered (IsHistory-index c.self.invariant
    (places-entered i c.args.newcomer.hash c.args.slot (omega (arith, c.requires.vacant.below))) (entered-like i c.args.newcomer.hash c.args.slot).shared)

pub returns-clause-index : goal.returns-clause-index
returns-clause-index g c = rw (← c.self.view_is, c.add_slot.ensures.entered) refl
