use Rattle.clock2q_directory.proofs.Names.{◌<◌, refl, ◌∙◌, arith, left, first_remembered}
use Rattle.clock2q_directory.proofs.Histories.{IsHistory-index}
use Rattle.clock2q_directory.proofs.Views.{places-entered, places-left, entered-like, left-like}
use Rattle.clock2q_directory.proofs.directory.Directory.replace.Goals as goal

pub invariant_of-self : goal.invariant_of-self
invariant_of-self g c =
    let i = c.self.inside.index in
    let old_hash = c.replace-old.result.0 in
    let below : c.args.slot < first_remembered = omega (arith, c.requires.resident.below) in
    let less = left old_hash c.args.slot i in
    rw c.replace.ensures.replaced (IsHistory-index c.self.invariant
    (places-entered less c.args.newcomer.hash c.args.slot below ∙ places-left i old_hash c.args.slot below)
    ((entered-like less c.args.newcomer.hash c.args.slot).shared ∙ (left-like i old_hash c.args.slot).shared))

pub returns-clause-index : goal.returns-clause-index
returns-clause-index g c = rw (← c.self.view_is, c.replace.ensures.replaced) refl
