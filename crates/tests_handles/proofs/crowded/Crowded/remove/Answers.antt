use Rattle.std.proofs.Common.{sym, subst}
use Rattle.std.specs.contracts.prelude.U64PartialEq.TheImpl as equals
use Rattle.clock2q_handles.specs.TableStep.{IsHashOf}
use Rattle.clock2q_handles.proofs.HashOfHandle.{keyed_removed}
use Rattle.tests_handles.proofs.crowded.Crowded.remove.Goals as goal

pub invariant_of-self : goal.invariant_of-self
invariant_of-self c =
    subst (IsHashOf (λ _. c.self.inside.hash)) (sym c.remove.ensures.removed)
    (keyed_removed (λ _. c.self.inside.hash) equals.ghosts.eq c.self.inside.table.homes c.self.inside.hash c.args.handle c.self.invariant)
