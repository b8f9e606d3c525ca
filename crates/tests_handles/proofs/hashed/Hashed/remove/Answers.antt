use Rattle.std.proofs.Common.{sym, subst}
use Rattle.clock2q_handles.specs.TableStep.{IsHashOf}
use Rattle.tests_handles.specs.contracts.handle.HandlePartialEq.TheImpl as equals
use Rattle.clock2q_handles.proofs.HashOfHandle.{keyed_removed}
use Rattle.tests_handles.proofs.hashed.Hashed.remove.Goals as goal

pub invariant_of-self : goal.invariant_of-self
invariant_of-self g c =
    subst (IsHashOf (λ handle. handle.hash)) (sym c.remove.ensures.removed)
    (keyed_removed (λ handle. handle.hash) equals.ghosts.eq c.self.inside.table.homes c.args.hash c.args.handle c.self.invariant)
