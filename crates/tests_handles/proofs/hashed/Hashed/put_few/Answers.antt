use Rattle.std.proofs.Common.{sym, subst, arith}
use Rattle.clock2q_handles.specs.TableStep.{IsHashOf}
use Rattle.tests_handles.proofs.Keyed.{hashes-with}
use Rattle.tests_handles.proofs.hashed.Hashed.put_few.Goals as goal

pub invariant_of-self : goal.invariant_of-self
invariant_of-self g c =
    subst (IsHashOf (λ handle. handle.hash)) (sym c.insert_infallible.ensures.put)
    (hashes-with (λ handle. handle.hash) c.self.inside.table.homes c.args.handle (omega (arith, (c.has_spare.ensures.spare c.if-has_spare.true).room)) c.self.invariant)
