use Rattle.std.proofs.Common.{refl, sym, subst, arith}
use Rattle.clock2q_handles.specs.TableStep.{IsHashOf}
use Rattle.tests_handles.proofs.Keyed.{hashes-with}
use Rattle.tests_handles.proofs.hashed.Hashed.put_at_gap.Goals as goal

pub invariant_of-self : goal.invariant_of-self
invariant_of-self g c =
    subst (IsHashOf (λ handle. handle.hash)) (sym c.insert_at_gap.ensures.put)
    (hashes-with (λ handle. handle.hash) c.self.inside.table.homes c.args.handle (omega (arith, (c.in_ok-gap.ensures.spare refl).room)) c.self.invariant)
