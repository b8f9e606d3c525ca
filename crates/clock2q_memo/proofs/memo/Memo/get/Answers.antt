use Rattle.std.proofs.Common.{rules, sym}
use Rattle.clock2q_memo.proofs.Keeping.{absent_if, looked_up_anew, evaluated_once}
use Rattle.clock2q_memo.proofs.memo.Memo.get.Goals as goal

pub remember-requires-clause-absent : goal.remember-requires-clause-absent
remember-requires-clause-absent g c = rw (← c.self.view_is) (absent_if g.K.PartialEq.eq g.met.K.Eq.laws _ c.self.invariant c.args.key c.in-None.ensures.value)

pub remember-requires-clause-callable : goal.remember-requires-clause-callable
remember-requires-clause-callable g c = c.requires.callable (remember-requires-clause-absent g c)

pub returns-in-None-clause-machine : goal.returns-in-None-clause-machine
returns-in-None-clause-machine g c =
    rw (← c.self.view_is) (search (rules, c.remember.ensures.machine, looked_up_anew g.K.PartialEq.eq g.met.K.Eq.laws _ c.self.invariant c.args.key c.in-None.ensures.value c.remember.result))

pub returns-in-None-clause-evaluations : goal.returns-in-None-clause-evaluations
returns-in-None-clause-evaluations g c =
    rw (← c.self.view_is) (search (rules, c.remember.ensures.evaluations, evaluated_once g.K.PartialEq.eq g.met.K.Eq.laws _ c.self.invariant c.args.key c.in-None.ensures.value))

pub returns-in-Some-clause-value : goal.returns-in-Some-clause-value
returns-in-Some-clause-value g c = rw (← c.self.view_is) (λ h value computes. h value computes c.args.key _ (sym c.in-Some.ensures.value))
