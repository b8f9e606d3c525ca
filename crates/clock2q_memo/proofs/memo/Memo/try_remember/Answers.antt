use Rattle.std.proofs.Common.{rules, ◌≡◌, None}
use Rattle.std.proofs.lemmas.Result.{err_from_is_err_and}
use Rattle.clock2q_machine.specs.Machine.{slot_of}
use Rattle.clock2q_memo.proofs.Keeping.{kept-put, whole-put}
use Rattle.clock2q_memo.proofs.memo.Memo.try_remember.Goals as goal

pub invariant_of-self-2 : goal.invariant_of-self-2
invariant_of-self-2 g c =
    let absent : slot_of (g.K.PartialEq.eq c.args.key) c.self.inside.cache.machine ≡ None = search (rules, c.requires.absent, c.self.view_is) in
    whole-put g.K.PartialEq.eq g.met.K.Eq.laws _ c.self.invariant c.args.key absent c.in_ok-value.value c.put.new.self.machine c.put.ensures.machine

pub returns-in_err-value-clause-err : goal.returns-in_err-value-clause-err
returns-in_err-value-clause-err g c =
    let p = err_from_is_err_and c.from_residual.result c.from_residual.ensures.1 in
    rw (p.1, p.2, ← c.self.view_is) c.in_err-value.ensures.value

pub returns-in_err-value-clause-remembers : goal.returns-in_err-value-clause-remembers
returns-in_err-value-clause-remembers g c = rw (← c.self.view_is, c.evaluate.ensures.function) (λ h. h)

pub returns-clause-value : goal.returns-clause-value
returns-clause-value g c = rw (← c.self.view_is) c.in_ok-value.ensures.value

pub returns-clause-remembers : goal.returns-clause-remembers
returns-clause-remembers g c =
    let absent : slot_of (g.K.PartialEq.eq c.args.key) c.self.inside.cache.machine ≡ None = search (rules, c.requires.absent, c.self.view_is) in
    rw (← c.self.view_is, c.evaluate.ensures.function)
    (λ h. kept-put g.K.PartialEq.eq g.met.K.Eq.laws _ c.self.invariant _ h c.args.key absent c.in_ok-value.value
    c.in_ok-value.ensures.value c.put.new.self.machine c.put.ensures.machine)
