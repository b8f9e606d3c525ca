use Rattle.std.proofs.Common.{rules, ◌≡◌, None}
use Rattle.clock2q_machine.specs.Machine.{slot_of}
use Rattle.clock2q_memo.proofs.Keeping.{kept-put, whole-put}
use Rattle.clock2q_memo.proofs.memo.Memo.remember.Goals as goal

pub invariant_of-self : goal.invariant_of-self
invariant_of-self g c =
    let absent : slot_of (g.K.PartialEq.eq c.args.key) c.self.inside.cache.machine ≡ None = search (rules, c.requires.absent, c.self.view_is) in
    whole-put g.K.PartialEq.eq g.met.K.Eq.laws _ c.self.invariant c.args.key absent c.evaluate-value.result c.put.new.self.machine c.put.ensures.machine

pub returns-clause-value : goal.returns-clause-value
returns-clause-value g c = rw (← c.self.view_is) c.evaluate-value.ensures.value

pub returns-clause-remembers : goal.returns-clause-remembers
returns-clause-remembers g c =
    let absent : slot_of (g.K.PartialEq.eq c.args.key) c.self.inside.cache.machine ≡ None = search (rules, c.requires.absent, c.self.view_is) in
    rw (← c.self.view_is, c.evaluate-value.ensures.function)
    (λ h. kept-put g.K.PartialEq.eq g.met.K.Eq.laws _ c.self.invariant _ h c.args.key absent c.evaluate-value.result
    c.evaluate-value.ensures.value c.put.new.self.machine c.put.ensures.machine)

pub returns-clause-machine : goal.returns-clause-machine
returns-clause-machine g c = search rules

pub returns-clause-evaluations : goal.returns-clause-evaluations
returns-clause-evaluations g c = search rules
