use Rattle.std.proofs.Common.{rules, subst, sym}
use Rattle.clock2q_memo.specs.Memo.{IsMemo}
use Rattle.clock2q_memo.proofs.Keeping.{kept-usual}
use Rattle.clock2q_memo.proofs.memo.Memo.with_hasher.Goals as goal

pub invariant_of-result : goal.invariant_of-result
invariant_of-result g c = rw (c.new.ensures.function)
    (subst (IsMemo g.K.PartialEq.eq (g.F.KeyFunction.returns c.args.function)) (sym c.in_ok-cache.ensures.made) (kept-usual g.K.PartialEq.eq g.met.K.Eq.laws _ c.args.capacity.value (search rules)), c.requires.callable)
