use Rattle.std.proofs.Common.{rules, subst, sym}
use Rattle.clock2q_machine.specs.Whole.{IsWhole}
use Rattle.clock2q_memo.proofs.Keeping.{whole-usual}
use Rattle.clock2q_memo.proofs.memo.Memo.fallible_with_hasher.Goals as goal

pub invariant_of-result : goal.invariant_of-result
invariant_of-result g c = subst (IsWhole g.K.PartialEq.eq) (sym c.in_ok-cache.ensures.made) (whole-usual g.K.PartialEq.eq g.met.K.Eq.laws c.args.capacity.value (search rules))

pub returns-clause-made : goal.returns-clause-made
returns-clause-made g c = search rules
