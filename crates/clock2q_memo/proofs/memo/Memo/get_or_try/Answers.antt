use Rattle.std.proofs.Common.{rules, ◌≡◌, None, Result, Ok, Err, OnErr, subst, ap, sym, ◌∙◌}
use Rattle.std.proofs.lemmas.Result.{IfOk-weaker, on_err_weaker}
use Rattle.clock2q_machine.specs.Machine.{hit, slot_of, value_of}
use Rattle.clock2q_machine.specs.Whole.{IsWhole}
use Rattle.clock2q_machine.proofs.MachineInvariant.{lasting-hit}
use Rattle.clock2q_memo.specs.Memo.{IsCallableAt, GivesOk, HoldsValues}
use Rattle.clock2q_memo.proofs.Keeping.{kept-hit, absent_if, missed_hit, fetched_anew, evaluated_once, hit_value}
use Rattle.clock2q_memo.proofs.memo.Memo.get_or_try.Goals as goal

pub invariant_of-self : goal.invariant_of-self
invariant_of-self g c =
    let k = c.self.invariant in
    let after : c.get.follows.lender-at-none.machine ≡ hit (g.K.PartialEq.eq c.args.key) c.self.inside.cache.machine = search rules in
    subst (IsWhole g.K.PartialEq.eq) (sym after) (lasting-hit g.K.PartialEq.eq g.met.K.Eq.laws (g.K.PartialEq.eq c.args.key) _ k)

pub invariant_of-self-in-None : goal.invariant_of-self-in-None
invariant_of-self-in-None g c =
    let k = c.self.invariant in
    let after : c.get.follows.lender-at-none.machine ≡ hit (g.K.PartialEq.eq c.args.key) c.self.inside.cache.machine = search rules in
    subst (IsWhole g.K.PartialEq.eq) (sym after) (lasting-hit g.K.PartialEq.eq g.met.K.Eq.laws (g.K.PartialEq.eq c.args.key) _ k)

pub try_remember-requires-clause-absent : goal.try_remember-requires-clause-absent
try_remember-requires-clause-absent g c =
    let k = c.self.invariant in
    let after : c.get.follows.lender-at-none.machine ≡ hit (g.K.PartialEq.eq c.args.key) c.self.inside.cache.machine = search rules in
    let same = missed_hit g.K.PartialEq.eq g.met.K.Eq.laws _ k c.args.key c.in-None.ensures.value in
    subst (λ m. slot_of (g.K.PartialEq.eq c.args.key) m ≡ None) (sym (after ∙ same)) (absent_if g.K.PartialEq.eq g.met.K.Eq.laws _ k c.args.key c.in-None.ensures.value)

pub try_remember-requires-clause-callable : goal.try_remember-requires-clause-callable
try_remember-requires-clause-callable g c =
    let may = subst (λ memo. slot_of (g.K.PartialEq.eq c.args.key) memo.machine ≡ None → IsCallableAt g.F.Fn memo.function c.args.key) (sym c.self.view_is) c.requires.callable in
    may (absent_if g.K.PartialEq.eq g.met.K.Eq.laws _ c.self.invariant c.args.key c.in-None.ensures.value)

pub returns-in-Some-clause-resident : goal.returns-in-Some-clause-resident
returns-in-Some-clause-resident g c =
    let after : c.get.follows.lender-at-none.machine ≡ hit (g.K.PartialEq.eq c.args.key) c.self.inside.cache.machine = search rules in
    ap (value_of (g.K.PartialEq.eq c.args.key)) after ∙ hit_value g.K.PartialEq.eq g.met.K.Eq.laws _ c.self.invariant (g.K.PartialEq.eq c.args.key) c.args.key ∙ sym c.in-Some.ensures.value

pub returns-in-None-clause-machine : goal.returns-in-None-clause-machine
returns-in-None-clause-machine g c =
    let k = c.self.invariant in
    let after : c.get.follows.lender-at-none.machine ≡ hit (g.K.PartialEq.eq c.args.key) c.self.inside.cache.machine = search rules in
    let same = missed_hit g.K.PartialEq.eq g.met.K.Eq.laws _ k c.args.key c.in-None.ensures.value in
    rw (← c.self.view_is) (IfOk-weaker c.try_remember.result _ _ (λ v is. search (rules, is, after, same, fetched_anew g.K.PartialEq.eq g.met.K.Eq.laws _ k c.args.key c.in-None.ensures.value v)) c.try_remember.ensures.machine)

pub returns-in-None-clause-unchanged : goal.returns-in-None-clause-unchanged
returns-in-None-clause-unchanged g c =
    let after : c.get.follows.lender-at-none.machine ≡ hit (g.K.PartialEq.eq c.args.key) c.self.inside.cache.machine = search rules in
    let same = missed_hit g.K.PartialEq.eq g.met.K.Eq.laws _ c.self.invariant c.args.key c.in-None.ensures.value in
    rw (← c.self.view_is) (on_err_weaker c.try_remember.result (λ is. is ∙ after ∙ same) c.try_remember.ensures.unchanged)

pub returns-in-None-clause-absent : goal.returns-in-None-clause-absent
returns-in-None-clause-absent g c =
    rw (← c.self.view_is) (whatever c.try_remember.result (absent_if g.K.PartialEq.eq g.met.K.Eq.laws _ c.self.invariant c.args.key c.in-None.ensures.value))
  where
    whatever : {T E P : Type 0} (r : Result T E) → P → OnErr r P
    whatever (Ok v) p = tt
    whatever (Err e) p = p

pub returns-in-None-clause-evaluations : goal.returns-in-None-clause-evaluations
returns-in-None-clause-evaluations g c =
    rw (← c.self.view_is) (search (rules, c.try_remember.ensures.evaluations, evaluated_once g.K.PartialEq.eq g.met.K.Eq.laws _ c.self.invariant c.args.key c.in-None.ensures.value))

pub returns-in-Some-clause-value : goal.returns-in-Some-clause-value
returns-in-Some-clause-value g c = rw (← c.self.view_is) (λ h value computes. h value computes c.args.key _ (sym c.in-Some.ensures.value))

pub returns-in-Some-clause-remembers : goal.returns-in-Some-clause-remembers
returns-in-Some-clause-remembers g c =
    let after : c.get.follows.lender-at-none.machine ≡ hit (g.K.PartialEq.eq c.args.key) c.self.inside.cache.machine = search rules in
    rw (← c.self.view_is) (λ h. subst (HoldsValues g.K.PartialEq.eq (GivesOk g.F.Fn c.self.inside.evaluator.function)) (sym after) (kept-hit g.K.PartialEq.eq g.met.K.Eq.laws _ c.self.invariant _ h (g.K.PartialEq.eq c.args.key)))

pub returns-in-None-clause-value : goal.returns-in-None-clause-value
returns-in-None-clause-value g c = rw (← c.self.view_is) (IfOk-weaker c.try_remember.result _ _ (λ v gives h value computes. computes.one c.args.key v gives) c.try_remember.ensures.value)

pub returns-in-None-clause-remembers : goal.returns-in-None-clause-remembers
returns-in-None-clause-remembers g c =
    let after : c.get.follows.lender-at-none.machine ≡ hit (g.K.PartialEq.eq c.args.key) c.self.inside.cache.machine = search rules in
    rw (← c.self.view_is) (λ h. c.try_remember.ensures.remembers (subst (HoldsValues g.K.PartialEq.eq (GivesOk g.F.Fn c.self.inside.evaluator.function)) (sym after) (kept-hit g.K.PartialEq.eq g.met.K.Eq.laws _ c.self.invariant _ h (g.K.PartialEq.eq c.args.key))))
