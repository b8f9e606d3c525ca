-- Every layer has more room, and keeps what it holds.
use Rattle.clock2q_cache.proofs.Names.{rules, refl, arith, ap, IsAtLeast}
use Rattle.clock2q_cache.proofs.Growth.{kept-roomier, kept-grown, grows}
use Rattle.clock2q_cache.proofs.cache.Cache.grow_to.Goals as goal

pub invariant_of-self : goal.invariant_of-self
invariant_of-self g c = kept-roomier c.self.invariant refl refl c.reserve_exact.ensures.items (omega arith) (omega (arith, c.reserve_exact.ensures.capacity))

pub returns-in_err-reserve_exact-clause-policy : goal.returns-in_err-reserve_exact-clause-policy
returns-in_err-reserve_exact-clause-policy g c = search (rules, c.is_at_least.ensures.least.0 c.if-not-is_at_least.false, c.from_residual.ensures)

pub invariant_of-self-in_err-queues : goal.invariant_of-self-in_err-queues
invariant_of-self-in_err-queues g c = kept-roomier c.self.invariant refl refl c.reserve_exact.ensures.items (omega arith) (omega (arith, c.reserve_exact.ensures.capacity))

pub returns-in_err-queues-clause-policy : goal.returns-in_err-queues-clause-policy
returns-in_err-queues-clause-policy g c = search (rules, c.is_at_least.ensures.least.0 c.if-not-is_at_least.false, c.from_residual-in_err-queues.ensures)

pub grow-requires-clause-longer : goal.grow-requires-clause-longer
grow-requires-clause-longer g c = omega (arith, c.self.invariant.sized.remembers, ap (λ z. z.history) c.shares.view_is, (c.is_at_least.ensures.least.0 c.if-not-is_at_least.false).history)

pub invariant_of-self-in_err-grow : goal.invariant_of-self-in_err-grow
invariant_of-self-in_err-grow g c = kept-roomier c.self.invariant c.in_err-grow.ensures.refused c.grow.ensures.residents c.reserve_exact.ensures.items c.grow.ensures.more (omega (arith, c.reserve_exact.ensures.capacity))

pub returns-in_err-grow-clause-refused : goal.returns-in_err-grow-clause-refused
returns-in_err-grow-clause-refused g c = grind (arith, c.grow.ensures.residents, c.in_err-grow.ensures.refused, c.reserve_exact.ensures.items, c.self.view_is)

pub returns-in_err-grow-clause-policy : goal.returns-in_err-grow-clause-policy
returns-in_err-grow-clause-policy g c = search (rules, c.is_at_least.ensures.least.0 c.if-not-is_at_least.false, c.from_residual-in_err-grow.ensures)

pub invariant_of-self-2 : goal.invariant_of-self-2
invariant_of-self-2 g c =
    let is = c.shares.view_is in
    kept-grown g.met.K.Eq.laws c.self.invariant (rw is at c.shares.invariant) (omega (arith, c.requires)) (c.is_at_least.ensures.least.0 c.if-not-is_at_least.false)
    (ap (λ z. z.capacity) is) (ap (λ z. z.window) is) (ap (λ z. z.history) is) c.in_ok-queues.ensures.grown
    c.grow.ensures.residents c.reserve_exact.ensures.items c.in_ok-grow.ensures.grown c.in_ok-grow.ensures.room (omega (arith, c.in_ok-reserve_exact.ensures.ok, c.len.ensures, ap (λ z. z.capacity) is))

pub returns-clause-grown : goal.returns-clause-grown
returns-clause-grown g c =
    rw (← c.self.view_is) (grows c.self.invariant c.is_at_least.ensures.policy c.in_ok-queues.ensures.grown c.in_ok-queues.ensures.accesses c.in_ok-queues.ensures.within c.grow.ensures.residents c.reserve_exact.ensures.items c.in_ok-grow.ensures.grown)

pub returns-clause-policy : goal.returns-clause-policy
returns-clause-policy g c =
    let least : IsAtLeast c.args.self.now.machine.shares c.args.shares = rw (← c.self.view_is) (c.is_at_least.ensures.least.0 c.if-not-is_at_least.false) in
    ((λ e at. search rules), (λ no. absurd (no least)))
