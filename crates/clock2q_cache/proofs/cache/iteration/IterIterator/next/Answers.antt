-- The resident that is found is the first that is left.
use Rattle.clock2q_cache.proofs.Names.{ℕ, List, length, arith, ap}
use Rattle.clock2q_cache.proofs.Iteration.{entries-there, some-left}
use Rattle.clock2q_cache.proofs.cache.iteration.IterIterator.next.Goals as goal

pub overflow_sub-self : goal.overflow_sub-self
overflow_sub-self g c = grind (arith, c.self.invariant, c.in_ok-slot.ensures.first, some-left, c.in_ok-slot.ensures.made, c.in_ok-slot.ensures.resident)

-- while entries are left there is a next one
pub invariant_of-self : goal.invariant_of-self
invariant_of-self g c = grind (arith, c.in_err-slot.ensures.none, c.if-self-eq0.false, c.self.invariant.left_is)

pub invariant_of-self-2 : goal.invariant_of-self-2
invariant_of-self-2 g c = record {
  left_is = grind (arith, c.in_ok-slot.ensures.first, entries-there, c.in_ok-slot.ensures.made, c.key.ensures, c.value.ensures, c.self.invariant.left_is);
  once = omega (arith, c.in_ok-slot.ensures.looks, c.self.invariant.once);
}

pub returns-clause-steps : goal.returns-clause-steps
returns-clause-steps g c = grind (arith, c.self.view_is, c.in_ok-slot.ensures.first, entries-there, c.in_ok-slot.ensures.made, c.key.ensures, c.value.ensures)

pub returns-clause-goes : goal.returns-clause-goes
returns-clause-goes g c = record {
  on = λ _. (tt, tt, omega (arith, ap (λ (entries : List (g.row.K.Denot × ℕ × g.row.V.Denot)). length entries) (returns-clause-steps g c)));
  keeps = tt;
  rests = λ _. tt;
}
