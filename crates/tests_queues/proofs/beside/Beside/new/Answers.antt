use Rattle.std.proofs.Common.{ap, ℕ, arith}
use Rattle.clock2q_directory.specs.Directory.{Known}
use Rattle.tests_queues.proofs.Residents.{new-alone}
use Rattle.tests_queues.proofs.beside.Beside.new.Goals as goal

pub invariant_of-result : goal.invariant_of-result
invariant_of-result g c =
    let made = c.in_ok-new.ensures.made in
    new-alone c.from.result c.max.result _ _ (omega (arith, c.max.ensures)) (omega (arith, c.from.ensures, c.ranges.limit.fits))
    (ap (λ (z : Known ℕ (Unit {0})). z.history) made) (ap (λ (z : Known ℕ (Unit {0})). z.residents) made)
