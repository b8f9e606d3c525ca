use Rattle.std.proofs.Common.{◌≡◌, ◌*◌, ℕ, max, arith, subst}
use Rattle.std.proofs.lemmas.Bool.{cases_lt}
use Rattle.std.specs.Int.{IsNextPowerOfTwo}
use Rattle.clock2q_handles.specs.TableStep.{fit}
use Rattle.clock2q_handles.proofs.rebuild.Growth.{fit_from_power}
use Rattle.clock2q_handles.proofs.table.growth.slots_for.Goals as goal

pub returns-in_default-clause-count : goal.returns-in_default-clause-count
returns-in_default-clause-count c =
    let quarter : ℕ = c.in_ok-quarter.quarter in
    let is : fit c.args.entries ≡ max (quarter * 4) 16 = fit_from_power c.args.entries quarter (subst (λ n. IsNextPowerOfTwo n quarter) c.div_ceil.ensures c.in_ok-quarter.ensures) in
    grind (arith, is, c.in_default.ensures, cases_lt (quarter * 4) 18446744073709551616)
