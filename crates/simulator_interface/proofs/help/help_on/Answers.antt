use Rattle.std.proofs.Common.{◌≡◌, true, false, refl, rules}
use Rattle.std.specs.Prelude.{codes}
use Rattle.std.specs.Str.{bytes_eq}
use Rattle.simulator_interface.specs.Help.{help_on}
use Rattle.simulator_interface.proofs.help.help_on.Goals as goal

pub returns-then-eq : goal.returns-then-eq
unfolding help_on
returns-then-eq c =
    let is : bytes_eq c.args.subject.now (codes "formats") ≡ true = search rules in
    record { text = rw is refl }

pub returns-then-eq-2 : goal.returns-then-eq-2
unfolding help_on
returns-then-eq-2 c =
    let not : bytes_eq c.args.subject.now (codes "formats") ≡ false = search rules in
    let is : bytes_eq c.args.subject.now (codes "policies") ≡ true = search rules in
    record { text = rw (not, is) refl }

pub returns-else-eq-2 : goal.returns-else-eq-2
unfolding help_on
returns-else-eq-2 c =
    let not : bytes_eq c.args.subject.now (codes "formats") ≡ false = search rules in
    let nor : bytes_eq c.args.subject.now (codes "policies") ≡ false = search rules in
    record { text = rw (not, nor) refl }
