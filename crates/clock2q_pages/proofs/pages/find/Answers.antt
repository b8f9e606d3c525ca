-- A hit moves no page.
use Rattle.std.proofs.Common.{eqb, ap, ◌∙◌}
use Rattle.clock2q_machine.specs.Machine.{hit}
use Rattle.clock2q_machine.proofs.Entering.{same_slots, weight-hit}
use Rattle.clock2q_pages.specs.Pages.{resident_frame}
use Rattle.clock2q_pages.proofs.pages.find.Goals as goal

pub returns-clause-stay : goal.returns-clause-stay
returns-clause-stay g c =
    let m = c.args.pages.now.machine in
    λ other. ap (λ m. resident_frame m other) c.slot.ensures.machine ∙ same_slots eqb (hit (eqb c.args.page) m) m c.facts.ensures.whole (λ w. weight-hit w (eqb c.args.page) m) other
