-- A key that isn't resident.
use Rattle.std.proofs.Common.{ap, sym, ◌∙◌}
use Rattle.clock2q_machine.specs.Steps.{replaced_at}
use Rattle.clock2q_command.proofs.Fetching.{at_none}
use Rattle.clock2q_command.proofs.commands.set.Goals as goal

pub returns-in_err-held-clause-machine : goal.returns-in_err-held-clause-machine
returns-in_err-held-clause-machine g c =
    (at_none c.get_mut.result c.in_err-held.was c.get_mut.follows.holds-at-none).0
    ∙ sym (ap (λ o. replaced_at (g.K.PartialEq.eq c.args.key.now) c.args.value o c.args.cache.now.machine) (at_none c.get_mut.result c.in_err-held.was c.get_mut.ensures.missed))
