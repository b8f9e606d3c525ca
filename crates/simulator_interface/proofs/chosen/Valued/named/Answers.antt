use Rattle.std.proofs.Common.{◌≡◌, ◌∙◌, ap, rules}
use Rattle.std.specs.Option.{is_some}
use Rattle.simulator_interface.specs.AskedOptions.{option_named}
use Rattle.simulator_interface.proofs.AskedOptions.{named-takes}
use Rattle.simulator_interface.proofs.chosen.Valued.named.Goals as goal

pub returns-clause-named : goal.returns-clause-named
returns-clause-named c =
    let option : c.or.result ≡ option_named c.args.name.now = search rules in
    ap is_some option ∙ named-takes c.args.name.now
