-- The value is that of the command, if the key is new.
use Rattle.std.proofs.Common.{rules, ◌∙◌}
use Rattle.clock2q_command.proofs.Fetching.{fetched-given}
use Rattle.clock2q_command.proofs.commands.fetch.Goals as goal

pub returns : goal.returns
returns g c =
    let h = fetched-given (g.K.PartialEq.eq c.args.key) c.args.key c.args.cache.now.machine _ c.get_or_insert_with.result.now c.args.value (λ w gave. search rules) c.get_or_insert_with.ensures.value in
    let spent = c.get_or_insert_with.follows.holds-at-none.2 in
    record { value = h.0; machine = c.get_or_insert_with.follows.holds-at-none.0 ∙ h.1; known = c.get_or_insert_with.follows.holds-at-none.3; hasher = c.get_or_insert_with.follows.holds-at-none.1; costs = record { counts = spent.counts; index = spent.index; clock = spent.clock } }
