use Rattle.std.proofs.Common.{◌≡◌, ◌++◌, arith, rules}
use Rattle.std.proofs.lemmas.Grind.{common_steps}
use Rattle.simulator_traces.proofs.KeyBytes.{long-more}
use Rattle.simulator_traces.proofs.key_bytes.add_key.Goals as goal

pub returns-else-key-lt16-clause-added : goal.returns-else-key-lt16-clause-added
returns-else-key-lt16-clause-added g c =
    let others = c.args.others.now.items in
    let records = c.args.records.now.items in
    let key = c.args.key.now in
    let more : c.extend_from_slice.new.self.items ≡ others ++ key = grind (arith, common_steps) in
    rw (more, c.push_reserved-2.ensures.items)
    (long-more others key records c.requires.kept c.long.result c.long.ensures.long (search (rules, c.long.ensures.start, c.len.ensures)) c.long.ensures.size)
