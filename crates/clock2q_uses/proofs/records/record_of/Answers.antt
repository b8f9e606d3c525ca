use Rattle.std.proofs.Common.{rules}
use Rattle.clock2q_uses.proofs.Recording.{record_missing, record_read, records_read}
use Rattle.clock2q_uses.proofs.records.record_of.Goals as goal

pub returns-clause-found : goal.returns-clause-found
returns-clause-found g c had =
    record_read c.args.file.now c.args.records.now.machine c.args.number had c.read_through.result c.read_through.ensures.value (λ v gave. search rules)

pub returns-clause-missing : goal.returns-clause-missing
returns-clause-missing g c =
    record_missing c.args.file.now c.args.records.now.machine c.args.number c.read_through.result c.read_through.ensures.err (λ e failed. search rules)

pub returns-clause-keeps : goal.returns-clause-keeps
returns-clause-keeps g c had =
    let e = c.read_through.ensures in
    records_read c.args.file.now c.args.records.now.machine c.args.number had c.facts.ensures.whole
    c.read_through.new.cache.machine c.read_through.result e.machine e.value e.unchanged (λ v gave. search rules)
