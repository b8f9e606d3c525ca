use Rattle.std.proofs.Common.{ap, ◌∙◌}
use Rattle.clock2q_directory.specs.Index.{left}
use Rattle.tests_queues.proofs.Residents.{is-resident, same_hash, withdrawn-alone}
use Rattle.tests_queues.proofs.beside.leave.Goals as goal

pub leave-requires : goal.leave-requires
leave-requires g c = record { resident = is-resident c.requires.resident }

pub returns : goal.returns
returns g c =
    let l = c.leave.ensures.left in
    let h = c.args.directory.now.history in
    let is = l.becomes ∙ ap (λ x. record h { places = record h.places { index = left x 0 h.places.index } }) (same_hash c.requires.resident l.had) in
    record { alone = rw c.leave.ensures.kept (withdrawn-alone c.requires.resident c.leave.new.self.history is) }
