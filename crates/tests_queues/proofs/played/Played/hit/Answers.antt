use Rattle.std.proofs.Common.{sym, ◌∙◌}
use Rattle.clock2q_queues.specs.Queues.{slots_of}
use Rattle.tests_queues.proofs.Either.{in_either}
use Rattle.tests_queues.proofs.played.Played.hit.Goals as goal

pub hit-requires : goal.hit-requires
hit-requires g c =
    let q = c.self.inside.queues in
    record { resident = in_either c.args.slot (slots_of q.small) (slots_of q.main) (sym c.is_resident.ensures.resident ∙ c.if-is_resident.true) }
