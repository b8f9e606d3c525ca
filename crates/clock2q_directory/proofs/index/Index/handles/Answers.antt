use Rattle.clock2q_directory.proofs.Names.{ap, ◌∙◌, index_of, is_shared, places_among}
use Rattle.clock2q_directory.proofs.Views.{no-places}
use Rattle.clock2q_directory.proofs.index.Index.handles.Goals as goal

pub returns-clause-apart : goal.returns-clause-apart
returns-clause-apart g c apart =
    let v = index_of c.self.inside.shared c.self.inside.own c.self.inside.charged.total in
    ap places_among c.get_in_slots.ensures.candidates ∙ no-places v c.args.hash (c.self.invariant.sorted.apart (ap is_shared c.self.view_is ∙ apart))
