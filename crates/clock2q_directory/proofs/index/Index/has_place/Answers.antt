use Rattle.clock2q_directory.proofs.Names.{sym, ◌∙◌}
use Rattle.clock2q_directory.proofs.Larger.{place-listed, own-listed}
use Rattle.clock2q_directory.proofs.index.Index.has_place.Goals as goal

pub returns-then-is_shared : goal.returns-then-is_shared
returns-then-is_shared g c = record {
  has = (rw c.pack-handle.ensures.packed at c.is_among.ensures.among)
      ∙ place-listed c.args.self.now c.args.hash c.handles.result.left c.args.place (sym c.is_shared.ensures.shared ∙ c.if-is_shared.true) c.handles.ensures.handles;
}

pub returns : goal.returns
returns g c = record {
  has = c.is_among-2.ensures.among ∙ own-listed c.args.self.now c.args.hash c.own_places.result.left c.args.place (sym c.is_shared.ensures.shared ∙ c.if-is_shared.false) c.own_places.ensures.places;
}
