use Rattle.clock2q_directory.proofs.Names.{◌∙◌}
use Rattle.clock2q_directory.proofs.Larger.{slot-listed}
use Rattle.clock2q_directory.proofs.index.Index.has_slot.Goals as goal

pub returns : goal.returns
returns g c = record { has = c.is_among.ensures.among ∙ slot-listed c.args.self.now c.args.hash c.handles.result.left c.args.slot c.requires.below c.handles.ensures.handles }
