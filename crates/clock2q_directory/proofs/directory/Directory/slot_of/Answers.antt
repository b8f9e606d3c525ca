use Rattle.clock2q_directory.proofs.Looking.{slots-read}
use Rattle.clock2q_directory.proofs.directory.Directory.slot_of.Goals as goal

pub find_counting_in-requires : goal.find_counting_in-requires
find_counting_in-requires g c = record { used = rw (slots-read c.self.inside.index c.args.hash c.handles.ensures.handles) (rw (← c.self.view_is) at c.requires.made) }

pub returns : goal.returns
returns g c = record { slot = rw (← c.self.view_is, ← slots-read c.self.inside.index c.args.hash c.handles.ensures.handles) c.find_counting_in.ensures.found }
