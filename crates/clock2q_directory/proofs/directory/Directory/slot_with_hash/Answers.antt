use Rattle.clock2q_directory.proofs.Looking.{slots-read}
use Rattle.clock2q_directory.proofs.directory.Directory.slot_with_hash.Goals as goal

pub with_hash-requires : goal.with_hash-requires
with_hash-requires g c = record { used = rw (slots-read c.self.inside.index c.args.hash c.handles.ensures.handles) (rw (← c.self.view_is) at c.requires.made) }

pub returns : goal.returns
returns g c = record { slot = rw (← c.self.view_is, ← slots-read c.self.inside.index c.args.hash c.handles.ensures.handles) c.with_hash.ensures.found }
