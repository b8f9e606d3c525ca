use Rattle.clock2q_directory.proofs.Names.{refl, sym, subst, IsSome}
use Rattle.clock2q_directory.proofs.Looking.{slots-read}
use Rattle.clock2q_directory.proofs.directory.Directory.find_resident.Goals as goal

pub find-found-requires : goal.find-found-requires
find-found-requires g c = record {
  walking = subst IsSome (sym c.handles.ensures.end) refl;
  used = rw (slots-read c.self.inside.index c.args.hash c.handles.ensures.handles) (rw (← c.self.view_is) at c.requires.made);
}

pub returns-clause-slot : goal.returns-clause-slot
returns-clause-slot g c = rw (← c.self.view_is, ← slots-read c.self.inside.index c.args.hash c.handles.ensures.handles) c.find-found.ensures.found

pub returns-clause-counted : goal.returns-clause-counted
returns-clause-counted g c = rw (← c.self.view_is, ← slots-read c.self.inside.index c.args.hash c.handles.ensures.handles) c.find-found.ensures.counted
