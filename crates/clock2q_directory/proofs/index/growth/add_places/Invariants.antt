use Rattle.clock2q_directory.proofs.Growing.{PlacesBelow}
use Rattle.clock2q_directory.proofs.index.growth.add_places.Given as goal

abbrev pub invariant-loop-place : goal.invariant-loop-place
invariant-loop-place g l = PlacesBelow l.fn.keys.entries l.fn.from l.fn.index l.place l.index
