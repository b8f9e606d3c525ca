use Rattle.clock2q_directory.proofs.Growing.{SlotsBelow}
use Rattle.clock2q_directory.proofs.index.growth.add_slots.Given as goal

abbrev pub invariant-loop-slot : goal.invariant-loop-slot
invariant-loop-slot g l = SlotsBelow l.fn.keys.entries l.fn.from l.fn.index l.slot l.index
