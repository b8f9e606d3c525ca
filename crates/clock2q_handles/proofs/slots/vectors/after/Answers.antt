use Rattle.std.proofs.Common.{◌+◌, arith}
use Rattle.clock2q_handles.proofs.shifts.Cells.{slot_mask}
use Rattle.clock2q_handles.proofs.slots.vectors.after.Goals as goal

pub returns-clause-after : goal.returns-clause-after
returns-clause-after c = grind (arith, slot_mask (c.args.slot + 1) (c.args.mask + 1) c.requires.count (omega arith))
