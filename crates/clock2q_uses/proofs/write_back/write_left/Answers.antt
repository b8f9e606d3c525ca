-- The block that is written is the only one whose mark changes.
use Rattle.std.proofs.Common.{false}
use Rattle.clock2q_uses.proofs.ReadingBack.{is_other, mark_elsewhere}
use Rattle.clock2q_uses.proofs.write_back.write_left.Goals as goal

pub returns-then-dirty-left-clause-clean : goal.returns-then-dirty-left-clause-clean
returns-then-dirty-left-clause-clean g c k stays =
    mark_elsewhere c.args.dirty.now c.in-Some.left k false
    (stays (c.in-Some.left, c.in-Some.block) (is_other c.args.number c.in-Some.left c.in-Some.block c.args.handed c.in-Some.is c.if-number-left.true))
