use Rattle.std.proofs.Common.{◌+◌, refl, arith, add-one, length-set, get_or}
use Rattle.simulator_policies.proofs.Stamping.{stamped-front, stamps-set}
use Rattle.simulator_policies.proofs.LastAccesses.{entered}
use Rattle.simulator_policies.proofs.last_accesses.LastAccesses.enter.Goals as goal

pub returns-clause-recent : goal.returns-clause-recent
returns-clause-recent g c =
    rw add-one (stamped-front c.args.trace.now c.args.self.now.stamps.items 0
    (get_or c.args.trace.now c.args.at 0) c.args.at c.requires.stamped refl (c.requires.known c.args.at c.requires.at)
    (omega arith))

pub returns-clause-counting : goal.returns-clause-counting
returns-clause-counting g c = record {
  known = λ index before. omega (arith, c.requires.known index before, length-set c.args.self.now.stamps.items (get_or c.args.trace.now c.args.at 0) (c.args.at + 1));
  stamped = rw add-one (stamps-set c.args.trace.now c.args.self.now.stamps.items 0 (get_or c.args.trace.now c.args.at 0) c.args.at c.requires.stamped refl (c.requires.known c.args.at c.requires.at));
  counts = entered c.args.trace.now c.args.self.now.stamps.items c.args.at
      (get_or c.args.trace.now c.args.at 0) c.args.self.now.counts c.add.new.self c.requires.stamped
      (c.requires.known c.args.at c.requires.at) refl c.requires.counts c.add.ensures.tree c.add.ensures.blocks
      c.add.ensures.counted c.add.ensures.others c.add.ensures.most;
}
