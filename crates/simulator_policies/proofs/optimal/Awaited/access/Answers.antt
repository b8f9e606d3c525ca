use Rattle.std.proofs.Common.{◌≡◌, ◌<◌, suc, arith, add-one, get_or}
use Rattle.std.specs.NonZero.{non_zero_usize_get}
use Rattle.simulator_policies.specs.Awaited.{use_from}
use Rattle.simulator_policies.specs.Indices.{contains}
use Rattle.simulator_policies.proofs.AwaitedSteps.{joined, not_joined}
use Rattle.simulator_policies.proofs.optimal.Awaited.access.Goals as goal

pub returns-then-next_use-trace-clause-awaiting : goal.returns-then-next_use-trace-clause-awaiting
returns-then-next_use-trace-clause-awaiting g c =
    let a = rw add-one at c.leave-is_hit.ensures.awaiting in
    let some : 0 < non_zero_usize_get c.args.capacity = omega (arith, c.args.capacity.ok) in
    let next : get_or c.args.next.now c.args.at 0 ≡ use_from c.args.trace.now (suc c.args.at) (get_or c.args.trace.now c.args.at 0) = c.requires.next.each c.args.at c.requires.at in
    rw add-one (record {
      set = c.insert.ensures.set;
      wide = omega (arith, a.wide, c.insert.ensures.bound);
      waiting = joined (non_zero_usize_get c.args.capacity) some c.args.trace.now c.args.at (contains c.leave-is_hit.new.self.waiting) c.leave-is_hit.new.self.count a.waiting
          (get_or c.args.next.now c.args.at 0) (contains c.insert.new.self) next c.if-next_use-trace.true c.insert.ensures.added c.insert.ensures.others;
    })

pub returns-else-next_use-trace-clause-awaiting : goal.returns-else-next_use-trace-clause-awaiting
returns-else-next_use-trace-clause-awaiting g c =
    let a = rw add-one at c.leave-is_hit.ensures.awaiting in
    let some : 0 < non_zero_usize_get c.args.capacity = omega (arith, c.args.capacity.ok) in
    let next : get_or c.args.next.now c.args.at 0 ≡ use_from c.args.trace.now (suc c.args.at) (get_or c.args.trace.now c.args.at 0) = c.requires.next.each c.args.at c.requires.at in
    rw add-one (record {
      set = a.set;
      wide = a.wide;
      waiting = not_joined (non_zero_usize_get c.args.capacity) some c.args.trace.now c.args.at
          (contains c.leave-is_hit.new.self.waiting) c.leave-is_hit.new.self.count a.waiting (get_or c.args.next.now c.args.at 0) next
          c.if-next_use-trace.false;
    })
