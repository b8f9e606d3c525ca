use Rattle.std.proofs.Common.{◌≡◌, ◌∙◌, ◌+◌, ◌-◌, ◌<◌, ◌≤◌, true, false, sym, arith, add-one}
use Rattle.std.specs.NonZero.{non_zero_usize_get}
use Rattle.simulator_policies.specs.Awaited.{optimal_at}
use Rattle.simulator_policies.specs.Indices.{contains}
use Rattle.simulator_policies.proofs.Awaited.{some_wait}
use Rattle.simulator_policies.proofs.AwaitedSteps.{hits_if_waited, rest_hit, rest_room, rest_full, rest_none}
use Rattle.simulator_policies.proofs.optimal.Awaited.leave.Goals as goal

pub overflow_sub-self : goal.overflow_sub-self
overflow_sub-self g c =
    let a = c.requires.awaiting in
    let waited : contains c.args.self.now.waiting c.args.at ≡ true = sym c.contains.ensures.held ∙ c.if-contains.true in
    omega (
      arith,
      some_wait c.args.trace.now c.args.at
          (optimal_at (non_zero_usize_get c.args.capacity) c.args.trace.now c.args.at)
          (contains c.args.self.now.waiting) c.args.self.now.count c.args.at a.waiting waited,
    )

pub returns-then-contains-clause-awaiting : goal.returns-then-contains-clause-awaiting
returns-then-contains-clause-awaiting g c =
    let a = c.requires.awaiting in
    let some : 0 < non_zero_usize_get c.args.capacity = omega (arith, c.args.capacity.ok) in
    let waited : contains c.args.self.now.waiting c.args.at ≡ true = sym c.contains.ensures.held ∙ c.if-contains.true in
    let wait : 0 < c.args.self.now.count =
    some_wait c.args.trace.now c.args.at (optimal_at (non_zero_usize_get c.args.capacity) c.args.trace.now c.args.at)
    (contains c.args.self.now.waiting) c.args.self.now.count c.args.at a.waiting waited in
    let fewer : c.args.self.now.count ≡ c.args.self.now.count - 1 + 1 = omega (arith, wait) in
    rw add-one (record {
      set = c.remove.ensures.set;
      wide = omega (arith, a.wide, c.remove.ensures.bound);
      waiting = rest_hit (non_zero_usize_get c.args.capacity) some c.args.trace.now c.args.at c.requires.at (contains c.args.self.now.waiting) c.args.self.now.count a.waiting waited
          (contains c.remove.new.self) (c.args.self.now.count - 1) c.remove.ensures.removed c.remove.ensures.others fewer;
    })

pub returns-then-self-get-clause-awaiting : goal.returns-then-self-get-clause-awaiting
returns-then-self-get-clause-awaiting g c =
    let a = c.requires.awaiting in
    let some : 0 < non_zero_usize_get c.args.capacity = omega (arith, c.args.capacity.ok) in
    let unwaited : contains c.args.self.now.waiting c.args.at ≡ false = sym c.contains.ensures.held ∙ c.if-contains.false in
    let below : c.args.self.now.count < non_zero_usize_get c.args.capacity = omega (arith, c.if-self-get.true, c.get.ensures.value) in
    rw add-one (record {
      set = a.set;
      wide = a.wide;
      waiting = rest_room (non_zero_usize_get c.args.capacity) some c.args.trace.now c.args.at c.requires.at (contains c.args.self.now.waiting) c.args.self.now.count a.waiting unwaited below;
    })

pub returns-in_default-clause-awaiting : goal.returns-in_default-clause-awaiting
returns-in_default-clause-awaiting g c =
    let a = c.requires.awaiting in
    let some : 0 < non_zero_usize_get c.args.capacity = omega (arith, c.args.capacity.ok) in
    let unwaited : contains c.args.self.now.waiting c.args.at ≡ false = sym c.contains.ensures.held ∙ c.if-contains.false in
    let all : non_zero_usize_get c.args.capacity ≤ c.args.self.now.count = omega (arith, c.if-self-get.false, c.get.ensures.value) in
    absurd (rest_none (non_zero_usize_get c.args.capacity) some c.args.trace.now c.args.at c.requires.at
    (contains c.args.self.now.waiting) c.args.self.now.count a.waiting unwaited all c.in_default.ensures.last)

pub returns-in_default-clause-room : goal.returns-in_default-clause-room
returns-in_default-clause-room g c =
    let a = c.requires.awaiting in
    let some : 0 < non_zero_usize_get c.args.capacity = omega (arith, c.args.capacity.ok) in
    let unwaited : contains c.args.self.now.waiting c.args.at ≡ false = sym c.contains.ensures.held ∙ c.if-contains.false in
    let all : non_zero_usize_get c.args.capacity ≤ c.args.self.now.count = omega (arith, c.if-self-get.false, c.get.ensures.value) in
    absurd (rest_none (non_zero_usize_get c.args.capacity) some c.args.trace.now c.args.at c.requires.at
    (contains c.args.self.now.waiting) c.args.self.now.count a.waiting unwaited all c.in_default.ensures.last)

pub returns-clause-awaiting : goal.returns-clause-awaiting
returns-clause-awaiting g c =
    let a = c.requires.awaiting in
    let some : 0 < non_zero_usize_get c.args.capacity = omega (arith, c.args.capacity.ok) in
    let unwaited : contains c.args.self.now.waiting c.args.at ≡ false = sym c.contains.ensures.held ∙ c.if-contains.false in
    let all : non_zero_usize_get c.args.capacity ≤ c.args.self.now.count = omega (arith, c.if-self-get.false, c.get.ensures.value) in
    let fewer : c.args.self.now.count ≡ c.args.self.now.count - 1 + 1 = omega (arith, all, some) in
    rw add-one (record {
      set = c.remove-2.ensures.set;
      wide = omega (arith, a.wide, c.remove-2.ensures.bound);
      waiting = rest_full (non_zero_usize_get c.args.capacity) some c.args.trace.now c.args.at c.requires.at (contains c.args.self.now.waiting) c.args.self.now.count a.waiting unwaited all
          (contains c.remove-2.new.self) (c.args.self.now.count - 1) c.in-Some.last c.in-Some.ensures.last.inside c.in-Some.ensures.last.latest c.remove-2.ensures.removed c.remove-2.ensures.others fewer;
    })

pub returns-then-self-get-clause-hit : goal.returns-then-self-get-clause-hit
returns-then-self-get-clause-hit g c =
    let unwaited : contains c.args.self.now.waiting c.args.at ≡ false = sym c.contains.ensures.held ∙ c.if-contains.false in
    let some : 0 < non_zero_usize_get c.args.capacity = omega (arith, c.args.capacity.ok) in
    sym unwaited
    ∙ hits_if_waited (non_zero_usize_get c.args.capacity) some c.args.trace.now c.args.at c.requires.at (contains c.args.self.now.waiting) c.args.self.now.count c.requires.awaiting.waiting

pub returns-in_default-clause-hit : goal.returns-in_default-clause-hit
returns-in_default-clause-hit g c =
    let unwaited : contains c.args.self.now.waiting c.args.at ≡ false = sym c.contains.ensures.held ∙ c.if-contains.false in
    let some : 0 < non_zero_usize_get c.args.capacity = omega (arith, c.args.capacity.ok) in
    sym unwaited
    ∙ hits_if_waited (non_zero_usize_get c.args.capacity) some c.args.trace.now c.args.at c.requires.at (contains c.args.self.now.waiting) c.args.self.now.count c.requires.awaiting.waiting

pub returns-clause-hit : goal.returns-clause-hit
returns-clause-hit g c =
    let unwaited : contains c.args.self.now.waiting c.args.at ≡ false = sym c.contains.ensures.held ∙ c.if-contains.false in
    let some : 0 < non_zero_usize_get c.args.capacity = omega (arith, c.args.capacity.ok) in
    sym unwaited
    ∙ hits_if_waited (non_zero_usize_get c.args.capacity) some c.args.trace.now c.args.at c.requires.at (contains c.args.self.now.waiting) c.args.self.now.count c.requires.awaiting.waiting
