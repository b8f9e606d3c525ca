use Rattle.std.proofs.Common.{◌≡◌, ◌∙◌, ◌+◌, sym, arith, add-one, cond, get_or}
use Rattle.std.specs.NonZero.{non_zero_usize_get}
use Rattle.clock2q_machine.specs.Hits.{is_in}
use Rattle.clock2q_machine.specs.Optimum.{optimal_hits}
use Rattle.simulator_policies.specs.Awaited.{optimal_at}
use Rattle.simulator_policies.proofs.AwaitedSteps.{hits_on}
use Rattle.simulator_policies.proofs.optimal.hits_by.Goals.{then-access, else-access}
use Rattle.simulator_policies.proofs.optimal.hits_by.Goals as goal

pub loop-at-preserved : goal.loop-at-preserved
loop-at-preserved g c =
    let held : is_in (get_or c.args.trace.now c.loop-at.at 0) (optimal_at (non_zero_usize_get c.args.capacity) c.args.trace.now c.loop-at.at) ≡ c.access.result = sym c.access.ensures.hit in
    let more : c.if-access.hits ≡
    c.loop-at.hits + cond
    (is_in (get_or c.args.trace.now c.loop-at.at 0)
    (optimal_at (non_zero_usize_get c.args.capacity) c.args.trace.now c.loop-at.at)) 1 0 = elim c.if-access.branch [
      | then-access w ↦ rw (held ∙ w.if-access.true) (omega arith)
      | else-access w ↦ rw (held ∙ w.if-access.false) (omega arith)
    ] in
    record {
      awaiting = c.access.ensures.awaiting;
      few = elim c.if-access.branch [ then-access w ↦ omega arith | else-access w ↦ omega arith ];
      so_far = rw add-one
          (hits_on (non_zero_usize_get c.args.capacity) c.args.trace.now c.loop-at.at c.loop-at.hits c.if-access.hits
          (optimal_hits (non_zero_usize_get c.args.capacity) c.args.trace.now) c.loop-at-test.true
          c.loop-at.invariant.so_far more);
    }
