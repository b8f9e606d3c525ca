use Rattle.std.proofs.Common.{◌≡◌, ◌∙◌, ◌-◌, ◌<◌, ℕ, suc, arith, length, length-set, get_or, subst}
use Rattle.simulator_policies.proofs.AwaitedSteps.{AreSoonest, AreNext, soonest_step, next_step}
use Rattle.simulator_policies.proofs.optimal.next_uses.Goals as goal

pub loop-at-preserved : goal.loop-at-preserved
loop-at-preserved g c =
    let trace = c.args.trace.now in
    let last : ℕ = c.loop-at.at - 1 in
    let i = c.loop-at.invariant in
    let within : last < length trace = omega arith in
    let next : c.loop-at.at ≡ suc last = omega arith in
    let below : get_or trace last 0 < c.args.keys = c.requires.below last within in
    let are = subst (λ n. AreSoonest trace c.args.keys n c.loop-at.soonest.items) next i.soonest in
    let are_next = subst (λ n. AreNext trace n c.loop-at.next.items) next i.next in
    record {
      keys = length-set c.loop-at.soonest.items (get_or trace last 0) last ∙ i.keys;
      long = length-set c.loop-at.next.items last c.index.result.now ∙ i.long;
      soonest = soonest_step trace c.loop-at.soonest.items c.loop-at.next.items c.args.keys last within i.keys i.long below are are_next;
      next = next_step trace c.loop-at.soonest.items c.loop-at.next.items c.args.keys last within i.keys i.long below are are_next c.index.result.now c.index.ensures;
    }
