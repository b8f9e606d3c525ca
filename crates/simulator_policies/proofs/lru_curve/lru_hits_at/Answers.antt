use Rattle.std.proofs.Common.{◌≡◌, ◌<◌, ap, ◌∙◌, arith, [], ◌∷◌, ◌++◌}
use Rattle.std.specs.NonZero.{non_zero_usize_get}
use Rattle.simulator_policies.specs.declared.plain.PlainPolicy.TheVariants.{LeastRecentlyUsed}
use Rattle.simulator_policies.specs.Policies.{plain_hits}
use Rattle.simulator_policies.proofs.Curve.{sum_to, map-further}
use Rattle.simulator_policies.proofs.lru_curve.lru_hits_at.Goals as goal

pub sum_below-requires : goal.sum_below-requires
sum_below-requires g c = record {
  fits = λ n.
      let few : sum_to c.deref.result.now n < 18446744073709551616 = omega (arith, ap (λ counts. sum_to counts n) c.deref.ensures.value, c.in_ok-counts.ensures.few n) in
      few;
}

pub loop-capacity-preserved : goal.loop-capacity-preserved
loop-capacity-preserved g c =
    let some : 0 < non_zero_usize_get c.capacity-item.result = omega (arith, c.get.ensures.value, c.get.ensures.nonzero) in
    let hits : c.sum_below.result ≡ plain_hits LeastRecentlyUsed (non_zero_usize_get c.capacity-item.result) c.args.trace.now =
    c.sum_below.ensures ∙ ap (sum_to c.deref.result.now) c.get.ensures.value
    ∙ ap (λ counts. sum_to counts (non_zero_usize_get c.capacity-item.result)) c.deref.ensures.value
    ∙ c.in_ok-counts.ensures.hits (non_zero_usize_get c.capacity-item.result) some in
    map-further (λ capacity. plain_hits LeastRecentlyUsed (non_zero_usize_get capacity) c.args.trace.now) c.args.capacities.now
    c.loop-capacity.hits.items c.push.new.self.items c.loop-capacity.capacity-index c.capacity-item.result
    c.loop-capacity-test.true c.capacity-item.is c.loop-capacity.invariant
    (c.in_ok-push.ensures.items ∙ ap (λ n. c.loop-capacity.hits.items ++ n ∷ []) hits)
