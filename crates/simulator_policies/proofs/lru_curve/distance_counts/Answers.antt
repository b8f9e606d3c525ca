use Rattle.std.proofs.Common.{◌≡◌, ℕ, ◌+◌, ◌<◌, suc, refl, sym, ap, ◌∙◌, arith, false, cond, eqb, ltb, [], ◌∷◌, length, length-set, length-append, get_or}
use Rattle.std.specs.List.{IsDistinct}
use Rattle.std.proofs.lemmas.List.{get_or_default}
use Rattle.simulator_policies.specs.declared.plain.PlainPolicy.TheVariants.{LeastRecentlyUsed}
use Rattle.simulator_policies.specs.Policies.{plain_hits}
use Rattle.simulator_policies.specs.StackDistances.{recent_after, is_below}
use Rattle.simulator_policies.specs.LastAccesses.{recent_by}
use Rattle.simulator_policies.proofs.StackDistances.{held-apart, distance-within}
use Rattle.simulator_policies.proofs.Curve.{sum_to, sum-counted-read, sum-pushed, at-most-one, long-again, long-new, hits-further, nothing-counted, hits-at-first}
use Rattle.simulator_policies.proofs.lru_curve.distance_counts.Goals.{in-Some, in-None+in_ok-push-in-None}
use Rattle.simulator_policies.proofs.lru_curve.distance_counts.Goals as goal

pub loop-at-init : goal.loop-at-init
loop-at-init g c = record {
  counting = c.in_ok-accesses.ensures.counting;
  long = ap (length {A = ℕ}) c.new-counts.ensures.items;
  few = λ n. omega (arith, nothing-counted c.new-counts.result.items c.new-counts.ensures.items n);
  so_far = λ capacity some. hits-at-first c.args.trace.now c.new-counts.result.items c.new-counts.ensures.items capacity;
}

pub index_mut-requires : goal.index_mut-requires
index_mut-requires g c =
    let near : c.in-Some.distance < length (recent_by c.args.trace.now c.loop-at.at c.loop-at.accesses) =
    distance-within (get_or c.args.trace.now c.loop-at.at 0) c.in-Some.distance
    (recent_by c.args.trace.now c.loop-at.at c.loop-at.accesses) (sym c.in-Some.ensures.distance) in
    omega (arith, near, c.loop-at.invariant.long)

pub overflow_add-index_mut : goal.overflow_add-index_mut
overflow_add-index_mut g c =
    let near : c.in-Some.distance < length (recent_by c.args.trace.now c.loop-at.at c.loop-at.accesses) =
    distance-within (get_or c.args.trace.now c.loop-at.at 0) c.in-Some.distance
    (recent_by c.args.trace.now c.loop-at.at c.loop-at.accesses) (sym c.in-Some.ensures.distance) in
    let read : c.index_mut.result.now ≡ get_or c.loop-at.counts.items c.in-Some.distance 0 =
    c.index_mut.ensures.value
    ∙ get_or_default c.loop-at.counts.items c.in-Some.distance c.index_mut.result.now 0
    (omega (arith, near, c.loop-at.invariant.long)) in
    let here : 0 + c.in-Some.distance ≡ c.in-Some.distance = omega arith in
    omega (arith, read, ap (λ i. get_or c.loop-at.counts.items i 0) here, c.loop-at.invariant.few (suc c.in-Some.distance))

pub loop-at-preserved : goal.loop-at-preserved
loop-at-preserved g c =
    let apart : IsDistinct eqb (recent_by c.args.trace.now c.loop-at.at c.loop-at.accesses) = held-apart c.args.trace.now c.loop-at.accesses.stamps.items 0 c.loop-at.at in
    let longer : length c.match-access.counts.items ≡
    length (recent_after (get_or c.args.trace.now c.loop-at.at 0)
    (recent_by c.args.trace.now c.loop-at.at c.loop-at.accesses)) = elim c.match-access.branch [
      | in-Some w ↦ rw w.counts-is
          (length-set c.loop-at.counts.items w.in-Some.distance (w.index_mut.result.now + 1) ∙ c.loop-at.invariant.long
          ∙ sym (long-again (get_or c.args.trace.now c.loop-at.at 0) w.in-Some.distance
          (recent_by c.args.trace.now c.loop-at.at c.loop-at.accesses) apart (sym w.in-Some.ensures.distance)))
      | in-None+in_ok-push-in-None w ↦ rw w.counts-is (omega (
        arith,
        ap (length {A = ℕ}) w.in_ok-push-in-None.ensures.items,
        length-append {A = ℕ} c.loop-at.counts.items (0 ∷ []),
        c.loop-at.invariant.long,
        long-new (get_or c.args.trace.now c.loop-at.at 0) (recent_by c.args.trace.now c.loop-at.at c.loop-at.accesses) (sym w.in-None.ensures.distance),
      ))
    ] in
    let sums : (n : ℕ) → sum_to c.match-access.counts.items n ≡ sum_to c.loop-at.counts.items n + cond (is_below n c.access.result) 1 0 = λ n. elim c.match-access.branch [
      | in-Some w ↦
          let below : is_below n c.access.result ≡ ltb w.in-Some.distance n = ap (is_below n) w.in-Some.is in
          let near : w.in-Some.distance < length (recent_by c.args.trace.now c.loop-at.at c.loop-at.accesses) =
          distance-within (get_or c.args.trace.now c.loop-at.at 0) w.in-Some.distance
          (recent_by c.args.trace.now c.loop-at.at c.loop-at.accesses) (sym w.in-Some.ensures.distance) in
          rw w.counts-is (sum-counted-read c.loop-at.counts.items w.in-Some.distance n w.index_mut.result.now
          (omega (arith, near, c.loop-at.invariant.long)) w.index_mut.ensures.value
          ∙ sym (ap (λ b. sum_to c.loop-at.counts.items n + cond b 1 0) below))
      | in-None+in_ok-push-in-None w ↦
          let far : is_below n c.access.result ≡ false = ap (is_below n) w.in-None.is in
          let none : ◌≡◌ {A = ℕ} (cond (is_below n c.access.result) 1 0) 0 = rw far refl in
          rw w.counts-is (omega (arith, none, ap (λ counts. sum_to counts n) w.in_ok-push-in-None.ensures.items, sum-pushed c.loop-at.counts.items n))
    ] in
    record {
      counting = c.access.ensures.counting;
      long = longer ∙ sym (ap (length {A = ℕ}) c.access.ensures.recent);
      few = λ n. omega (arith, sums n, c.loop-at.invariant.few n, at-most-one (is_below n c.access.result));
      so_far = λ capacity some.
          hits-further c.args.trace.now (recent_by c.args.trace.now c.loop-at.at c.loop-at.accesses)
          (recent_by c.args.trace.now (c.loop-at.at + 1) c.access.new.self) c.loop-at.at capacity
          (sum_to c.loop-at.counts.items capacity) (sum_to c.match-access.counts.items capacity)
          (plain_hits LeastRecentlyUsed capacity c.args.trace.now) c.access.result
          c.loop-at-test.true some apart c.access.ensures.distance c.access.ensures.recent (c.loop-at.invariant.so_far capacity some) (sums capacity);
    }

pub returns-clause-few : goal.returns-clause-few
returns-clause-few g c = λ n.
    let few : sum_to c.loop-at.counts.items n < 18446744073709551616 = omega (arith, c.loop-at.invariant.few n) in
    few
