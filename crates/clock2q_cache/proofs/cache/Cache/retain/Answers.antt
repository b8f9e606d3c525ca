-- The closure is called for each resident, which leaves if it is refused.
use Rattle.clock2q_cache.proofs.Names.{◌≡◌, ◌+◌, ◌*◌, ◌<◌, ◌≤◌, false, Option, None, Some, arith, List, length, refl, ap, sym, ◌∙◌, subst, is_some, Spends, hash_in, reached, resident_at, sum_by}
use Rattle.clock2q_cache.proofs.Retained.{below, retains-none, retains-past, retains-asks, retains-kept, retains-refused, retains-all}
use Rattle.clock2q_cache.proofs.Gone.{gone_below, gone-none, gone-stays, gone-left}
use Rattle.clock2q_cache.proofs.Reaching.{left-none, left-stays, left-more}
use Rattle.clock2q_cache.proofs.Vacated.{fewer-residents}
use Rattle.clock2q_cache.proofs.Spent.{slot-stays, slot-leaves, retain-costs}
use Rattle.clock2q_cache.proofs.cache.Cache.retain.Goals.{then-is_resident+then-not-stays, then-is_resident+else-not-stays, else-is_resident}
use Rattle.clock2q_cache.proofs.cache.Cache.retain.Goals as goal

pub loop-slot-init : goal.loop-slot-init
loop-slot-init g c = (
  retains-none g.F.FnMut c.args.keep c.args.self.now.machine c.requires.callable,
  refl,
  record { inspections = omega arith; accesses = (omega arith, omega arith); comparisons = (omega arith, omega arith) },
  omega arith,
  left-none c.facts.ensures.within,
  refl,
)

pub value-requires : goal.value-requires
value-requires g c = omega (arith, c.loop-slot-test.true, c.made-slot-end.ensures, ap (λ (z : List _). length z) c.loop-slot.invariant.0.values)

pub keep-stays-requires : goal.keep-stays-requires
keep-stays-requires g c =
    let made : c.loop-slot.slot < length c.args.self.now.machine.values = omega (arith, c.loop-slot-test.true, c.made-slot-end.ensures) in
    retains-asks g.F.FnMut c.args.keep c.args.self.now.machine c.loop-slot.slot c.loop-slot.keep c.loop-slot.self.machine c.loop-slot.invariant.0 made
    c.key.result c.value.result c.key.ensures c.value.ensures

pub loop-slot-preserved : goal.loop-slot-preserved
loop-slot-preserved g c =
    let h = c.loop-slot.invariant.0 in
    let made : c.loop-slot.slot < length c.args.self.now.machine.values = omega (arith, c.loop-slot-test.true, c.made-slot-end.ensures) in
    elim c.if-is_resident.branch [
      | then-is_resident+then-not-stays w ↦ rw (w.keep-is, w.self-is) (
        rw w.vacate.ensures.machine (retains-refused g.F.FnMut c.args.keep c.args.self.now.machine c.loop-slot.slot c.loop-slot.keep c.loop-slot.self.machine h made
            w.key.result w.value.result w.key.ensures w.value.ensures w.keep-stays.new.self (rw w.if-not-stays.true at w.keep-stays.ensures)),
        w.vacate.ensures.hasher ∙ c.loop-slot.invariant.1,
        slot-leaves c.loop-slot.slot c.loop-slot.invariant.2 w.vacate.ensures.counts,
        rw w.vacate.ensures.machine (omega (
          arith,
          c.loop-slot.invariant.3,
          w.vacate.ensures.counts.accesses.1,
          fewer-residents c.loop-slot.self.machine c.loop-slot.slot (sym c.is_resident.ensures.resident ∙ w.if-is_resident.true),
        )),
        left-more c.loop-slot.invariant.4 c.loop-slot.self w.vacate.new.self refl c.loop-slot.invariant.1 (h.later c.loop-slot.slot (omega arith)) w.vacate.ensures.known,
        rw w.vacate.ensures.machine (gone-left _ c.args.self.now.machine _ c.loop-slot.self.machine c.loop-slot.slot (h.later c.loop-slot.slot (omega arith)) c.loop-slot.invariant.5
            (rw c.loop-slot.invariant.1 at w.vacate.ensures.known)),
      )
      | then-is_resident+else-not-stays w ↦ rw (w.keep-is, w.self-is) (
        retains-kept g.F.FnMut c.args.keep c.args.self.now.machine c.loop-slot.slot c.loop-slot.keep c.loop-slot.self.machine h made
            w.key.result w.value.result w.key.ensures w.value.ensures w.keep-stays.new.self (rw w.if-not-stays.false at w.keep-stays.ensures),
        c.loop-slot.invariant.1,
        slot-stays c.loop-slot.slot c.loop-slot.invariant.2,
        c.loop-slot.invariant.3,
        left-stays c.loop-slot.invariant.4,
        gone-stays _ c.args.self.now.machine _ c.loop-slot.self.machine c.loop-slot.slot (h.later c.loop-slot.slot (omega arith)) c.loop-slot.invariant.5 _ w.key.ensures,
      )
      | else-is_resident w ↦ rw (w.keep-is, w.self-is) (
        retains-past g.F.FnMut c.args.keep c.args.self.now.machine c.loop-slot.slot c.loop-slot.keep c.loop-slot.self.machine h made
            (none-there (resident_at c.loop-slot.self.machine c.loop-slot.slot) (sym c.is_resident.ensures.resident ∙ w.if-is_resident.false)),
        c.loop-slot.invariant.1,
        slot-stays c.loop-slot.slot c.loop-slot.invariant.2,
        c.loop-slot.invariant.3,
        left-stays c.loop-slot.invariant.4,
        gone-none _ c.args.self.now.machine _ c.loop-slot.self.machine c.loop-slot.slot (h.later c.loop-slot.slot (omega arith)) c.loop-slot.invariant.5
            (none-there (resident_at c.loop-slot.self.machine c.loop-slot.slot) (sym c.is_resident.ensures.resident ∙ w.if-is_resident.false)),
      )
    ]
  where
    none-there : {X : Type 0} (o : Option X) → is_some o ≡ false → o ≡ None
    none-there None e = refl
    none-there (Some x) e = cc

pub returns : goal.returns
returns g c =
    let r = retains-all g.F.FnMut c.args.keep c.args.self.now.machine c.loop-slot.slot c.loop-slot.keep c.loop-slot.self.machine
    (omega (arith, c.loop-slot-test.false, c.loop-slot.auto.slot-end, c.made-slot-end.ensures)) c.loop-slot.invariant.0 in
    let all : c.loop-slot.slot ≡ length c.args.self.now.machine.values = omega (arith, c.loop-slot-test.false, c.loop-slot.auto.slot-end, c.made-slot-end.ensures) in
    record {
      retained = r;
      known = c.loop-slot.invariant.5 ∙ ap (λ n. gone_below (hash_in (record { eq = g.K.PartialEq.eq; hash_input = g.K.Hash.hash_input }) g.S.BuildHasher g.S.Hasher.Hasher c.args.self.now) c.args.self.now.machine c.args.self.now.known c.loop-slot.self.machine n) all;
      hasher = c.loop-slot.invariant.1;
      costs = λ bits.
          retain-costs r.bits r.becomes
          (record {
            accesses = subst
                (λ n. c.loop-slot.self.known.index.accesses ≤
                c.args.self.now.known.index.accesses + sum_by
                (λ r. reached (record { eq = g.K.PartialEq.eq; hash_input = g.K.Hash.hash_input }) g.S.BuildHasher
                g.S.Hasher.Hasher c.args.self.now r.0) (below c.args.self.now.machine n)) all c.loop-slot.invariant.4.spent;
          })
          (subst (λ n. Spends 0 (8 * n) 0 c.args.self.now.counts c.loop-slot.self.counts) all c.loop-slot.invariant.2);
      removals = c.loop-slot.invariant.3;
    }
