-- The counts are at their bounds when the value is lent.
use Rattle.clock2q_cache.proofs.Names.{ℕ, refl, sym, ap, ◌∙◌, slice_get, CacheState, stored, some_is}
use Rattle.clock2q_cache.proofs.Charged.{lent, unwritten}
use Rattle.clock2q_cache.proofs.cache.Cache.enter.Goals as goal

pub returns : goal.returns
returns g c =
    let t = c.find_or_reuse-slot.ensures.taken in
    let same =
    some_is t.value c.value_mut.result.now
    (sym t.there ∙ ap (λ v. slice_get v c.find_or_reuse-slot.result.0) (sym (ap (λ (z : CacheState _ _ _). z.machine.values) c.charge.ensures.charged)) ∙ c.value_mut.ensures.value) in (
      (
        refl,
        λ w. ap (λ (z : CacheState _ _ _). record z { machine = stored c.find_or_reuse-slot.result.0 w z.machine }) c.charge.ensures.charged
            ∙ lent (record { eq = g.K.PartialEq.eq; hash_input = g.K.Hash.hash_input }) g.S.BuildHasher g.S.Hasher.Hasher
            c.args.self.now c.find_or_reuse-slot.new.self t c.find_or_reuse-slot.ensures.known c.find_or_reuse-slot.ensures.hasher c.find_or_reuse-slot.ensures.counts
            (ap (λ (z : ℕ × ℕ). z.0) c.most-most.ensures.picked) (ap (λ (z : ℕ × ℕ). z.1) c.most-most.ensures.picked) w,
      ),
      record {
        writes_back = tt;
        slot = t.at;
        value = rw same at t.had;
        unwritten = rw same at (unwritten t);
        hit = c.find_or_reuse-slot.ensures.hit;
        evicted = c.find_or_reuse-slot.ensures.evicted;
      },
    )
