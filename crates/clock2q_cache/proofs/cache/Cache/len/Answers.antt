-- There are as many residents as slots in the queues.
use Rattle.clock2q_cache.proofs.Names.{arith}
use Rattle.clock2q_cache.proofs.CacheInvariant.{length_in_small, length_in_main}
use Rattle.clock2q_cache.proofs.cache.Cache.len.Goals as goal

pub overflow_add-result : goal.overflow_add-result
overflow_add-result g c =
    let k = c.self.invariant in
    omega (arith, length_in_small g.met.K.Eq.laws k, length_in_main g.met.K.Eq.laws k, k.whole.small_within, k.whole.main_within, k.whole.small_below, k.sized.short)

pub returns : goal.returns
returns g c =
    let k = c.self.invariant in
    record { count = rw (← c.self.view_is) (omega (arith, c.small_len.ensures.len, c.main_len.ensures.len, length_in_small g.met.K.Eq.laws k, length_in_main g.met.K.Eq.laws k)) }
