-- The queues name the slot, and nothing but their count of accesses has changed.
use Rattle.clock2q_cache.proofs.Names.{refl, ap, ◌∙◌, CacheState, counts_of, cache_state, next_victim, leaves_now, evicts_next}
use Rattle.clock2q_cache.proofs.Renewed.{slot-below}
use Rattle.clock2q_cache.proofs.MakingRoom.{next-in, next-leaves, next-none, looked-machine, looked-spends}
use Rattle.clock2q_cache.proofs.cache.Cache.next_victim.Goals as goal

pub key-requires : goal.key-requires
key-requires g c =
    let laws = g.met.K.Eq.laws in
    let e = c.in_ok-slot.ensures in
    record { made = (slot-below laws c.self.invariant c.in_ok-slot.slot (next-in laws c.self.invariant c.in_ok-slot.slot (record { tail = e.tail; victim = e.victim }))).0 }

pub returns-in_err-slot : goal.returns-in_err-slot
returns-in_err-slot g c =
    let laws = g.met.K.Eq.laws in
    let i = c.self.inside in
    let e = c.in_err-slot.ensures in
    let none = next-none laws c.self.invariant (record { tail = e.tail; victim = e.victim }) in (
      (
        refl,
        λ _. tt,
        rw (← c.self.view_is) (record {
          same = ap (λ z. cache_state z i.directory.history.places i.hasher (counts_of c.next_victim.new.self i.directory.history i.directory.residents)) (looked-machine laws c.self.invariant c.next_victim.ensures.queues);
          counts = looked-spends laws c.self.invariant c.next_victim.ensures.queues c.next_victim.ensures.accesses;
        }),
      ),
      record {
        looks = tt;
        left = rw c.from_residual.ensures (none ∙ ap (λ (z : CacheState _ _ _). leaves_now z.machine) c.self.view_is);
        unknown = λ full. rw c.from_residual.ensures (none ∙ evicts_next _ g.K.PartialEq.eq c.self.invariant.whole (rw (← c.self.view_is) at full)
            ∙ ap (λ (z : CacheState _ _ _). next_victim z.machine) c.self.view_is);
        within = rw c.from_residual.ensures tt;
      },
    )

pub returns : goal.returns
returns g c =
    let laws = g.met.K.Eq.laws in
    let e = c.in_ok-slot.ensures in
    let i = c.self.inside in
    let slot = c.in_ok-slot.slot in
    let leaves = next-leaves laws c.self.invariant slot (record { tail = e.tail; victim = e.victim }) c.key.result.now c.key.ensures.key in (
      (
        refl,
        λ _. tt,
        rw (← c.self.view_is) (record {
          same = ap (λ z. cache_state z i.directory.history.places i.hasher (counts_of c.next_victim.new.self i.directory.history i.directory.residents)) (looked-machine laws c.self.invariant c.next_victim.ensures.queues);
          counts = looked-spends laws c.self.invariant c.next_victim.ensures.queues c.next_victim.ensures.accesses;
        }),
      ),
      record {
        looks = tt;
        left = leaves ∙ ap (λ (z : CacheState _ _ _). leaves_now z.machine) c.self.view_is;
        unknown = λ full. leaves ∙ evicts_next _ g.K.PartialEq.eq c.self.invariant.whole (rw (← c.self.view_is) at full)
            ∙ ap (λ (z : CacheState _ _ _). next_victim z.machine) c.self.view_is;
        within = rw (← c.self.view_is) (slot-below laws c.self.invariant slot (next-in laws c.self.invariant slot (record { tail = e.tail; victim = e.victim }))).1;
      },
    )
