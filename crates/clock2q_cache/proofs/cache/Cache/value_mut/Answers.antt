-- Whatever is left behind the reference is the slot's value.
use Rattle.clock2q_cache.proofs.Names.{refl, ap, sym, ◌∙◌, slice_get, value-there, with_value, stored, CacheState, cache_state, counts_of}
use Rattle.clock2q_cache.proofs.Changed.{replaced-machine, kept-replaced}
use Rattle.clock2q_cache.proofs.cache.Cache.value_mut.Goals as goal

pub invariant_of-self-lent : goal.invariant_of-self-lent
invariant_of-self-lent g c w =
    let i = c.self.inside in
    kept-replaced g.met.K.Eq.laws c.self.invariant c.args.slot w (rw (← c.self.view_is) at c.requires)
    (record i.directory.residents { entries = with_value c.args.slot w i.directory.residents.entries }) refl refl

pub returns : goal.returns
returns g c =
    let below = rw (← c.self.view_is) at c.requires in
    let i = c.self.inside in (
      (
        refl,
        λ w. ap (λ z. cache_state z i.directory.history.places i.hasher
            (counts_of i.queues i.directory.history i.directory.residents))
            (replaced-machine g.met.K.Eq.laws c.self.invariant c.args.slot w below)
            ∙ ap (λ (z : CacheState _ _ _). record z { machine = stored c.args.slot w z.machine }) c.self.view_is,
      ),
      record {
        writes_back = tt;
        value = sym (ap (λ (z : CacheState _ _ _). slice_get z.machine.values c.args.slot) c.self.view_is) ∙ value-there i.directory.residents.entries c.args.slot ∙ c.value_mut.ensures.value;
      },
    )
