-- The value of a slot is replaced.
use Rattle.clock2q_cache.proofs.Names.{ap, sym, ◌∙◌, slice_get, value-there, KeyPlaces, CacheState, machine_of, stored}
use Rattle.clock2q_cache.proofs.Changed.{replaced-machine, kept-replaced}
use Rattle.clock2q_cache.proofs.cache.Cache.replace_value.Goals as goal

pub invariant_of-self : goal.invariant_of-self
invariant_of-self g c =
    let k = c.self.invariant in
    let below = rw (← c.self.view_is) at c.requires in
    let r = c.replace_value.ensures.replaced in
    rw c.replace_value.ensures.kept
    (kept-replaced g.met.K.Eq.laws k c.args.slot c.args.value below c.replace_value.new.self.residents
    (ap (λ (z : KeyPlaces _ _). z.entries) r) (ap (λ (z : KeyPlaces _ _). z.room) r))

pub returns-clause-value : goal.returns-clause-value
returns-clause-value g c =
    sym (ap (λ (z : CacheState _ _ _). slice_get z.machine.values c.args.slot) c.self.view_is) ∙ value-there c.self.inside.directory.residents.entries c.args.slot ∙ c.replace_value.ensures.old

pub returns-clause-machine : goal.returns-clause-machine
returns-clause-machine g c =
    rw c.replace_value.ensures.kept
    (ap (λ (z : KeyPlaces _ _). machine_of c.self.inside.shares c.self.inside.queues z.entries
    c.self.inside.directory.history.entries c.self.inside.free.items) c.replace_value.ensures.replaced
    ∙ replaced-machine g.met.K.Eq.laws c.self.invariant c.args.slot c.args.value (rw (← c.self.view_is) at c.requires)
    ∙ ap (λ (z : CacheState _ _ _). stored c.args.slot c.args.value z.machine) c.self.view_is)
