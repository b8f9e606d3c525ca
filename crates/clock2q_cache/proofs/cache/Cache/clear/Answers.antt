-- The queues, the history and the index are empty.
use Rattle.clock2q_cache.proofs.Names.{◌+◌, ◌≡◌, ap, ◌∙◌, rules, if◌then◌else◌, slots, KeyPlaces, QueueState, Remembered, most_beside, cleared_like, slots-cleared}
use Rattle.clock2q_cache.proofs.Changed.{kept-cleared}
use Rattle.clock2q_cache.proofs.cache.Cache.clear.Goals as goal

pub invariant_of-self : goal.invariant_of-self
invariant_of-self g c =
    let q = c.clear-2.ensures.queues in
    let h = c.clear.ensures.history in
    let beside : most_beside c.clear.new.self.history ≡ most_beside c.self.inside.directory.history =
    ap (λ (z : Remembered _). most_beside z) h ∙ ap (λ b. if b then c.self.inside.directory.history.limit + 1 else 0) (cleared_like c.self.inside.directory.history.places.index).shared in
    kept-cleared g.met.K.Eq.laws c.self.invariant (ap (λ (z : QueueState). z.small) q)
    (ap (λ (z : QueueState). z.main) q) (ap (λ (z : Remembered _). z.entries) h) (ap (λ (z : KeyPlaces _ _). z.entries) c.clear.ensures.residents) c.clear-3.ensures.items
    (ap (λ (z : Remembered _). slots z.places.index) h ∙ slots-cleared c.self.inside.directory.history.places.index) (ap (λ (z : QueueState). z.slots) q) (ap (λ (z : QueueState). z.window) q)
    (ap (λ (z : Remembered _). z.limit) h) beside (ap (λ (z : KeyPlaces _ _). z.room) c.clear.ensures.residents) c.clear-3.ensures.capacity

pub returns-clause-machine : goal.returns-clause-machine
returns-clause-machine g c = search rules
