-- The slots that were never made are made, and are free.
use Rattle.clock2q_cache.proofs.Names.{arith, ◌≡◌, ◌-◌, ◌≤◌, ◌++◌, length, map, refl, reverse, ap, ◌∙◌, length-values, range_with_len}
use Rattle.clock2q_cache.proofs.Filled.{made-count, machine-prefilled, kept-prefilled}
use Rattle.clock2q_cache.proofs.Spent.{made-spends, prefill-costs}
use Rattle.clock2q_cache.proofs.cache.Cache.prefill.Given.{Over}
use Rattle.clock2q_cache.proofs.cache.Cache.prefill.Goals.{After-free_down}
use Rattle.clock2q_cache.proofs.cache.Cache.prefill.Goals as goal

pub fill-requires-clause-callable : goal.fill-requires-clause-callable
fill-requires-clause-callable g c = rw (ap (λ z. z.capacity) c.shares.view_is, ← length-values c.self.inside.directory.residents.entries) (rw (← c.self.view_is) at c.requires.callable.in_turn)

-- the free slots, and those after the ones that were made
freed : (g : Over) (c : After-free_down g) → c.free_down.new.free.items
    ≡ c.self.inside.free.items ++ reverse (range_with_len (length c.self.inside.directory.residents.entries) (c.self.inside.shares.capacity - length c.self.inside.directory.residents.entries))
freed g c = rw (c.made-made.ensures.made, ap (λ z. z.capacity) c.shares.view_is) at c.free_down.ensures.items

pub invariant_of-self : goal.invariant_of-self
invariant_of-self g c =
    let filled = c.fill.ensures.filled.1 in
    rw c.fill.ensures.history
    (kept-prefilled g.met.K.Eq.laws c.self.invariant filled.added c.fill.new.directory.residents c.free_down.new.free.items _
    filled.is (filled.as_many ∙ ap (λ z. z.capacity) c.shares.view_is)
    (freed g (goal.at.invariant_of-self g c).After-free_down) (rw (ap (λ z. z.capacity) c.shares.view_is) at c.make_below.ensures.queues) filled.hashed c.fill.ensures.kept_room c.free_down.ensures.capacity)

pub returns-clause-made : goal.returns-clause-made
returns-clause-made g c =
    let as_many = c.fill.ensures.filled.1.as_many ∙ ap (λ z. z.capacity) c.shares.view_is in
    let down = freed g (goal.at.returns-clause-made g c).After-free_down in
    rw (← c.self.view_is, c.fill.ensures.history, c.make_below.ensures.queues) (record {
      made = map (λ e. e.value) c.fill.ensures.filled.1.added;
      last = c.fill.ensures.filled.0;
      as_many = made-count g.met.K.Eq.laws c.self.invariant c.fill.ensures.filled.1.added c.fill.new.directory.residents c.free_down.new.free.items 0 c.fill.ensures.filled.1.is as_many down;
      called = c.fill.ensures.filled.1.called;
      becomes = machine-prefilled g.met.K.Eq.laws c.self.invariant c.fill.ensures.filled.1.added c.fill.new.directory.residents c.free_down.new.free.items 0 c.fill.ensures.filled.1.is as_many down;
    })

pub returns-clause-costs : goal.returns-clause-costs
returns-clause-costs g c values =
    let filled = c.fill.ensures.filled.1 in
    let machine = machine-prefilled g.met.K.Eq.laws c.self.invariant filled.added c.fill.new.directory.residents c.free_down.new.free.items 0 filled.is (filled.as_many ∙ ap (λ z. z.capacity) c.shares.view_is)
    (freed g (goal.at.returns-clause-costs g c).After-free_down) in
    let few : c.shares.inside.capacity - c.self.inside.queues.made ≤ c.self.inside.shares.capacity - length (map (λ e. e.value) c.self.inside.directory.residents.entries) =
    omega (arith, ap (λ z. z.capacity) c.shares.view_is, c.self.invariant.linked, length-values c.self.inside.directory.residents.entries) in
    rw (← c.self.view_is, c.fill.ensures.history)
    (prefill-costs (map (λ e. e.value) filled.added) (rw c.make_below.ensures.queues machine) refl
    (made-spends c.self.inside.queues c.self.inside.directory.history c.self.inside.directory.residents
    c.fill.new.directory.residents c.make_below.ensures.queues few c.fill.ensures.comparisons))
