-- The value is read where the key was found, and then the key is hit; a key that is not resident is not hit.
use Rattle.clock2q_cache.proofs.Names.{arith, ◌≡◌, Some, rules, refl, sym, ap, ◌∙◌, CacheState, hit, value-there, slot_of}
use Rattle.clock2q_cache.proofs.CacheInvariant.{m}
use Rattle.clock2q_cache.proofs.Finding.{found-queued, hit-machine, kept-hit}
use Rattle.clock2q_cache.proofs.KnownIndex.{becomes-known}
use Rattle.clock2q_cache.proofs.Spent.{missed-becomes, hit-becomes}
use Rattle.clock2q_cache.proofs.cache.Cache.get.Given.{Over}
use Rattle.clock2q_cache.proofs.cache.Cache.get.Goals.{After-value-value}
use Rattle.clock2q_cache.proofs.cache.Cache.get.Goals as goal

-- the key is resident at the slot, in terms of the fields
there : (g : Over) (c : After-value-value g) → slot_of (g.K.PartialEq.eq c.args.key.now) (m g.met.K.Eq.laws c.self.invariant) ≡ Some c.in_ok-slot.slot
there g c = grind (arith, slot_of, c.self.view_is, c.find.ensures.machine, c.in_ok-slot.ensures.slot)

pub hit-requires : goal.hit-requires
hit-requires g c = record { resident = found-queued g.met.K.Eq.laws c.self.invariant c.args.key.now c.in_ok-slot.slot (there g (goal.at.hit-requires g c).After-value-value) }

pub invariant_of-self : goal.invariant_of-self
invariant_of-self g c =
    kept-hit g.met.K.Eq.laws c.self.invariant c.args.key.now c.in_ok-slot.slot (there g (goal.at.invariant_of-self g c).After-value-value) c.hit.ensures.queues

pub returns-in_err-slot : goal.returns-in_err-slot
returns-in_err-slot g c =
    let absent = sym c.in_err-slot.ensures.slot in
    let b = missed-becomes c.hash-hash.ensures absent c.find.ensures.kept c.find.ensures.counts in
    ((refl, λ _. tt, becomes-known b (ap (λ (z : CacheState _ _ _). z.known) c.find.ensures.kept)), record { machine = tt; value = rw absent (search rules) })

pub returns : goal.returns
returns g c =
    let at = there g (goal.at.returns g c).After-value-value in
    let now =
    hit-machine g.met.K.Eq.laws c.self.invariant c.args.key.now c.in_ok-slot.slot at c.hit.ensures.queues
    ∙ ap (λ (z : CacheState _ _ _). hit (g.K.PartialEq.eq c.args.key.now) z.machine) c.self.view_is in
    ((refl, λ _. tt, becomes-known (hit-becomes c.hash-hash.ensures c.find.ensures.kept c.find.ensures.counts (search rules) now) (search rules)), record { machine = tt; value = grind (arith, c.value-value.ensures.value, value-there c.self.inside.directory.residents.entries c.in_ok-slot.slot, c.self.view_is, c.find.ensures.machine, c.in_ok-slot.ensures.slot) })
