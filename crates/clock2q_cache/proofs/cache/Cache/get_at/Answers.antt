-- The value is read where the key was found, and then the key is hit; a key that is not resident at the slot is not hit.
use Rattle.clock2q_cache.proofs.Names.{arith, ◌≡◌, Some, rules, refl, ap, ◌∙◌, CacheState, hit, value-there, slot_of}
use Rattle.clock2q_cache.proofs.CacheInvariant.{m}
use Rattle.clock2q_cache.proofs.Finding.{found-queued, hit-machine, kept-hit}
use Rattle.clock2q_cache.proofs.KnownIndex.{becomes-known}
use Rattle.clock2q_cache.proofs.Spent.{missed_at-becomes, hit_at-becomes}
use Rattle.clock2q_cache.proofs.cache.Cache.get_at.Given.{Over}
use Rattle.clock2q_cache.proofs.cache.Cache.get_at.Goals.{After-value-stored}
use Rattle.clock2q_cache.proofs.cache.Cache.get_at.Goals as goal

-- the key is resident at the slot, in terms of the fields
there : (g : Over) (c : After-value-stored g) → slot_of (g.K.PartialEq.eq c.args.key.now) (m g.met.K.Eq.laws c.self.invariant) ≡ Some c.in_ok-found.found
there g c = grind (arith, slot_of, c.self.view_is, c.find_at.ensures.machine, c.in_ok-found.ensures.found)

pub hit-requires : goal.hit-requires
hit-requires g c = record { resident = found-queued g.met.K.Eq.laws c.self.invariant c.args.key.now c.in_ok-found.found (there g (goal.at.hit-requires g c).After-value-stored) }

pub invariant_of-self : goal.invariant_of-self
invariant_of-self g c =
    kept-hit g.met.K.Eq.laws c.self.invariant c.args.key.now c.in_ok-found.found (there g (goal.at.invariant_of-self g c).After-value-stored) c.hit.ensures.queues

pub returns-in_err-found : goal.returns-in_err-found
returns-in_err-found g c = grind (arith, missed_at-becomes, c.in_err-found.ensures.slot, c.find_at.ensures.kept, c.find_at.ensures.counts)

pub returns : goal.returns
returns g c =
    let at = there g (goal.at.returns g c).After-value-stored in
    let now =
    hit-machine g.met.K.Eq.laws c.self.invariant c.args.key.now c.in_ok-found.found at c.hit.ensures.queues
    ∙ ap (λ (z : CacheState _ _ _). hit (g.K.PartialEq.eq c.args.key.now) z.machine) c.self.view_is in
    ((refl, λ _. tt, becomes-known (hit_at-becomes c.in_ok-found.ensures.slot c.find_at.ensures.kept c.find_at.ensures.counts (search rules) now) (search rules)), record { machine = tt; value = grind (arith, c.value-stored.ensures.value, value-there c.self.inside.directory.residents.entries c.in_ok-found.found, c.self.view_is, c.find_at.ensures.machine, c.in_ok-found.ensures.slot) })
