-- The key is resident with its value.
use Rattle.clock2q_cache.proofs.Names.{ap, sym, ◌∙◌, arith, rules, CacheState, put_there}
use Rattle.clock2q_cache.proofs.Finding.{gap-found, no-slot}
use Rattle.clock2q_cache.proofs.Insertions.{hit-spends, insert-spends}
use Rattle.clock2q_cache.proofs.Reaching.{reaches-with}
use Rattle.clock2q_cache.proofs.Spent.{costs-of}
use Rattle.clock2q_cache.proofs.cache.Cache.put.Goals as goal

pub returns-in_default-clause-machine : goal.returns-in_default-clause-machine
returns-in_default-clause-machine g c = search rules

pub returns-clause-machine : goal.returns-clause-machine
returns-clause-machine g c = search rules

pub returns-in_default-clause-resident : goal.returns-in_default-clause-resident
returns-in_default-clause-resident g c =
    rw (returns-in_default-clause-machine g c) (put_there g.K.PartialEq.eq g.met.K.Eq.laws c.args.self.now.machine c.lookup-found.ensures.whole c.args.key c.args.value)

pub returns-clause-resident : goal.returns-clause-resident
returns-clause-resident g c =
    rw (returns-clause-machine g c) (put_there g.K.PartialEq.eq g.met.K.Eq.laws c.args.self.now.machine c.lookup-found.ensures.whole c.args.key c.args.value)

pub returns-in_default-clause-known : goal.returns-in_default-clause-known
returns-in_default-clause-known g c =
    let none = no-slot c.lookup-found.result c.in_default.not-Resident in
    let gap = gap-found c.lookup-found.result _ c.in_default.not-Resident (c.lookup-found.ensures.place (sym none)) (c.lookup-found.ensures.ended (sym none)) in
    rw (← (none ∙ c.lookup-found.ensures.slot)) (rw (c.insert.ensures.slot, c.lookup-found.ensures.kept, gap) at c.insert.ensures.known)

pub returns-clause-known : goal.returns-clause-known
returns-clause-known g c = grind (arith, c.in-Resident.ensures.slot, c.replace_value.ensures.kept, c.record_hit.ensures.kept, c.lookup-found.ensures.kept)

pub returns-in_default-clause-costs : goal.returns-in_default-clause-costs
returns-in_default-clause-costs g c =
    let l = c.lookup-found.ensures in
    costs-of (returns-in_default-clause-machine g c)
    (reaches-with (record { eq = g.K.PartialEq.eq; hash_input = g.K.Hash.hash_input }) g.S.BuildHasher g.S.Hasher.Hasher
    c.args.key g.met.K.Eq.laws g.met.K.Hash.respects_eq l.whole l.as_many l.within (returns-in_default-clause-known g c))
    (insert-spends (g.K.PartialEq.eq c.args.key) c.args.self.now.machine l.counts (no-slot c.lookup-found.result c.in_default.not-Resident ∙ l.slot) l.machine c.insert.ensures.counts (omega arith))

pub returns-clause-costs : goal.returns-clause-costs
returns-clause-costs g c =
    let l = c.lookup-found.ensures in
    costs-of (returns-clause-machine g c)
    (reaches-with (record { eq = g.K.PartialEq.eq; hash_input = g.K.Hash.hash_input }) g.S.BuildHasher g.S.Hasher.Hasher
    c.args.key g.met.K.Eq.laws g.met.K.Hash.respects_eq l.whole l.as_many l.within (returns-clause-known g c))
    (hit-spends (g.K.PartialEq.eq c.args.key) c.args.self.now.machine l.counts c.in-Resident.ensures.slot
    (ap (λ (z : CacheState _ _ _). z.counts) c.replace_value.ensures.kept ∙ ap (λ (z : CacheState _ _ _). z.counts) c.record_hit.ensures.kept) (omega arith))
