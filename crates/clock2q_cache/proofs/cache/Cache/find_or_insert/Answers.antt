-- The value is at the slot where the key was found, or at the one that it took.
use Rattle.clock2q_cache.proofs.Names.{sym, ap, ◌∙◌, arith, slice_get_within, inserted}
use Rattle.clock2q_cache.proofs.Finding.{gap-found, no-slot}
use Rattle.clock2q_cache.proofs.Fetched.{hit-fetches, new-fetches}
use Rattle.clock2q_cache.proofs.Insertions.{hit-spends, insert-spends}
use Rattle.clock2q_cache.proofs.Reaching.{reaches-with}
use Rattle.clock2q_cache.proofs.Spent.{reaches-looked}
use Rattle.clock2q_cache.proofs.cache.Cache.find_or_insert.Goals as goal

pub returns-in-Resident-clause-fetched : goal.returns-in-Resident-clause-fetched
returns-in-Resident-clause-fetched g c =
    grind (arith, c.record_hit.ensures.machine, c.lookup-found.ensures.machine, hit-fetches, c.lookup-found.ensures.whole, c.in-Resident.ensures.slot)

pub returns-clause-fetched : goal.returns-clause-fetched
returns-clause-fetched g c =
    let eq = g.K.PartialEq.eq in let m = c.args.self.now.machine in
    rw (c.insert.ensures.machine ∙ ap (inserted (eq c.args.key) c.args.key c.f-value.result) c.lookup-found.ensures.machine, c.insert.ensures.slot, c.lookup-found.ensures.machine)
    (new-fetches eq g.met.K.Eq.laws m c.lookup-found.ensures.whole c.args.key (goal.F-post g c.args.f)
    (sym (no-slot c.lookup-found.result c.in_default.not-Resident ∙ c.lookup-found.ensures.slot)) c.f-value.result c.f-value.ensures)

pub returns-clause-made : goal.returns-clause-made
returns-clause-made g c = let f = returns-clause-fetched g c in slice_get_within _ _ f.value f.there

pub returns-in-Resident-clause-counts : goal.returns-in-Resident-clause-counts
returns-in-Resident-clause-counts g c = grind (arith, hit-spends, c.lookup-found.ensures.counts, c.in-Resident.ensures.slot, c.record_hit.ensures.kept)

pub returns-in-Resident-clause-index : goal.returns-in-Resident-clause-index
returns-in-Resident-clause-index g c = grind (arith, reaches-looked, c.record_hit.ensures.kept, c.lookup-found.ensures.kept)

pub returns-in-Resident-clause-known : goal.returns-in-Resident-clause-known
returns-in-Resident-clause-known g c = grind (arith, c.in-Resident.ensures.slot, c.record_hit.ensures.kept, c.lookup-found.ensures.kept)

pub returns-clause-known : goal.returns-clause-known
returns-clause-known g c =
    let none = no-slot c.lookup-found.result c.in_default.not-Resident in
    let gap = gap-found c.lookup-found.result _ c.in_default.not-Resident (c.lookup-found.ensures.place (sym none)) (c.lookup-found.ensures.ended (sym none)) in
    rw (← (none ∙ c.lookup-found.ensures.slot)) (rw (c.insert.ensures.slot, c.lookup-found.ensures.kept, gap) at c.insert.ensures.known)

pub returns-clause-index : goal.returns-clause-index
returns-clause-index g c =
    reaches-with (record { eq = g.K.PartialEq.eq; hash_input = g.K.Hash.hash_input }) g.S.BuildHasher g.S.Hasher.Hasher c.args.key
    g.met.K.Eq.laws g.met.K.Hash.respects_eq c.lookup-found.ensures.whole c.lookup-found.ensures.as_many
    c.lookup-found.ensures.within (returns-clause-known g c)

pub returns-clause-counts : goal.returns-clause-counts
returns-clause-counts g c =
    grind (arith, insert-spends, c.lookup-found.ensures.counts, no-slot, c.lookup-found.ensures.slot, c.lookup-found.ensures.machine, c.insert.ensures.counts)
