-- The key is at the slot where it was found, or at the one that it took.
use Rattle.clock2q_cache.proofs.Names.{sym, ap, ◌∙◌, arith, slice_get_within, hit}
use Rattle.clock2q_cache.proofs.Making.{hit-takes, new-takes}
use Rattle.clock2q_cache.proofs.Insertions.{hit-spends, insert-spends}
use Rattle.clock2q_cache.proofs.cache.Cache.find_or_reuse.Goals as goal

pub returns-in-Some-clause-taken : goal.returns-in-Some-clause-taken
returns-in-Some-clause-taken g c =
    let eq = g.K.PartialEq.eq in let m = c.args.self.now.machine in
    let now = c.record_hit.ensures.machine ∙ ap (hit (eq c.args.key)) c.find.ensures.machine in
    rw now (hit-takes eq g.met.K.Eq.laws m c.find.ensures.whole c.args.key (goal.F-post g c.args.make) c.in-Some.slot (sym c.in-Some.ensures.slot))

pub returns-clause-taken : goal.returns-clause-taken
returns-clause-taken g c =
    let eq = g.K.PartialEq.eq in let m = c.args.self.now.machine in
    let r = rw c.find.ensures.machine at c.insert_reusing-slot.ensures.machine in
    new-takes eq g.met.K.Eq.laws m c.find.ensures.whole c.args.key (goal.F-post g c.args.make) (sym c.in_default.ensures.slot)
    c.insert_reusing-slot.result.0 c.insert_reusing-slot.new.self.machine (rw c.find.ensures.machine at c.insert_reusing-slot.ensures.slot) r

pub returns-clause-made : goal.returns-clause-made
returns-clause-made g c = let t = returns-clause-taken g c in slice_get_within _ _ t.value t.there

pub returns-in-Some-clause-counts : goal.returns-in-Some-clause-counts
returns-in-Some-clause-counts g c = grind (arith, hit-spends, c.find.ensures.counts, c.in-Some.ensures.slot, c.record_hit.ensures.kept, c.requires.hash)

pub returns-clause-counts : goal.returns-clause-counts
returns-clause-counts g c =
    grind (arith, insert-spends, c.find.ensures.counts, c.in_default.ensures.slot, c.find.ensures.machine, c.insert_reusing-slot.ensures.counts, c.find.ensures.kept, c.requires.hash)

pub returns-in-Some-clause-known : goal.returns-in-Some-clause-known
returns-in-Some-clause-known g c = grind (arith, c.in-Some.ensures.slot, c.record_hit.ensures.kept, c.find.ensures.kept)

pub returns-clause-known : goal.returns-clause-known
returns-clause-known g c =
    rw (← c.in_default.ensures.slot) (rw (c.insert_reusing-slot.ensures.slot, c.find.ensures.kept) at c.insert_reusing-slot.ensures.known)
