-- The key enters if no resident has its hash.
use Rattle.clock2q_cache.proofs.Names.{false, length, refl, sym, ap, ◌∙◌, arith, is_empty, entered_there, lasting-inserted, resident_made, inserted, is_some, if◌then◌else◌, CacheState, candidates, remembered_in, replaced}
use Rattle.clock2q_cache.proofs.Insertions.{insert-spends}
use Rattle.clock2q_cache.proofs.Reaching.{reaches-once}
use Rattle.clock2q_cache.proofs.Spent.{costs-of}
use Rattle.clock2q_cache.proofs.WithHash.{none-of, none-unless}
use Rattle.clock2q_cache.proofs.cache.Cache.slot_with_hash_or_insert.Goals as goal

pub returns-clause-absent : goal.returns-clause-absent
returns-clause-absent g c = λ entered. none-unless c.with_hash.result c.in_default.not-Some c.with_hash.ensures.absent refl c.args.key c.hash-hash.ensures

pub returns-clause-alone : goal.returns-clause-alone
returns-clause-alone g c = grind (arith, none-of, is_empty, c.with_hash.ensures.slot, c.hash-hash.ensures)

pub returns-clause-resident : goal.returns-clause-resident
returns-clause-resident g c = λ entered.
    let eq = g.K.PartialEq.eq in
    let m = c.args.self.now.machine in
    let kept = ap (λ (z : CacheState _ _ _). z.machine) c.find_place-found.ensures.kept in
    rw (c.insert.ensures.machine, c.insert.ensures.slot, kept)
    (entered_there eq g.met.K.Eq.laws m c.facts.ensures.whole c.args.key (returns-clause-absent g c refl) c.args.value false
    (lasting-inserted eq g.met.K.Eq.laws c.args.key m c.facts.ensures.whole (returns-clause-absent g c refl) c.args.value))

pub returns-clause-known : goal.returns-clause-known
returns-clause-known g c = λ entered.
    rw (← (sym (returns-clause-absent g c refl))) (rw (c.insert.ensures.slot, c.find_place-found.ensures.kept, c.find_place-found.ensures.gap) at c.insert.ensures.known)

pub returns-clause-costs : goal.returns-clause-costs
returns-clause-costs g c = λ entered.
    let is = g.K.PartialEq.eq c.args.key in
    let kept = ap (λ (z : CacheState _ _ _). z.machine) c.find_place-found.ensures.kept in
    let none = sym (returns-clause-absent g c refl) in
    let asked = ap (λ h. length (candidates (remembered_in c.args.self.now.known) h)) c.hash-hash.ensures in
    costs-of (c.insert.ensures.machine ∙ ap (inserted is c.args.key c.args.value) kept
    ∙ ap (λ o. if is_some o then replaced is c.args.value c.args.self.now.machine else inserted is c.args.key c.args.value c.args.self.now.machine) none)
    (reaches-once (record { eq = g.K.PartialEq.eq; hash_input = g.K.Hash.hash_input }) g.S.BuildHasher g.S.Hasher.Hasher
    c.args.key false g.met.K.Eq.laws g.met.K.Hash.respects_eq c.facts.ensures.whole c.facts.ensures.indexed.as_many
    c.facts.ensures.within (returns-clause-known g c refl))
    (insert-spends is c.args.self.now.machine c.find_place-found.ensures.counts none kept c.insert.ensures.counts (omega (arith, asked)))

pub returns-clause-within : goal.returns-clause-within
returns-clause-within g c =
    let eq = g.K.PartialEq.eq in
    let m = c.args.self.now.machine in
    let whole = lasting-inserted eq g.met.K.Eq.laws c.args.key m c.facts.ensures.whole (returns-clause-absent g c refl) c.args.value in
    let kept = ap (λ (z : CacheState _ _ _). z.machine) c.find_place-found.ensures.kept in
    let there = entered_there eq g.met.K.Eq.laws m c.facts.ensures.whole c.args.key (returns-clause-absent g c refl) c.args.value false whole in
    rw (c.insert.ensures.machine, c.insert.ensures.slot, kept)
    (omega (arith, resident_made eq g.met.K.Eq.laws (eq c.args.key) (inserted (eq c.args.key) c.args.key c.args.value m) whole _ there, whole.made_within))
