-- The key is at the slot that is returned.
use Rattle.clock2q_cache.proofs.Names.{◌≡◌, ℕ, ◌<◌, Bool, false, Some, sym, ap, ◌∙◌, subst, arith, lasting-inserted, lasting-after, resident_made, weight-replaced, same_slots, entered_there, IsEquivalence, IsWhole, Machine, hit, slot_of, stored, inserted, CacheState, replaced_at, Put, put}
use Rattle.clock2q_cache.proofs.Insertions.{hit-spends, insert-spends}
use Rattle.clock2q_cache.proofs.Reaching.{reaches-taken}
use Rattle.clock2q_cache.proofs.Spent.{put-costs}
use Rattle.clock2q_cache.proofs.cache.Cache.put_slot.Goals as goal

pub returns-in-Some-clause-machine : goal.returns-in-Some-clause-machine
returns-in-Some-clause-machine g c = grind (arith, c.replace_value.ensures.machine, c.record_hit.ensures.machine, c.find.ensures.machine, c.in-Some.ensures.slot)

pub returns-clause-machine : goal.returns-clause-machine
returns-clause-machine g c = grind (arith, c.insert_at_slot-slot.ensures.machine, c.find.ensures.machine, c.in_default.ensures.slot)

pub returns-in-Some-clause-slot : goal.returns-in-Some-clause-slot
returns-in-Some-clause-slot g c =
    let eq = g.K.PartialEq.eq in let is = eq c.args.key in let m = c.args.self.now.machine in
    ap (slot_of is) (c.replace_value.ensures.machine ∙ ap (stored c.in-Some.slot c.args.value) (c.record_hit.ensures.machine ∙ ap (hit is) c.find.ensures.machine))
    ∙ same_slots eq (replaced_at is c.args.value (Some c.in-Some.slot) m) m c.facts.ensures.whole (λ w. weight-replaced w is c.args.value (Some c.in-Some.slot) m) c.args.key
    ∙ sym c.in-Some.ensures.slot

pub returns-clause-slot : goal.returns-clause-slot
returns-clause-slot g c =
    let eq = g.K.PartialEq.eq in let m = c.args.self.now.machine in let absent = sym c.in_default.ensures.slot in
    ap (slot_of (eq c.args.key)) (c.insert_at_slot-slot.ensures.machine ∙ ap (inserted (eq c.args.key) c.args.key c.args.value) c.find.ensures.machine)
    ∙ entered_there eq g.met.K.Eq.laws m c.facts.ensures.whole c.args.key absent c.args.value false (lasting-inserted eq g.met.K.Eq.laws c.args.key m c.facts.ensures.whole absent c.args.value)
    ∙ sym (ap Some (rw c.find.ensures.machine at c.insert_at_slot-slot.ensures.slot))

-- and that is below the capacity
within : {K V : Type 0} (eq : K → K → Bool) → IsEquivalence eq → (m : Machine K V) → IsWhole eq m → (key : K) (value : V) (now : Machine K V)
    → now ≡ put (eq key) key value m → (slot : ℕ) → slot_of (eq key) now ≡ Some slot → slot < now.shares.capacity
within eq laws m whole key value now becomes slot there =
    let h = subst (IsWhole eq) (sym becomes) (lasting-after eq laws (Put key value) m whole) in
    omega (arith, resident_made eq laws (eq key) now h slot there, h.made_within)

pub returns-in-Some-clause-within : goal.returns-in-Some-clause-within
returns-in-Some-clause-within g c = grind (arith, within, c.facts.ensures.whole)

pub returns-clause-within : goal.returns-clause-within
returns-clause-within g c =
    within g.K.PartialEq.eq g.met.K.Eq.laws c.args.self.now.machine c.facts.ensures.whole c.args.key c.args.value c.insert_at_slot-slot.new.self.machine
    (returns-clause-machine g c) c.insert_at_slot-slot.result.0 (returns-clause-slot g c)

pub returns-in-Some-clause-known : goal.returns-in-Some-clause-known
returns-in-Some-clause-known g c =
    rw (← c.in-Some.ensures.slot) (ap (λ (z : CacheState _ _ _). z.known) c.replace_value.ensures.kept ∙ ap (λ (z : CacheState _ _ _). z.known) c.record_hit.ensures.kept
    ∙ ap (λ (z : CacheState _ _ _). z.known) c.find.ensures.kept)

pub returns-clause-known : goal.returns-clause-known
returns-clause-known g c = rw (← c.in_default.ensures.slot) (rw (c.insert_at_slot-slot.ensures.slot, c.find.ensures.kept) at c.insert_at_slot-slot.ensures.known)

pub returns-in-Some-clause-costs : goal.returns-in-Some-clause-costs
returns-in-Some-clause-costs g c =
    let is = g.K.PartialEq.eq c.args.key in
    let counts = ap (λ (z : CacheState _ _ _). z.counts) c.replace_value.ensures.kept ∙ ap (λ (z : CacheState _ _ _). z.counts) c.record_hit.ensures.kept in
    put-costs (returns-in-Some-clause-machine g c)
    (reaches-taken (record { eq = g.K.PartialEq.eq; hash_input = g.K.Hash.hash_input }) g.S.BuildHasher g.S.Hasher.Hasher
    c.args.key g.met.K.Eq.laws g.met.K.Hash.respects_eq c.facts.ensures.whole c.facts.ensures.indexed.as_many
    c.facts.ensures.within (returns-in-Some-clause-known g c))
    (hit-spends is c.args.self.now.machine c.find.ensures.counts c.in-Some.ensures.slot counts (rw c.hash-hash.ensures (omega arith)))

pub returns-clause-costs : goal.returns-clause-costs
returns-clause-costs g c =
    let is = g.K.PartialEq.eq c.args.key in
    put-costs (returns-clause-machine g c)
    (reaches-taken (record { eq = g.K.PartialEq.eq; hash_input = g.K.Hash.hash_input }) g.S.BuildHasher g.S.Hasher.Hasher
    c.args.key g.met.K.Eq.laws g.met.K.Hash.respects_eq c.facts.ensures.whole c.facts.ensures.indexed.as_many
    c.facts.ensures.within (returns-clause-known g c))
    (insert-spends is c.args.self.now.machine c.find.ensures.counts c.in_default.ensures.slot c.find.ensures.machine c.insert_at_slot-slot.ensures.counts
    (rw (c.find.ensures.kept, c.hash-hash.ensures) (omega arith)))
