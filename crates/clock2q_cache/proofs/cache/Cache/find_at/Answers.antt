-- A key is resident at a slot if the slot has a resident and the key is the one there.
use Rattle.clock2q_cache.proofs.Names.{refl, ap, sym, ◌∙◌, arith, then_some}
use Rattle.clock2q_cache.proofs.Changed.{kept-asked}
use Rattle.clock2q_cache.proofs.Finding.{at-places, not-at, found-at}
use Rattle.clock2q_cache.proofs.Renewed.{slot-below}
use Rattle.clock2q_cache.proofs.cache.Cache.find_at.Goals as goal

pub invariant_of-self : goal.invariant_of-self
invariant_of-self g c =
    rw (c.key_equals.ensures.kept, c.key_equals.ensures.counted) (kept-asked g.met.K.Eq.laws c.self.invariant _ refl refl)

pub overflow_cast-slot : goal.overflow_cast-slot
overflow_cast-slot g c =
    omega (arith, (slot-below g.met.K.Eq.laws c.self.invariant c.args.slot (sym c.is_resident.ensures.resident ∙ c.if-not-is_resident.false)).2)

pub key_equals-requires : goal.key_equals-requires
key_equals-requires g c =
    record { made = (slot-below g.met.K.Eq.laws c.self.invariant c.args.slot (sym c.is_resident.ensures.resident ∙ c.if-not-is_resident.false)).0 }

pub returns-clause-made : goal.returns-clause-made
returns-clause-made g c =
    let is = c.key_equals.ensures.value ∙ at-places g.met.K.Eq.laws c.self.invariant c.args.key.now c.args.slot (sym c.if-not-is_resident.ensures.resident) in
    rw (← c.self.view_is, c.then_some.ensures) (found-at g.met.K.Eq.laws c.self.invariant c.args.key.now c.args.slot c.key_equals.result is).1

pub returns-then-not-is_resident-clause-slot : goal.returns-then-not-is_resident-clause-slot
returns-then-not-is_resident-clause-slot g c = rw (← c.self.view_is) (not-at g.met.K.Eq.laws c.self.invariant c.args.key.now c.args.slot (sym c.if-not-is_resident.ensures.resident))

pub returns-clause-slot : goal.returns-clause-slot
returns-clause-slot g c =
    let is = c.key_equals.ensures.value ∙ at-places g.met.K.Eq.laws c.self.invariant c.args.key.now c.args.slot (sym c.if-not-is_resident.ensures.resident) in
    rw (← c.self.view_is) (c.then_some.ensures ∙ ap (λ b. then_some b c.args.slot) is)

pub returns-clause-found : goal.returns-clause-found
returns-clause-found g c =
    let is = c.key_equals.ensures.value ∙ at-places g.met.K.Eq.laws c.self.invariant c.args.key.now c.args.slot (sym c.if-not-is_resident.ensures.resident) in
    rw (← c.self.view_is, c.then_some.ensures) (found-at g.met.K.Eq.laws c.self.invariant c.args.key.now c.args.slot c.key_equals.result is).0
