-- A key that is fetched with a value from a command.
use Rattle.std.proofs.Common.{arith, ◌≡◌, ◌+◌, ℕ, Bool, Option, Some, None, Result, Err, OnErr, length, inl, inr, refl, sym, ap, ◌∙◌, subst}
use Rattle.std.specs.Prelude.{if◌then◌else◌, IfNone, is_some, slice_get}
use Rattle.std.specs.Option.{UnwrapsOrElse, option_and_then}
use Rattle.std.proofs.lemmas.Bool.{cases_lt, lt-ltb}
use Rattle.std.proofs.lemmas.Option.{slice_get_past}
use Rattle.std.specs.HashMap.Lent.{HashMembers}
use Rattle.std.specs.declared.hash.Hasher as hasher
use Rattle.std.specs.declared.hash.BuildHasher as builder
use Rattle.clock2q_cache.specs.CacheState.{CacheState}
use Rattle.clock2q_cache.specs.Costs.{Costs, accesses_for, slots_for, walked}
use Rattle.clock2q_cache.specs.Places.{known_with}
use Rattle.clock2q_cache.specs.Runs.{known_after}
use Rattle.clock2q_machine.specs.Bounds.{takes_victim, inspections_for, victims_for}
use Rattle.clock2q_machine.specs.Calls.{Put, Try}
use Rattle.clock2q_machine.specs.Entries.{inspections}
use Rattle.clock2q_machine.specs.Machine.{Machine, slot_of, value_of, hit, inserted, reused, placement}
use Rattle.clock2q_machine.specs.Steps.{fetched, fetched_value, tried, tried_value, slotted, slotted_at}
use Rattle.clock2q_machine.proofs.Residents.{hit-absent}

-- what holds for an error or for `None` holds if there is one
pub at_err : {T E : Type 0} {P : Type 0} (r : Result T E) (e : E) → r ≡ Err e → OnErr r P → P
at_err {P = P} r e is h = subst (λ r. OnErr r P) is h

pub at_none : {T : Type 0} {P : Type 0} (r : Option T) → r ≡ None → IfNone r P → P
at_none {P = P} r is h = subst (λ r. IfNone r P) is h

module _ {K V : Type 0} (is : K → Bool) (key : K) (m : Machine K V) where
  fetched-resident : (slot : ℕ) (v : V) → slot_of is m ≡ Some slot → fetched is key v m ≡ hit is m
  fetched-resident slot v e = ap (λ o. if is_some o then hit is m else inserted is key v m) e

  module _ (made : V → Type 0) (v : V) (value : V) (gives : (w : V) → made w → w ≡ value) where
    is_fetched : (had : Option V) → UnwrapsOrElse had made v → v ≡ fetched_value had value
    is_fetched None h = gives v h
    is_fetched (Some had) h = h

    becomes_fetched : (o : Option ℕ) → slot_of is m ≡ o → UnwrapsOrElse (option_and_then (slice_get m.values) o) made v → fetched is key v m ≡ fetched is key value m
    becomes_fetched None e h = ap (λ w. fetched is key w m) (gives v h)
    becomes_fetched (Some slot) e h = fetched-resident slot v e ∙ sym (fetched-resident slot value e)

    -- the value is the given one, if a new one was made
    pub fetched-given : UnwrapsOrElse (value_of is m) made v → (v ≡ fetched_value (value_of is m) value) × (fetched is key v m ≡ fetched is key value m)
    fetched-given h = (is_fetched (value_of is m) h, becomes_fetched (slot_of is m) refl h)

  module _ (made : V → Type 0) (v : V) (offered : Option V) (gives : (w : V) → made w → offered ≡ Some w) where
    is_tried : (had : Option V) → UnwrapsOrElse had made v → Some v ≡ tried_value had offered
    is_tried None h = sym (gives v h)
    is_tried (Some had) h = ap Some h

    tried-resident : (slot : ℕ) (o : Option V) → slot_of is m ≡ Some slot → fetched is key v m ≡ tried is key o m
    tried-resident slot None e = fetched-resident slot v e
    tried-resident slot (Some w) e = fetched-resident slot v e ∙ sym (fetched-resident slot w e)

    becomes_tried : (o : Option ℕ) → slot_of is m ≡ o → UnwrapsOrElse (option_and_then (slice_get m.values) o) made v → fetched is key v m ≡ tried is key offered m
    becomes_tried None e h = subst (λ o. fetched is key v m ≡ tried is key o m) (sym (gives v h)) refl
    becomes_tried (Some slot) e h = tried-resident slot offered e

    -- the same if one may be offered
    pub tried-given : UnwrapsOrElse (value_of is m) made v → (Some v ≡ tried_value (value_of is m) offered) × (fetched is key v m ≡ tried is key offered m)
    tried-given h = (is_tried (value_of is m) h, becomes_tried (slot_of is m) refl h)

  -- and if none is offered for a key that isn't resident
  pub untried : slot_of is m ≡ None → (None ≡ tried_value (value_of is m) None) × (m ≡ tried is key None m)
  untried absent = (sym (ap (λ o. tried_value (option_and_then (slice_get m.values) o) None) absent), sym (hit-absent is m absent))

-- a call that offers a value or finds the key costs what a put of the key costs
module _ {K V S H : Type 0} (key : HashMembers K) (build : builder.Ghosts S H) (hash : hasher.Ghosts H) (k : K) (v : V) (old new : CacheState K V S) (spent : Costs key build hash (Put k v) old new) where
  resident_costs : (slot : ℕ) (o : Option V) → slot_of (key.eq k) old.machine ≡ Some slot → Costs key build hash (Try k o) old new
  resident_costs slot None e =
      let looks : inspections_for (key.eq k) old.machine ≡ 0 = ap (λ z. if is_some z then 0 else (if takes_victim (key.eq k) old.machine then inspections old.machine.main else 0)) e in
      let links : accesses_for (key.eq k) old.machine ≡ 0 = ap (λ z. if is_some z then 0 else inspections_for (key.eq k) old.machine + 29) e in
      let victims : victims_for (key.eq k) old.machine ≡ 0 = ap (λ z. if is_some z then 0 else (if takes_victim (key.eq k) old.machine then 1 else 0)) e in
      let slots : slots_for key build hash k old ≡ walked key build hash old k = rw e (omega arith) in
      record {
        index = record { accesses = omega (arith, spent.index.accesses, slots) };
        counts = record {
          inspections = omega (arith, spent.counts.inspections, looks);
          accesses = (spent.counts.accesses.0, omega (arith, spent.counts.accesses.1, links));
          comparisons = spent.counts.comparisons;
        };
        clock = omega (arith, spent.clock, victims);
      }
  resident_costs slot (Some w) e = record { counts = spent.counts; index = spent.index; clock = spent.clock }

  offered_costs : (o : Option V) → o ≡ Some v → Costs key build hash (Try k o) old new
  offered_costs o e = subst (λ o. Costs key build hash (Try k o) old new) (sym e) (record { counts = spent.counts; index = spent.index; clock = spent.clock })

  module _ (made : V → Type 0) (offered : Option V) (gives : (w : V) → made w → offered ≡ Some w) where
    costs_tried : (o : Option ℕ) → slot_of (key.eq k) old.machine ≡ o → UnwrapsOrElse (option_and_then (slice_get old.machine.values) o) made v → Costs key build hash (Try k offered) old new
    costs_tried None e h = offered_costs offered (gives v h)
    costs_tried (Some slot) e h = resident_costs slot offered e

    pub tried-costs : UnwrapsOrElse (value_of (key.eq k) old.machine) made v → Costs key build hash (Try k offered) old new
    tried-costs h = costs_tried (slot_of (key.eq k) old.machine) refl h

-- and it leaves the index that such a put leaves
module _ {K V S H : Type 0} (key : HashMembers K) (build : builder.Ghosts S H) (hash : hasher.Ghosts H) (k : K) (v : V) (old new : CacheState K V S) (spent : Costs key build hash (Put k v) old new)
    (put : new.known ≡ known_with key build hash k old) where
  resident_known : (slot : ℕ) (o : Option V) → slot_of (key.eq k) old.machine ≡ Some slot → new.known ≡ known_after key build hash (Try k o) old
  resident_known slot None e = rw e at put
  resident_known slot (Some w) e = put

  offered_known : (o : Option V) → o ≡ Some v → new.known ≡ known_after key build hash (Try k o) old
  offered_known o e = subst (λ o. new.known ≡ known_after key build hash (Try k o) old) (sym e) put

  module _ (made : V → Type 0) (offered : Option V) (gives : (w : V) → made w → offered ≡ Some w) where
    known_tried : (o : Option ℕ) → slot_of (key.eq k) old.machine ≡ o → UnwrapsOrElse (option_and_then (slice_get old.machine.values) o) made v → new.known ≡ known_after key build hash (Try k offered) old
    known_tried None e h = offered_known offered (gives v h)
    known_tried (Some slot) e h = resident_known slot offered e

    pub tried-known : UnwrapsOrElse (value_of (key.eq k) old.machine) made v → new.known ≡ known_after key build hash (Try k offered) old
    tried-known h = known_tried (slot_of (key.eq k) old.machine) refl h

-- a key's slot is asked for with a value from a command
module _ {K V : Type 0} (is : K → Bool) (key : K) (m : Machine K V) (made : V → Type 0) (v : V) (value : V) (gives : (w : V) → made w → w ≡ value) where
  is_slotted : (had : Option V) → UnwrapsOrElse had made v → v ≡ fetched_value had value
  is_slotted None h = gives v h
  is_slotted (Some had) h = h

  becomes_reused : UnwrapsOrElse (slice_get m.values (placement is key m).slot) made v → reused is key v m ≡ reused is key value m
  becomes_reused h =
      let p = placement is key m in
      elim (cases_lt p.slot (length m.values)) [
        | inl there ↦ rw (lt-ltb p.slot (length m.values) there) refl
        | inr next ↦ ap (λ w. reused is key w m) (gives v (subst (λ o. UnwrapsOrElse o made v) (slice_get_past m.values p.slot next) h))
      ]

  becomes_slotted : (o : Option ℕ) → slot_of is m ≡ o → UnwrapsOrElse (slice_get m.values (slotted_at o is key m)) made v → slotted is key v m ≡ slotted is key value m
  becomes_slotted None e h = ap (λ o. if is_some o then hit is m else reused is key v m) e ∙ becomes_reused h ∙ sym (ap (λ o. if is_some o then hit is m else reused is key value m) e)
  becomes_slotted (Some slot) e h = ap (λ o. if is_some o then hit is m else reused is key v m) e ∙ sym (ap (λ o. if is_some o then hit is m else reused is key value m) e)

  -- the value is the slot's own, or the given one if the slot was made
  pub slotted-given : (slot : ℕ) → slot ≡ slotted_at (slot_of is m) is key m → UnwrapsOrElse (slice_get m.values slot) made v →
      (v ≡ fetched_value (slice_get m.values slot) value) × (slotted is key v m ≡ slotted is key value m)
  slotted-given slot at h = (is_slotted (slice_get m.values slot) h, becomes_slotted (slot_of is m) refl (subst (λ s. UnwrapsOrElse (slice_get m.values s) made v) at h))
