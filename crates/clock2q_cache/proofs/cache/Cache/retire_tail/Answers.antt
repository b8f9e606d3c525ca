-- The tail's key goes into the history, and its slot is free.
use Rattle.clock2q_cache.proofs.Names.{◌+◌, ◌≡◌, ℕ, length, sym, ap, ◌∙◌, arith, rules, vec_len, Remembered, Places, oldest_hash, is_shared, slots, most_beside, slots-pushed, shared-pushed, if◌then◌else◌}
use Rattle.clock2q_cache.proofs.Renewed.{is-resident, slot-below, tail-in, tail-unremembered}
use Rattle.clock2q_cache.proofs.MakingRoom.{kept-unmoved, unretired-machine, last_none, retired-machine, kept-retired, tail-entry, room-for-free}
use Rattle.clock2q_cache.proofs.Places.{pushed-key}
use Rattle.clock2q_cache.proofs.cache.Cache.retire_tail.Goals as goal

pub invariant_of-self : goal.invariant_of-self
invariant_of-self g c =
    kept-unmoved g.met.K.Eq.laws c.self.invariant (sym c.in_err-tail.ensures.tail) c.in_err-tail.ensures.queues

pub returns-in_err-tail-clause-left : goal.returns-in_err-tail-clause-left
returns-in_err-tail-clause-left g c = grind (arith, c.self.view_is, c.from_residual.ensures, last_none g.met.K.Eq.laws c.self.invariant (sym c.in_err-tail.ensures.tail))

pub returns-in_err-tail-clause-machine : goal.returns-in_err-tail-clause-machine
returns-in_err-tail-clause-machine g c = rw (← c.self.view_is) (unretired-machine g.met.K.Eq.laws c.self.invariant (sym c.in_err-tail.ensures.tail) c.in_err-tail.ensures.queues)

pub retire-key-requires-clause-resident : goal.retire-key-requires-clause-resident
retire-key-requires-clause-resident g c =
    let laws = g.met.K.Eq.laws in
    is-resident c.self.inside.directory laws c.self.invariant c.in_ok-tail.tail (tail-in laws c.self.invariant c.in_ok-tail.tail (sym c.in_ok-tail.ensures.tail))

pub retire-key-requires-clause-absent : goal.retire-key-requires-clause-absent
retire-key-requires-clause-absent g c old is =
    tail-unremembered g.met.K.Eq.laws c.self.invariant c.in_ok-tail.tail (sym c.in_ok-tail.ensures.tail) old is

pub free_slot-requires : goal.free_slot-requires
free_slot-requires g c =
    let as_many : vec_len c.self.inside.free ≡ length c.self.inside.free.items = search rules in
    record { room = omega (arith, as_many, room-for-free g.met.K.Eq.laws c.self.invariant c.in_ok-tail.tail (sym c.in_ok-tail.ensures.tail)) }

pub invariant_of-self-2 : goal.invariant_of-self-2
invariant_of-self-2 g c =
    let laws = g.met.K.Eq.laws in
    let last = sym c.in_ok-tail.ensures.tail in
    let tail = c.in_ok-tail.tail in
    let r = c.retire-key.ensures.retired in
    let h = c.self.inside.directory.history in
    let below = (slot-below laws c.self.invariant tail (tail-in laws c.self.invariant tail last)).2 in
    let oldest = oldest_hash (λ (e : ℕ × _). e.0) h.entries in
    rw c.retire-key.ensures.kept (kept-retired laws c.self.invariant tail last _ _ c.free_slot.new.free.items _ _ _ c.in_ok-tail.ensures.queues r.had_hash r.had_key r.becomes c.free_slot.ensures.top
    (ap (λ (z : Places). slots z.index) r.places ∙ slots-pushed h.limit r.hash tail oldest h.places (omega (arith, below)))
    (ap (λ (z : Remembered _). most_beside z) r.becomes
    ∙ ap (λ b. if b then h.limit + 1 else 0) (ap (λ (z : Places). is_shared z.index) r.places ∙ shared-pushed h.limit r.hash tail oldest h.places (omega (arith, below))))
    c.free_slot.ensures.capacity)

pub returns-clause-left : goal.returns-clause-left
returns-clause-left g c =
    rw (← c.self.view_is) (tail-entry g.met.K.Eq.laws c.self.invariant c.in_ok-tail.tail (sym c.in_ok-tail.ensures.tail) c.retire-key.result c.retire-key.ensures.retired.had_key)

pub returns-clause-machine : goal.returns-clause-machine
returns-clause-machine g c =
    let r = c.retire-key.ensures.retired in
    rw (c.retire-key.ensures.kept, ← c.self.view_is) (retired-machine g.met.K.Eq.laws c.self.invariant c.in_ok-tail.tail (sym c.in_ok-tail.ensures.tail) _ _ c.free_slot.new.free.items _ _ _
    c.in_ok-tail.ensures.queues r.had_hash r.had_key r.becomes c.free_slot.ensures.top)

pub returns-clause-known : goal.returns-clause-known
returns-clause-known g c =
    let r = c.retire-key.ensures.retired in
    grind (
      arith,
      c.self.view_is,
      r.places,
      pushed-key g.met.K.Eq.laws c.self.invariant c.self.inside.directory.history.places c.in_ok-tail.tail c.retire-key.result r.had_key r.had_hash,
    )
