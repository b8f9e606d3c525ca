-- The tail moves on to Main, and the new key takes the slot of Main's victim.
use Rattle.clock2q_cache.proofs.Names.{◌≡◌, ◌+◌, true, Some, None, refl, sym, arith, vec_capacity, ap, ◌∙◌, is_some, made_below, last_or, slots_of, slots, Remembered, into_small}
use Rattle.clock2q_cache.proofs.CacheInvariant.{made-still, m, IsDone, done-reindexed, reindexed, slots-renewed, length_in_small}
use Rattle.clock2q_cache.proofs.Renewed.{is-resident, within-room, slot-below, no-tail, victim-in, victim-leaves, leaves-by, victim-not_in_front, victim-not_behind, tail-in, tail-not_in_front, tail-not_in_rest, promoted-done}
use Rattle.clock2q_cache.proofs.Insertions.{victim-spends}
use Rattle.clock2q_cache.proofs.Evicting.{noted}
use Rattle.clock2q_cache.proofs.Places.{entered-renewed}
use Rattle.clock2q_cache.proofs.cache.Cache.promote_tail.Given.{Over}
use Rattle.clock2q_cache.proofs.cache.Cache.promote_tail.Goals.{In-Some, After-admit}
use Rattle.clock2q_cache.proofs.cache.Cache.promote_tail.Goals as goal

pub unreachable-requires : goal.unreachable-requires
unreachable-requires g c =
    let some = rw (← c.self.view_is) at c.requires.some in
    no-tail c.self.inside.queues.small (omega (arith, some, length_in_small g.met.K.Eq.laws c.self.invariant)) (rw c.take_victim-slot.ensures.queues at c.in_default.ensures.tail)

-- the tail that was there
last : (g : Over) (c : In-Some g) → last_or None (slots_of c.self.inside.queues.small) ≡ Some c.in-Some.tail
last g c = sym (rw c.take_victim-slot.ensures.queues at c.in-Some.ensures.tail)

pub append-requires : goal.append-requires
append-requires g c =
    let tail = last g (goal.at.append-requires g c).In-Some in
    let b = slot-below g.met.K.Eq.laws c.self.invariant c.in-Some.tail (tail-in g.met.K.Eq.laws c.self.invariant c.in-Some.tail tail) in
    rw (c.in-Some.ensures.queues, c.take_victim-slot.ensures.queues) (record {
      slot_in = omega (arith, b.1, c.self.invariant.sized.as_many);
      not_in_small = tail-not_in_front g.met.K.Eq.laws c.self.invariant c.in-Some.tail tail;
      not_in_main = tail-not_in_rest g.met.K.Eq.laws c.self.invariant c.in-Some.tail tail c.take_victim-slot.result c.take_victim-slot.ensures.victim;
      made = omega (arith, b.0, c.self.invariant.linked);
    })

pub replace-old-requires : goal.replace-old-requires
replace-old-requires g c =
    let there = victim-in g.met.K.Eq.laws c.self.invariant c.take_victim-slot.result c.take_victim-slot.ensures.victim in
    record {
      resident = is-resident c.self.inside.directory g.met.K.Eq.laws c.self.invariant c.take_victim-slot.result there;
      gap = rw (← c.self.view_is) at c.requires.unknown.at;
      room = within-room c.self.inside.directory g.met.K.Eq.laws c.self.invariant;
    }

pub admit-requires : goal.admit-requires
admit-requires g c =
    let victim = c.take_victim-slot.ensures.victim in
    let tail = last g (goal.at.admit-requires g c).In-Some in
    let b = slot-below g.met.K.Eq.laws c.self.invariant c.take_victim-slot.result (victim-in g.met.K.Eq.laws c.self.invariant c.take_victim-slot.result victim) in
    let some = rw (← c.self.view_is) at c.requires.some in
    rw (c.append.ensures.queues, c.in-Some.ensures.queues, c.take_victim-slot.ensures.queues) (record {
      slot_in = omega (arith, b.1, c.self.invariant.sized.as_many);
      not_in_small = victim-not_in_front g.met.K.Eq.laws c.self.invariant c.in-Some.tail tail c.take_victim-slot.result victim;
      not_in_main = victim-not_behind g.met.K.Eq.laws c.self.invariant c.in-Some.tail tail c.take_victim-slot.result victim;
      made = omega (arith, b.0, c.self.invariant.linked);
      window = omega (arith, c.self.invariant.sized.window, c.self.invariant.sized.windowed (omega (arith, some, c.self.invariant.whole.small_within)));
    })

-- no record is made for the two slots
still : (g : Over) (c : After-admit g) → last_or None (slots_of c.self.inside.queues.small) ≡ Some c.in-Some.tail
    → (made_below (c.in-Some.tail + 1) c.self.inside.queues.made ≡ c.self.inside.queues.made) × (made_below (c.take_victim-slot.result + 1) c.self.inside.queues.made ≡ c.self.inside.queues.made)
still g c tail =
    let k = c.self.invariant in
    let laws = g.met.K.Eq.laws in
    let victim = victim-in laws k c.take_victim-slot.result c.take_victim-slot.ensures.victim in
    (made-still laws k (slot-below laws k c.in-Some.tail (tail-in laws k c.in-Some.tail tail)).0, made-still laws k (slot-below laws k c.take_victim-slot.result victim).0)

-- the key has the slot
done : (g : Over) (c : After-admit g) → last_or None (slots_of c.self.inside.queues.small) ≡ Some c.in-Some.tail
    → IsDone g.met.K.Eq.laws c.self.invariant c.take_victim-slot.result c.args.newcomer.value (into_small c.args.newcomer.key (m g.met.K.Eq.laws c.self.invariant))
    c.admit.new.self c.replace-old.new.self.history (slots c.replace-old.new.self.history.places.index) c.replace-old.new.self.residents c.self.inside.free.items (vec_capacity c.self.inside.free)
done g c tail =
    let victim = c.take_victim-slot.ensures.victim in
    let r = c.replace-old.ensures in
    let below = (slot-below g.met.K.Eq.laws c.self.invariant c.take_victim-slot.result (victim-in g.met.K.Eq.laws c.self.invariant c.take_victim-slot.result victim)).2 in
    done-reindexed g.met.K.Eq.laws c.self.invariant (reindexed c.self.inside.directory.history r.index refl)
    (promoted-done g.met.K.Eq.laws c.self.invariant (rw (← c.self.view_is) at c.requires.unknown.hashed) (rw (← c.self.view_is) at c.requires.unknown.absent)
    (victim-in g.met.K.Eq.laws c.self.invariant c.take_victim-slot.result victim) r.hash
    (slots-renewed c.self.inside.directory.history c.replace-old.result.0 c.args.newcomer.hash (is_some c.args.newcomer.gap) r.index below) r.entries r.kept tail victim
    (rw (← c.self.view_is) at c.requires.full) (rw (← c.self.view_is) at c.requires.on)
    (rw (c.append.ensures.queues, c.in-Some.ensures.queues, c.take_victim-slot.ensures.queues, (still g c tail).0, (still g c tail).1) at c.admit.ensures.queues))

pub invariant_of-self : goal.invariant_of-self
invariant_of-self g c = let at = goal.at.invariant_of-self g c in (done g at.After-admit (last g at.In-Some)).holds

pub returns : goal.returns
returns g c =
    let at = goal.at.returns g c in
    let d = done g at.After-admit (last g at.In-Some) in
    let still = still g at.After-admit (last g at.In-Some) in
    let r = c.replace-old.ensures in
    let taken = c.take_victim-slot.ensures.accesses in
    let appended = c.append.ensures.accesses in
    let admitted = c.admit.ensures.accesses in
    let moves = leaves-by g.met.K.Eq.laws c.self.invariant c.in-Some.tail (last g at.In-Some) (rw (← c.self.view_is) at c.requires.full) true (rw (← c.self.view_is) at c.requires.on) in
    let leaver = victim-leaves g.met.K.Eq.laws c.self.invariant c.take_victim-slot.result c.take_victim-slot.ensures.victim c.replace-old.result.1 r.key in
    rw (← c.self.view_is) (record {
      entered = record {
        slot = d.at;
        machine = d.fills;
        indexes = entered-renewed g.met.K.Eq.laws c.self.invariant c.self.inside.directory.history.places c.args.newcomer.key c.take_victim-slot.result (is_some c.args.newcomer.gap) (rw (← c.self.view_is) at c.requires.unknown.hashed)
            (victim-in g.met.K.Eq.laws c.self.invariant c.take_victim-slot.result c.take_victim-slot.ensures.victim) r.hash (ap (λ (z : Remembered _). z.places) r.index);
        hasher = refl;
        counts = victim-spends g.met.K.Eq.laws c.self.invariant 28 c.take_victim-slot.ensures.inspections
            (omega (arith, taken, c.in-Some.ensures.accesses.0, appended.0, admitted.0), omega (arith, taken, c.in-Some.ensures.accesses.1, appended.1, admitted.1))
            (rw (c.append.ensures.queues, c.in-Some.ensures.queues, c.take_victim-slot.ensures.queues, still.0, still.1) at c.admit.ensures.queues) r.index r.kept;
      };
      left = noted g.F.FnOnce (moves ∙ leaver) c.leaves.ensures;
    })
