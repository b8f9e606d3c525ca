-- The tail's key goes into the history, and the new key takes its slot.
use Rattle.clock2q_cache.proofs.Names.{◌+◌, ◌≡◌, ℕ, eqb, false, Some, refl, ap, ◌∙◌, arith, vec_capacity, is_some, oldest_hash, pushed_places, if◌then◌else◌, with_handle, without_handle, is_shared, slots, Remembered, Places, most_beside, slots-pushed, shared-pushed, slots-entered, into_small}
use Rattle.clock2q_cache.proofs.CacheInvariant.{m, IsDone}
use Rattle.clock2q_cache.proofs.Renewed.{is-resident, within-room, slot-below, tail-in, tail-unremembered, tail_is, leaves-by, evicted-done}
use Rattle.clock2q_cache.proofs.Insertions.{evicted-spends}
use Rattle.clock2q_cache.proofs.Evicting.{noted}
use Rattle.clock2q_cache.proofs.Places.{entered-evicting}
use Rattle.clock2q_cache.proofs.cache.Cache.replace_tail.Given.{Over}
use Rattle.clock2q_cache.proofs.cache.Cache.replace_tail.Goals.{After-replace_remembering}
use Rattle.clock2q_cache.proofs.cache.Cache.replace_tail.Goals as goal

pub key-requires : goal.key-requires
key-requires g c =
    let there = tail-in g.met.K.Eq.laws c.self.invariant c.replace_tail-tail.result c.replace_tail-tail.ensures.tail in
    record { made = (slot-below g.met.K.Eq.laws c.self.invariant c.replace_tail-tail.result there).0 }

pub replace_remembering-requires : goal.replace_remembering-requires
replace_remembering-requires g c =
    let last = c.replace_tail-tail.ensures.tail in
    record {
      resident = is-resident c.self.inside.directory g.met.K.Eq.laws c.self.invariant c.replace_tail-tail.result (tail-in g.met.K.Eq.laws c.self.invariant c.replace_tail-tail.result last);
      gap = rw (← c.self.view_is) at c.requires.unknown.at;
      room = within-room c.self.inside.directory g.met.K.Eq.laws c.self.invariant;
      absent = λ old is. tail-unremembered g.met.K.Eq.laws c.self.invariant c.replace_tail-tail.result last old is;
    }

-- the key has the slot
done : (g : Over) (c : After-replace_remembering g) → IsDone g.met.K.Eq.laws c.self.invariant c.replace_tail-tail.result c.args.newcomer.value (into_small c.args.newcomer.key (m g.met.K.Eq.laws c.self.invariant))
    c.replace_tail-tail.new.self c.replace_remembering.new.self.history (slots c.replace_remembering.new.self.history.places.index) c.replace_remembering.new.self.residents c.self.inside.free.items (vec_capacity c.self.inside.free)
done g c =
    let last = c.replace_tail-tail.ensures.tail in
    let r = c.replace_remembering.ensures.index in
    let h = c.self.inside.directory.history in
    let there = tail-in g.met.K.Eq.laws c.self.invariant c.replace_tail-tail.result last in
    let below = (slot-below g.met.K.Eq.laws c.self.invariant c.replace_tail-tail.result there).2 in
    let oldest = oldest_hash (λ (e : ℕ × _). e.0) h.entries in
    let p : Places = pushed_places h.limit r.old_hash c.replace_tail-tail.result oldest h.places in
    let indexed : slots c.replace_remembering.new.self.history.places.index ≡ with_handle (without_handle eqb (slots h.places.index) r.old_hash c.replace_tail-tail.result) c.args.newcomer.hash c.replace_tail-tail.result =
    ap (λ (z : Places). slots z.index) r.places ∙ slots-entered p.index c.args.newcomer.hash c.replace_tail-tail.result (omega (arith, below))
    ∙ ap (λ z. with_handle z c.args.newcomer.hash c.replace_tail-tail.result) (slots-pushed h.limit r.old_hash c.replace_tail-tail.result oldest h.places (omega (arith, below))) in
    let beside : most_beside c.replace_remembering.new.self.history ≡ most_beside h =
    ap (λ (z : Remembered _). most_beside z) r.becomes
    ∙ ap (λ b. if b then h.limit + 1 else 0) (ap (λ (z : Places). is_shared z.index) r.places ∙ shared-pushed h.limit r.old_hash c.replace_tail-tail.result oldest h.places (omega (arith, below))) in
    evicted-done g.met.K.Eq.laws c.self.invariant (rw (← c.self.view_is) at c.requires.unknown.hashed) (rw (← c.self.view_is) at c.requires.unknown.absent) there r.had_hash indexed
    c.replace_remembering.ensures.entries c.replace_remembering.ensures.kept last r.had_key (rw (← c.self.view_is) at c.requires.full) (rw (← c.self.view_is) at c.requires.out)
    c.replace_tail-tail.ensures.queues r.becomes beside

pub invariant_of-self : goal.invariant_of-self
invariant_of-self g c = (done g (goal.at.invariant_of-self g c).After-replace_remembering).holds

pub returns : goal.returns
returns g c =
    let i = c.self.inside in
    let d = done g (goal.at.returns g c).After-replace_remembering in
    let r = c.replace_remembering.ensures.index in
    let last = c.replace_tail-tail.ensures.tail in
    let leaver = leaves-by g.met.K.Eq.laws c.self.invariant c.replace_tail-tail.result last (rw (← c.self.view_is) at c.requires.full) false (rw (← c.self.view_is) at c.requires.out)
    ∙ ap (λ k. Some (k, c.replace_tail-tail.result)) (tail_is g.met.K.Eq.laws c.self.invariant c.replace_tail-tail.result last c.key.result.now c.key.ensures.key) in
    rw (← c.self.view_is) (record {
      entered = record {
        slot = d.at;
        machine = d.fills;
        indexes = entered-evicting g.met.K.Eq.laws c.self.invariant i.directory.history.places c.args.newcomer.key c.replace_tail-tail.result (is_some c.args.newcomer.gap)
            (rw (← c.self.view_is) at c.requires.unknown.hashed) c.replace_tail-tail.ensures.tail r.had_key r.had_hash r.places;
        hasher = refl;
        counts = evicted-spends i.queues i.directory.history i.directory.residents c.replace_tail-tail.ensures.queues c.replace_tail-tail.ensures.accesses r.becomes r.accesses c.replace_remembering.ensures.kept;
      };
      left = noted g.F.FnOnce leaver c.leaves-left.ensures;
    })
