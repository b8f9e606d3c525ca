-- The key goes to the end of Main, at the victim's slot.
use Rattle.clock2q_cache.proofs.Names.{arith, refl, ap, ◌∙◌, vec_capacity, is_some, slots, Remembered, into_main}
use Rattle.clock2q_cache.proofs.CacheInvariant.{m, IsDone, done-reindexed, reindexed, slots-renewed}
use Rattle.clock2q_cache.proofs.Renewed.{is-resident, within-room, slot-below, victim-in, victim-leaves, replaced-done}
use Rattle.clock2q_cache.proofs.Insertions.{victim-spends}
use Rattle.clock2q_cache.proofs.Evicting.{full-leaver, noted}
use Rattle.clock2q_cache.proofs.Places.{entered-renewed}
use Rattle.clock2q_cache.proofs.cache.Cache.replace_victim.Given.{Over}
use Rattle.clock2q_cache.proofs.cache.Cache.replace_victim.Goals.{After-replace-old}
use Rattle.clock2q_cache.proofs.cache.Cache.replace_victim.Goals as goal

pub replace-old-requires : goal.replace-old-requires
replace-old-requires g c =
    let there = victim-in g.met.K.Eq.laws c.self.invariant c.replace_victim-victim.result c.replace_victim-victim.ensures.victim in
    record {
      resident = is-resident c.self.inside.directory g.met.K.Eq.laws c.self.invariant c.replace_victim-victim.result there;
      gap = rw (← c.self.view_is) at c.requires.unknown.at;
      room = within-room c.self.inside.directory g.met.K.Eq.laws c.self.invariant;
    }

-- the key has the slot
done : (g : Over) (c : After-replace-old g) → IsDone g.met.K.Eq.laws c.self.invariant c.replace_victim-victim.result c.args.newcomer.value (into_main c.args.newcomer.key (m g.met.K.Eq.laws c.self.invariant))
    c.replace_victim-victim.new.self c.replace-old.new.self.history
    (slots c.replace-old.new.self.history.places.index) c.replace-old.new.self.residents c.self.inside.free.items
    (vec_capacity c.self.inside.free)
done g c =
    let victim = c.replace_victim-victim.ensures.victim in
    let below = (slot-below g.met.K.Eq.laws c.self.invariant c.replace_victim-victim.result (victim-in g.met.K.Eq.laws c.self.invariant c.replace_victim-victim.result victim)).2 in
    done-reindexed g.met.K.Eq.laws c.self.invariant (reindexed c.self.inside.directory.history c.replace-old.ensures.index refl)
    (replaced-done g.met.K.Eq.laws c.self.invariant (rw (← c.self.view_is) at c.requires.unknown.hashed) (rw (← c.self.view_is) at c.requires.unknown.absent)
    (victim-in g.met.K.Eq.laws c.self.invariant c.replace_victim-victim.result victim) c.replace-old.ensures.hash
    (slots-renewed c.self.inside.directory.history c.replace-old.result.0 c.args.newcomer.hash (is_some c.args.newcomer.gap) c.replace-old.ensures.index below)
    c.replace-old.ensures.entries c.replace-old.ensures.kept victim
    (rw (← c.self.view_is) at c.requires.full) c.replace_victim-victim.ensures.queues)

pub invariant_of-self : goal.invariant_of-self
invariant_of-self g c = (done g (goal.at.invariant_of-self g c).After-replace-old).holds

pub returns : goal.returns
returns g c =
    let d = done g (goal.at.returns g c).After-replace-old in
    let there = victim-in g.met.K.Eq.laws c.self.invariant c.replace_victim-victim.result c.replace_victim-victim.ensures.victim in
    let looked = c.replace_victim-victim.ensures.accesses in
    let machine = m g.met.K.Eq.laws c.self.invariant in
    let leaver = victim-leaves g.met.K.Eq.laws c.self.invariant c.replace_victim-victim.result c.replace_victim-victim.ensures.victim c.replace-old.result.1 c.replace-old.ensures.key in
    rw (← c.self.view_is) (record {
      entered = record {
        slot = d.at;
        machine = d.fills;
        indexes = entered-renewed g.met.K.Eq.laws c.self.invariant c.self.inside.directory.history.places c.args.newcomer.key c.replace_victim-victim.result (is_some c.args.newcomer.gap)
            (rw (← c.self.view_is) at c.requires.unknown.hashed) there c.replace-old.ensures.hash (ap (λ (z : Remembered _). z.places) c.replace-old.ensures.index);
        hasher = refl;
        counts = victim-spends g.met.K.Eq.laws c.self.invariant 10 c.replace_victim-victim.ensures.inspections (omega (arith, looked), omega (arith, looked))
            c.replace_victim-victim.ensures.queues c.replace-old.ensures.index c.replace-old.ensures.kept;
      };
      left = noted g.F.FnOnce (full-leaver machine (rw (← c.self.view_is) at c.requires.full) ∙ leaver) c.leaves.ensures;
    })
