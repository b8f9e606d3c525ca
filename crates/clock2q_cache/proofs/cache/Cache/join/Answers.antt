-- The new key's slot is the vacancy.
use Rattle.clock2q_cache.proofs.Names.{◌≡◌, ◌<◌, ◌↔◌, refl, ap, length, drop, reverse, vec_len, vec_capacity, arith, rules, is_some, IsSome, slots, Remembered, slots-entered, into_main, into_small, is_main}
use Rattle.clock2q_cache.proofs.CacheInvariant.{m, IsFree, IsDone, done-reindexed, reindexed, now-slots, free-to-join, left-free, made-to-join, main-done, small-done}
use Rattle.clock2q_cache.proofs.Insertions.{joined-spends}
use Rattle.clock2q_cache.proofs.Places.{entered-vacant}
use Rattle.clock2q_cache.proofs.cache.Cache.join.Given.{Over}
use Rattle.clock2q_cache.proofs.cache.Cache.join.Goals.{After-unwrap_or-slot, After-append, After-admit}
use Rattle.clock2q_cache.proofs.cache.Cache.join.Goals as goal

-- the slot that was picked, and the free ones that are left
any : (g : Over) (c : After-unwrap_or-slot g) → IsSome c.pop.result ↔ (0 < length c.self.inside.free.items)
any g c = let as_many : vec_len c.self.inside.free ≡ length c.self.inside.free.items = search rules in rw as_many at c.pop.ensures.variant

others : (g : Over) (c : After-unwrap_or-slot g) → reverse c.pop.new.self.items ≡ drop 1 (reverse c.self.inside.free.items)
others g c = left-free c.self.inside.free.items c.pop.new.self.items c.pop.result c.pop.ensures.items (any g c)

free : (g : Over) (c : After-unwrap_or-slot g) → IsFree g.met.K.Eq.laws c.self.invariant c.unwrap_or-slot.result
free g c =
    free-to-join g.met.K.Eq.laws c.self.invariant c.pop.new.self.items c.pop.result (is_main c.args.admission) c.pop.ensures.items (any g c) c.made.ensures.made c.unwrap_or-slot.ensures
    (rw (← c.self.view_is) at c.requires.main) (rw (← c.self.view_is) at c.requires.small)

pub enter-requires : goal.enter-requires
enter-requires g c =
    let f = free g (goal.at.enter-requires g c).After-unwrap_or-slot in
    record {
      vacant = record {
        next = f.next;
        had = made-to-join g.met.K.Eq.laws c.self.invariant (is_main c.args.admission) c.args.newcomer.key c.args.newcomer.value f.taken (rw (← c.self.view_is) at c.requires.main) (rw (← c.self.view_is) at c.requires.had);
        room = f.within;
        few = f.made;
        below = f.short;
        index_room = record { room = f.index_room; few = f.few };
      };
      gap = rw (← c.self.view_is) at c.requires.unknown.at;
    }

pub append-requires : goal.append-requires
append-requires g c = grind (arith, free, c.self.invariant.linked)

pub admit-requires : goal.admit-requires
admit-requires g c = grind (arith, free, c.self.invariant.linked, c.self.invariant.sized, c.self.view_is, c.requires.small (ap is_main c.in-Small.is))

-- the key has it, in Main and in Small
in-main : (g : Over) (c : After-append g) → IsFree g.met.K.Eq.laws c.self.invariant c.unwrap_or-slot.result → reverse c.pop.new.self.items ≡ drop 1 (reverse c.self.inside.free.items)
    → IsDone g.met.K.Eq.laws c.self.invariant c.unwrap_or-slot.result c.args.newcomer.value (into_main c.args.newcomer.key (m g.met.K.Eq.laws c.self.invariant))
    c.append.new.self c.enter.new.self.history (slots c.enter.new.self.history.places.index) c.enter.new.self.residents c.pop.new.self.items (vec_capacity c.pop.new.self)
in-main g c f o =
    done-reindexed g.met.K.Eq.laws c.self.invariant (reindexed c.self.inside.directory.history c.enter.ensures.index refl)
    (main-done g.met.K.Eq.laws c.self.invariant f (rw (← c.self.view_is) at c.requires.unknown.hashed) (rw (← c.self.view_is) at c.requires.unknown.absent)
    (now-slots c.self.inside.directory.history c.enter.ensures.index (slots-entered c.self.inside.directory.history.places.index c.args.newcomer.hash c.unwrap_or-slot.result (omega (arith, f.short))))
    c.enter.ensures.entries c.enter.ensures.kept (rw (← c.self.view_is) at (c.requires.main (ap is_main c.in-Main.is)))
    c.append.ensures.queues o c.pop.ensures.capacity)

in-small : (g : Over) (c : After-admit g) → IsFree g.met.K.Eq.laws c.self.invariant c.unwrap_or-slot.result → reverse c.pop.new.self.items ≡ drop 1 (reverse c.self.inside.free.items)
    → IsDone g.met.K.Eq.laws c.self.invariant c.unwrap_or-slot.result c.args.newcomer.value (into_small c.args.newcomer.key (m g.met.K.Eq.laws c.self.invariant))
    c.admit.new.self c.enter.new.self.history (slots c.enter.new.self.history.places.index) c.enter.new.self.residents c.pop.new.self.items (vec_capacity c.pop.new.self)
in-small g c f o =
    done-reindexed g.met.K.Eq.laws c.self.invariant (reindexed c.self.inside.directory.history c.enter.ensures.index refl)
    (small-done g.met.K.Eq.laws c.self.invariant f (rw (← c.self.view_is) at c.requires.unknown.hashed) (rw (← c.self.view_is) at c.requires.unknown.absent)
    (now-slots c.self.inside.directory.history c.enter.ensures.index (slots-entered c.self.inside.directory.history.places.index c.args.newcomer.hash c.unwrap_or-slot.result (omega (arith, f.short))))
    c.enter.ensures.entries c.enter.ensures.kept (rw (← c.self.view_is) at (c.requires.small (ap is_main c.in-Small.is)))
    c.admit.ensures.queues o c.pop.ensures.capacity)

pub invariant_of-self : goal.invariant_of-self
invariant_of-self g c =
    let at = goal.at.invariant_of-self g c in
    (in-main g at.After-append (free g at.After-unwrap_or-slot) (others g at.After-unwrap_or-slot)).holds

pub invariant_of-self-in-Small : goal.invariant_of-self-in-Small
invariant_of-self-in-Small g c =
    let at = goal.at.invariant_of-self-in-Small g c in
    (in-small g at.After-admit (free g at.After-unwrap_or-slot) (others g at.After-unwrap_or-slot)).holds

pub returns-in-Main : goal.returns-in-Main
returns-in-Main g c =
    let at = goal.at.returns-in-Main g c in
    let f = free g at.After-unwrap_or-slot in
    let d = in-main g at.After-append f (others g at.After-unwrap_or-slot) in
    rw (c.in-Main.is, ← c.self.view_is) (record {
      entered = record {
        slot = d.at;
        machine = d.fills;
        indexes = entered-vacant g.met.K.Eq.laws c.self.invariant c.self.inside.directory.history.places c.args.newcomer.key c.unwrap_or-slot.result (is_some c.args.newcomer.gap)
            (rw (← c.self.view_is) at c.requires.unknown.hashed) f.absent (ap (λ (z : Remembered _). z.places) c.enter.ensures.index);
        hasher = refl;
        counts = joined-spends c.self.inside.queues c.self.inside.directory.history c.self.inside.directory.residents 1 6 c.append.ensures.queues c.append.ensures.accesses
            (omega arith) c.enter.ensures.index c.enter.ensures.kept;
      };
    })

pub returns-in-Small : goal.returns-in-Small
returns-in-Small g c =
    let at = goal.at.returns-in-Small g c in
    let f = free g at.After-unwrap_or-slot in
    let d = in-small g at.After-admit f (others g at.After-unwrap_or-slot) in
    rw (c.in-Small.is, ← c.self.view_is) (record {
      entered = record {
        slot = d.at;
        machine = d.fills;
        indexes = entered-vacant g.met.K.Eq.laws c.self.invariant c.self.inside.directory.history.places c.args.newcomer.key c.unwrap_or-slot.result (is_some c.args.newcomer.gap)
            (rw (← c.self.view_is) at c.requires.unknown.hashed) f.absent (ap (λ (z : Remembered _). z.places) c.enter.ensures.index);
        hasher = refl;
        counts = joined-spends c.self.inside.queues c.self.inside.directory.history c.self.inside.directory.residents 3 10 c.admit.ensures.queues c.admit.ensures.accesses
            (omega arith) c.enter.ensures.index c.enter.ensures.kept;
      };
    })
