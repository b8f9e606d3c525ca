use Rattle.clock2q_directory.proofs.Names.{◌≡◌, refl, ap, sym, ◌∙◌, arith, forgotten_at, remembered_from, places_from, found_place, freed_place}
use Rattle.clock2q_directory.proofs.Forgetting.{no_place, forgets, missed, place_there, place_held, place_short}
use Rattle.clock2q_directory.proofs.directory.Directory.forget.Goals as goal

pub returns-in_default : goal.returns-in_default
returns-in_default g c =
    let hashed = rw (← c.self.view_is) at c.requires.hash in
    let placed = rw (← c.self.view_is) at c.requires.place in
    let none = sym (no_place c.args.found.now c.in_default.not-Remembered) ∙ placed in
    let m = missed g.met.K.Eq.laws c.args.hash c.args.key.now c.self.invariant hashed none in
    rw (← c.self.view_is) (record {
      found = sym m.0;
      forgotten = ap (λ es. record (remembered_from c.self.inside.index c.self.inside.history.order c.self.inside.history.keys) { entries = es }) (sym m.1);
      kept = refl;
      places = ap (λ z. freed_place c.args.hash z (places_from c.self.inside.index c.self.inside.history.order)) none;
      accesses = (omega arith, omega arith);
    })

pub forget-requires : goal.forget-requires
forget-requires g c =
    let hashed = rw (← c.self.view_is) at c.requires.hash in
    let placed = rw (← c.self.view_is) at c.requires.place in
    let found = sym (ap found_place c.in-Remembered.is) ∙ placed in
    record {
      short = omega (arith, place_short g.met.K.Eq.laws c.args.hash c.args.key.now c.self.invariant hashed found);
      held = place_held g.met.K.Eq.laws c.args.hash c.args.key.now c.self.invariant hashed found;
    }

pub unlink-requires : goal.unlink-requires
unlink-requires g c =
    let hashed = rw (← c.self.view_is) at c.requires.hash in
    let placed = rw (← c.self.view_is) at c.requires.place in
    (place_there g.met.K.Eq.laws c.args.hash c.args.key.now c.self.invariant hashed (sym (ap found_place c.in-Remembered.is) ∙ placed))

pub invariant_of-self : goal.invariant_of-self
invariant_of-self g c =
    let hashed = rw (← c.self.view_is) at c.requires.hash in
    let placed = rw (← c.self.view_is) at c.requires.place in
    let f = forgets g.met.K.Eq.laws c.args.hash c.args.key.now c.self.invariant hashed (sym (ap found_place c.in-Remembered.is) ∙ placed) c.unlink.ensures.whole c.unlink.ensures.order in
    rw c.forget.ensures.forgotten f.whole

pub returns : goal.returns
returns g c =
    let gone : c.forget.new.self ≡ forgotten_at c.args.hash c.in-Remembered.place c.self.inside.index = c.forget.ensures.forgotten in
    let hashed = rw (← c.self.view_is) at c.requires.hash in
    let placed = rw (← c.self.view_is) at c.requires.place in
    let f = forgets g.met.K.Eq.laws c.args.hash c.args.key.now c.self.invariant hashed (sym (ap found_place c.in-Remembered.is) ∙ placed) c.unlink.ensures.whole c.unlink.ensures.order in
    rw (← c.self.view_is, gone) (record { found = sym f.found; forgotten = f.forgotten; kept = refl; places = f.places; accesses = f.accesses })
