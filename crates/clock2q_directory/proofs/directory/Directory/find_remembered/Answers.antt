use Rattle.clock2q_directory.proofs.Names.{◌≡◌, refl, ap, sym, ◌∙◌, subst, IsSome, is_shared, slots_among, places_among, KeyPlaces}
use Rattle.clock2q_directory.proofs.Looking.{shared-places, own-places, own-there, searched}
use Rattle.clock2q_directory.proofs.Views.{candidates-places}
use Rattle.clock2q_directory.proofs.directory.Directory.find_remembered.Given.{Over}
use Rattle.clock2q_directory.proofs.directory.Directory.find_remembered.Goals.{After-is_shared}
use Rattle.clock2q_directory.proofs.directory.Directory.find_remembered.Goals as goal

-- whether slots and places share a table is what it was before the charge
shared : (g : Over) (c : After-is_shared g) → c.is_shared.result ≡ is_shared c.self.inside.index
shared g c = c.is_shared.ensures.shared ∙ ap is_shared c.charge_lookup.ensures.looked

pub find_remembered-requires : goal.find_remembered-requires
find_remembered-requires g c =
    let is = sym (shared g (goal.at.find_remembered-requires g c).After-is_shared) ∙ c.if-is_shared.true in
    record { used = rw (c.handles-handles.ensures.handles, c.charge_lookup.ensures.looked) (shared-places c.self.invariant c.args.hash is) }

pub returns-then-is_shared : goal.returns-then-is_shared
returns-then-is_shared g c =
    let hashed = rw (← c.self.view_is) at c.requires.hash in
    let is = sym (shared g (goal.at.returns-then-is_shared g c).After-is_shared) ∙ c.if-is_shared.true in
    let handles = rw c.charge_lookup.ensures.looked at c.handles-handles.ensures.handles in
    let places = ap places_among handles ∙ sym (candidates-places c.self.inside.index c.args.hash is) in
    let compared = ap (λ (z : KeyPlaces _ _). z.comparisons) c.find_remembered.ensures.counted in
    let r = searched g.met.K.Eq.laws c.args.hash c.args.key.now c.self.invariant hashed places c.find_remembered.ensures.found compared in
    rw (← c.self.view_is) (record { place = r.0; kept = rw (c.find_remembered.ensures.counted, c.charge_lookup.ensures.looked) refl; residents = refl; comparisons = r.1 })

pub find-requires : goal.find-requires
find-requires g c =
    let is = sym (shared g (goal.at.find-requires g c).After-is_shared) ∙ c.if-is_shared.false in
    record {
      walking = subst IsSome (sym c.own_places.ensures.end) refl;
      used = rw (c.own_places.ensures.places, c.charge_lookup.ensures.looked) (own-there c.self.invariant c.args.hash is);
    }

pub returns : goal.returns
returns g c =
    let hashed = rw (← c.self.view_is) at c.requires.hash in
    let is = sym (shared g (goal.at.returns g c).After-is_shared) ∙ c.if-is_shared.false in
    let own = rw c.charge_lookup.ensures.looked at c.own_places.ensures.places in
    let places = ap slots_among own ∙ own-places c.self.invariant c.args.hash is in
    let compared = ap (λ (z : KeyPlaces _ _). z.comparisons) c.find.ensures.counted in
    let r = searched g.met.K.Eq.laws c.args.hash c.args.key.now c.self.invariant hashed places c.find.ensures.found compared in
    rw (← c.self.view_is) (record {
      place = r.0;
      kept = rw (c.find.ensures.counted, c.charge_lookup.ensures.looked) refl;
      residents = refl;
      comparisons = r.1;
    })
