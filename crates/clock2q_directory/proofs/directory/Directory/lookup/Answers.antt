use Rattle.clock2q_directory.proofs.Names.{◌≡◌, ◌≤◌, ℕ, Bool, true, false, Option, Some, None, [], length, map, inl, inr, refl, ap, sym, ◌∙◌, subst, arith, IfSome, IsSome, find, cases_Bool, candidates, GapValue, Rises, Found, IsGapFor, is_shared, slots, places, slots_among, places_among, KeyPlaces, is_key_at, entries_of, place_of, found_slot, found_place, found_gap}
use Rattle.clock2q_directory.proofs.Looking.{IsFirst, end-found, first-known, further-gap, no-place-found, own-places, own-there, searched, shared-places, slots-read, some-not}
use Rattle.clock2q_directory.proofs.Lookups.{comparisons-within}
use Rattle.clock2q_directory.proofs.Forgetting.{placed}
use Rattle.clock2q_directory.proofs.Views.{candidates-places}
use Rattle.clock2q_directory.proofs.directory.Directory.lookup.Given.{Over}
use Rattle.clock2q_directory.proofs.directory.Directory.lookup.Goals.{After-look_among-found, After-find, in-Some, in-None}
use Rattle.clock2q_directory.proofs.directory.Directory.lookup.Goals as goal

module _ (g : Over) (c : After-look_among-found g) where
  abbrev found : Found
  found = c.look_among-found.result

  abbrev resident : ℕ → Bool
  resident = is_key_at g.K.PartialEq.eq c.args.key.now c.self.inside.residents.entries

  abbrev remembered : ℕ → Bool
  remembered = is_key_at g.K.PartialEq.eq c.args.key.now c.self.inside.history.keys.entries

  first : IsFirst resident remembered c.handles.result.end c.handles.result.left found
  first = rw c.look_among-found.ensures.found (first-known _ _ _ c.handles.result.left)

  slots-left : slots_among c.handles.result.left ≡ candidates (slots c.self.inside.index) c.args.hash
  slots-left = slots-read c.self.inside.index c.args.hash (rw c.charge_lookup.ensures.looked at c.handles.ensures.handles)

  -- if the places have a table of their own, none was read
  none-left : is_shared c.self.inside.index ≡ false → places_among c.handles.result.left ≡ []
  none-left apart = c.handles.ensures.apart (ap is_shared c.charge_lookup.ensures.looked ∙ apart)

  places-left : is_shared c.self.inside.index ≡ true → places_among c.handles.result.left ≡ candidates (places c.self.inside.index) c.args.hash
  places-left shared = ap places_among (rw c.charge_lookup.ensures.looked at c.handles.ensures.handles) ∙ sym (candidates-places c.self.inside.index c.args.hash shared)

  -- the place of the key, among the remembered ones
  known-place : is_shared c.self.inside.index ≡ true → found_slot found ≡ None
      → found_place found ≡ place_of (g.K.PartialEq.eq c.args.key.now) (map (λ e. e.1) (entries_of c.self.inside.history.keys.entries c.self.inside.history.order.places))
      c.self.inside.history.order.places
  known-place shared none =
      first.place none ∙ ap (λ z. find remembered z) (places-left shared)
      ∙ sym (placed g.met.K.Eq.laws c.args.hash c.args.key.now c.self.invariant (rw (← c.self.view_is) at c.requires.hash))

  known-slot : IfSome (found_slot found) (λ slot. find resident (candidates (slots c.self.inside.index) c.args.hash) ≡ Some slot)
  known-slot = rw (← slots-left) first.slot

  places-most : length (places_among c.handles.result.left) ≤ length (candidates (places c.self.inside.index) c.args.hash)
  places-most = elim (cases_Bool (is_shared c.self.inside.index)) [
    | inl shared ↦ omega (arith, ap length (places-left shared))
    | inr apart ↦ omega (arith, ap length (none-left apart))
  ]

  known-absent : found_slot found ≡ None → found_place found ≡ None → find resident (candidates (slots c.self.inside.index) c.args.hash) ≡ None
  known-absent none nowhere = ap (λ z. find resident z) (sym slots-left) ∙ first.absent none nowhere

  known-gap : IsGapFor (found_gap found) c.args.hash c.self.inside.index
  known-gap = end-found found (rw c.charge_lookup.ensures.looked at c.handles.ensures.end) first.ended

  known-ended : found_slot found ≡ None → found_place found ≡ None → IsSome (found_gap found)
  known-ended none nowhere = subst IsSome (sym (first.ended none nowhere ∙ c.handles.ensures.end)) refl

  known-compared : Rises 0 (length (candidates (slots c.self.inside.index) c.args.hash)) c.self.inside.residents.comparisons c.look_among-found.new.residents.comparisons
  known-compared = (c.look_among-found.ensures.compared.0, omega (arith, c.look_among-found.ensures.compared.1, ap length slots-left))

  known-comparisons : Rises 0 (length (candidates (places c.self.inside.index) c.args.hash)) c.self.inside.history.keys.comparisons c.look_among-found.new.remembered.comparisons
  known-comparisons = (c.look_among-found.ensures.comparisons.0, omega (arith, c.look_among-found.ensures.comparisons.1, places-most))

pub look_among-found-requires-clause-slots : goal.look_among-found-requires-clause-slots
look_among-found-requires-clause-slots g c =
    let handles = rw c.charge_lookup.ensures.looked at c.handles.ensures.handles in
    rw (slots-read c.self.inside.index c.args.hash handles) (rw (← c.self.view_is) at c.requires.made)

pub look_among-found-requires-clause-places : goal.look_among-found-requires-clause-places
look_among-found-requires-clause-places g c =
    elim (cases_Bool (is_shared c.self.inside.index)) [
      | inl shared ↦ rw (c.handles.ensures.handles, c.charge_lookup.ensures.looked) (shared-places c.self.invariant c.args.hash shared)
      | inr apart ↦ rw (c.handles.ensures.apart (ap is_shared c.charge_lookup.ensures.looked ∙ apart)) tt
    ]

pub returns-in_default-clause-place : goal.returns-in_default-clause-place
returns-in_default-clause-place g c _ =
    let at = (goal.at.returns-in_default-clause-place g c).After-look_among-found in
    let shared = sym (ap is_shared c.charge_lookup.ensures.looked) ∙ sym c.is_shared.ensures.shared ∙ c.if-not-is_shared.false in
    rw (← c.self.view_is) (sym (ap found_place c.in-Absent.is) ∙ known-place g at shared (ap found_slot c.in-Absent.is))

pub returns-in_default-clause-absent : goal.returns-in_default-clause-absent
returns-in_default-clause-absent g c _ _ =
    let at = (goal.at.returns-in_default-clause-absent g c).After-look_among-found in
    rw (← c.self.view_is) (known-absent g at (ap found_slot c.in-Absent.is) (ap found_place c.in-Absent.is))

pub returns-in_default-clause-gap : goal.returns-in_default-clause-gap
returns-in_default-clause-gap g c =
    let at = (goal.at.returns-in_default-clause-gap g c).After-look_among-found in
    rw (← c.self.view_is) (rw c.in-Absent.is at (known-gap g at))

pub returns-in_default-clause-ended : goal.returns-in_default-clause-ended
returns-in_default-clause-ended g c _ _ =
    let at = (goal.at.returns-in_default-clause-ended g c).After-look_among-found in
    rw c.in-Absent.is at (known-ended g at (ap found_slot c.in-Absent.is) (ap found_place c.in-Absent.is))

pub returns-in_default-clause-compared : goal.returns-in_default-clause-compared
returns-in_default-clause-compared g c =
    let at = (goal.at.returns-in_default-clause-compared g c).After-look_among-found in
    rw (← c.self.view_is) (known-compared g at)

pub returns-in_default-clause-comparisons : goal.returns-in_default-clause-comparisons
returns-in_default-clause-comparisons g c =
    let at = (goal.at.returns-in_default-clause-comparisons g c).After-look_among-found in
    rw (← c.self.view_is) (known-comparisons g at)

pub returns-in_default-2-clause-slot : goal.returns-in_default-2-clause-slot
returns-in_default-2-clause-slot g c =
    let at = (goal.at.returns-in_default-2-clause-slot g c).After-look_among-found in
    rw (← c.self.view_is) (known-slot g at)

pub returns-in_default-2-clause-place : goal.returns-in_default-2-clause-place
returns-in_default-2-clause-place g c none =
    let at = (goal.at.returns-in_default-2-clause-place g c).After-look_among-found in
    let not : (o : Option GapValue) → c.look_among-found.result ≡ Found.Absent o → ⊥ = λ o e. absurd (grind arith) in
    rw (← c.self.view_is) (elim (cases_Bool (is_shared c.self.inside.index)) [
      | inl shared ↦ known-place g at shared none
      | inr apart ↦ absurd (no-place-found c.look_among-found.result (first g at) (none-left g at apart) not none)
    ])

pub returns-in_default-2-clause-absent : goal.returns-in_default-2-clause-absent
returns-in_default-2-clause-absent g c none nowhere =
    let at = (goal.at.returns-in_default-2-clause-absent g c).After-look_among-found in
    rw (← c.self.view_is) (known-absent g at none nowhere)

pub returns-in_default-2-clause-gap : goal.returns-in_default-2-clause-gap
returns-in_default-2-clause-gap g c =
    let at = (goal.at.returns-in_default-2-clause-gap g c).After-look_among-found in
    rw (← c.self.view_is) (known-gap g at)

pub returns-in_default-2-clause-ended : goal.returns-in_default-2-clause-ended
returns-in_default-2-clause-ended g c none nowhere =
    let at = (goal.at.returns-in_default-2-clause-ended g c).After-look_among-found in
    known-ended g at none nowhere

pub returns-in_default-2-clause-compared : goal.returns-in_default-2-clause-compared
returns-in_default-2-clause-compared g c =
    let at = (goal.at.returns-in_default-2-clause-compared g c).After-look_among-found in
    rw (← c.self.view_is) (known-compared g at)

pub returns-in_default-2-clause-comparisons : goal.returns-in_default-2-clause-comparisons
returns-in_default-2-clause-comparisons g c =
    let at = (goal.at.returns-in_default-2-clause-comparisons g c).After-look_among-found in
    rw (← c.self.view_is) (known-comparisons g at)

-- A search of the places' own table

apart : (g : Over) (c : After-find g) → is_shared c.self.inside.index ≡ false
apart g c = sym (ap is_shared c.charge_lookup.ensures.looked) ∙ sym c.is_shared.ensures.shared ∙ c.if-not-is_shared.true

among : (g : Over) (c : After-find g) → slots_among c.own_places.result.left ≡ candidates (places c.self.inside.index) c.args.hash
among g c = ap slots_among (rw c.charge_lookup.ensures.looked at c.own_places.ensures.places) ∙ own-places c.self.invariant c.args.hash (apart g c)

pub find-requires : goal.find-requires
find-requires g c =
    let own = sym (ap is_shared c.charge_lookup.ensures.looked) ∙ sym c.is_shared.ensures.shared ∙ c.if-not-is_shared.true in
    record {
      walking = subst IsSome (sym c.own_places.ensures.end) refl;
      used = rw (c.look_among-found.ensures.remembered, c.own_places.ensures.places, c.charge_lookup.ensures.looked) (own-there c.self.invariant c.args.hash own);
    }

pub returns-after-find-clause-place : goal.returns-after-find-clause-place
returns-after-find-clause-place g c _ =
    let at = (goal.at.returns-after-find-clause-place g c).After-find in
    let hashed = rw (← c.self.view_is) at c.requires.hash in
    let is = rw c.look_among-found.ensures.remembered at c.find.ensures.found in
    let r = searched g.met.K.Eq.laws c.args.hash c.args.key.now c.self.invariant hashed (among g at) is refl in
    let found : found_place c.match-find.result ≡ c.find.result = elim c.match-find.branch [
      | in-Some w ↦ ap found_place w.result-is ∙ sym w.in-Some.is
      | in-None w ↦ ap found_place w.result-is ∙ sym w.in-None.is
    ] in
    rw (← c.self.view_is) (found ∙ r.0)

pub returns-after-find-clause-absent : goal.returns-after-find-clause-absent
returns-after-find-clause-absent g c _ _ =
    let at = (goal.at.returns-after-find-clause-absent g c).After-look_among-found in
    rw (← c.self.view_is) (known-absent g at (ap found_slot c.in-Absent.is) (ap found_place c.in-Absent.is))

pub returns-after-find-clause-gap : goal.returns-after-find-clause-gap
returns-after-find-clause-gap g c =
    let at = (goal.at.returns-after-find-clause-gap g c).After-look_among-found in
    let gap : found_place c.match-find.result ≡ None → found_gap c.match-find.result ≡ c.in-Absent.gap = λ nowhere. elim c.match-find.branch [
      | in-Some w ↦ absurd (some-not (sym (ap found_place w.result-is) ∙ nowhere))
      | in-None w ↦ ap found_gap w.result-is
    ] in
    rw (← c.self.view_is) (further-gap c.args.hash c.self.inside.index c.in-Absent.gap c.match-find.result (rw c.in-Absent.is at (known-gap g at)) gap)

pub returns-after-find-clause-ended : goal.returns-after-find-clause-ended
returns-after-find-clause-ended g c _ nowhere =
    let at = (goal.at.returns-after-find-clause-ended g c).After-look_among-found in
    let ended = known-ended g at (ap found_slot c.in-Absent.is) (ap found_place c.in-Absent.is) in
    let gap : found_gap c.match-find.result ≡ c.in-Absent.gap = elim c.match-find.branch [
      | in-Some w ↦ absurd (some-not (sym (ap found_place w.result-is) ∙ nowhere))
      | in-None w ↦ ap found_gap w.result-is
    ] in
    rw gap (rw c.in-Absent.is at ended)

pub returns-after-find-clause-compared : goal.returns-after-find-clause-compared
returns-after-find-clause-compared g c =
    let at = (goal.at.returns-after-find-clause-compared g c).After-look_among-found in
    rw (← c.self.view_is) (known-compared g at)

pub returns-after-find-clause-comparisons : goal.returns-after-find-clause-comparisons
returns-after-find-clause-comparisons g c =
    let at = goal.at.returns-after-find-clause-comparisons g c in
    let counted = ap (λ (z : KeyPlaces _ _). z.comparisons) c.find.ensures.counted in
    let most = comparisons-within (is_key_at g.K.PartialEq.eq c.args.key.now c.look_among-found.new.remembered.entries) _ (among g at.After-find) refl in
    let none = ap length (none-left g at.After-look_among-found (apart g at.After-find)) in
    let looked = c.look_among-found.ensures.comparisons in
    rw (← c.self.view_is) (omega (arith, counted, looked.0), omega (arith, counted, most, none, looked.1))
