-- A key forgotten by the history.
use Rattle.clock2q_directory.proofs.Names.{◌≡◌, ℕ, ◌+◌, ◌^◌, ◌<◌, ◌≤◌, Bool, true, false, eqb, Option, Some, None, slice_get, List, [], ◌∷◌, map, length, inl, inr, refl, sym, ap, ◌∙◌, subst, arith, cons_option, find, list_any, AllByRecursion, IsDistinct, IsEquivalence, both_ways, cases_Bool, eqb-true, candidates, IndexState, forgotten_at, Entry, without, PlaceOrder, IsWholeOrder, used, KeyPlaces, hash_at, hashed_at, entries_of, is_key_at, IsIndex, HasHash, has_key, Found, Remembered, IsHistory, forgotten, remembered_from, accesses_of, places_with, places_from, place_of, found_place, freed_place, Rises, among_first, among_later, below_of, IsDistinct-left, AllByRecursion-left, distinct_none, distinct_first, distinct_rest, distinct_more, length-without, or_parts, or_neither}
use Rattle.clock2q_directory.specs.Index as known
use Rattle.clock2q_directory.proofs.Entries.{key_there, any_entry, same_place, hashed_there, entries-cons}
use Rattle.clock2q_directory.proofs.Histories.{shown-as}
use Rattle.clock2q_directory.proofs.Indexes.{IsIndex-removed, named-own}
use Rattle.clock2q_directory.proofs.Views.{places-forgotten, forgotten-like}
use Rattle.clock2q_directory.proofs.Lookups.{found_there, not_found, lookup, hash_there}

-- a lookup that found no remembered key found no place
pub no_place : (f : Found) → ((place : ℕ) → f ≡ Found.Remembered place → ⊥) → found_place f ≡ None
no_place (Found.Resident slot) not = refl
no_place (Found.Remembered place) not = absurd (not place refl)
no_place (Found.Absent gap) not = refl

module _ {K : Type 0} (eq : K → K → Bool) where
  -- whether an entry, if there is one, has this key
  abbrev pub is_of : K → Option (ℕ × K) → Bool
  is_of key o = elim o [ None ↦ false | Some e ↦ eq key e.1 ]

  pub is_of-at : {V : Type 0} (key : K) (keys : List (Entry K V)) (p : ℕ) → is_of key (hashed_at keys p) ≡ is_key_at eq key keys p
  is_of-at key keys p = of (slice_get keys p)
    where
      of : {V : Type 0} (o : Option (Entry K V)) → is_of key (elim o [ None ↦ None | Some e ↦ Some (e.hash, e.key) ]) ≡ elim o [ None ↦ false | Some e ↦ eq key e.key ]
      of None = refl
      of (Some e) = refl

  forgotten_kept : (key : K) (o : Option (ℕ × K)) (es : List (ℕ × K)) → is_of key o ≡ false → forgotten eq key (cons_option o es) ≡ cons_option o (forgotten eq key es)
  forgotten_kept key None es h = refl
  forgotten_kept key (Some e) es h = rw h refl

  forgotten_gone : (key : K) (o : Option (ℕ × K)) (es : List (ℕ × K)) → is_of key o ≡ true → forgotten eq key (cons_option o es) ≡ forgotten eq key es
  forgotten_gone key None es h = absurd (both_ways false refl h)
  forgotten_gone key (Some e) es h = rw h refl

  any_none : (key : K) (o : Option (ℕ × K)) (es : List (ℕ × K)) → is_of key o ≡ false → has_key eq key es ≡ false → has_key eq key (cons_option o es) ≡ false
  any_none key None es h r = r
  any_none key (Some e) es h r = or_neither (eq key e.1) (has_key eq key es) h r

  key_absent-forgotten : (x key : K) (es : List (ℕ × K)) → has_key eq x es ≡ false → has_key eq x (forgotten eq key es) ≡ false
  key_absent-forgotten x key [] h = refl
  key_absent-forgotten x key (e ∷ es) h =
      let p = or_parts (eq x e.1) (has_key eq x es) h in
      elim (cases_Bool (eq key e.1)) [
        | inl k ↦ rw k (key_absent-forgotten x key es p.1)
        | inr k ↦ rw k (or_neither (eq x e.1) (has_key eq x (forgotten eq key es)) p.0 (key_absent-forgotten x key es p.1))
      ]

  distinct-forgotten : (key : K) (es : List (ℕ × K)) → IsDistinct (λ d e. eq d.1 e.1) es → IsDistinct (λ d e. eq d.1 e.1) (forgotten eq key es)
  distinct-forgotten key [] d = distinct_none (λ d e. eq d.1 e.1)
  distinct-forgotten key (e ∷ es) d =
      let by_key : ℕ × K → ℕ × K → Bool = λ d e. eq d.1 e.1 in
      elim (cases_Bool (eq key e.1)) [
        | inl k ↦ rw k (distinct-forgotten key es (distinct_rest by_key e es d))
        | inr k ↦
            rw k (distinct_more by_key e (forgotten eq key es) (key_absent-forgotten e.1 key es (distinct_first by_key e es d))
            (distinct-forgotten key es (distinct_rest by_key e es d)))
      ]

module _ {K V : Type 0} (eq : K → K → Bool) where
  -- the one place that has the key is removed
  forgets_one : (key : K) (keys : List (Entry K V)) (p : ℕ) (ps : List ℕ) → is_key_at eq key keys p ≡ true → ((t : ℕ) → list_any (eqb t) ps ≡ true → eqb t p ≡ false → is_key_at eq key keys t ≡ false)
      → entries_of keys (without p ps) ≡ forgotten eq key (entries_of keys ps)
  forgets_one key keys p [] k h = refl
  forgets_one key keys p (q ∷ ps) k h = grind (arith, forgets_one key keys p ps k, among_later, forgotten_gone, is_of-at, eqb-true, forgotten_kept, among_first)

  -- no place has the key
  forgets_none : (key : K) (keys : List (Entry K V)) (ps : List ℕ) → ((t : ℕ) → list_any (eqb t) ps ≡ true → is_key_at eq key keys t ≡ false)
      → (has_key eq key (entries_of keys ps) ≡ false) × (forgotten eq key (entries_of keys ps) ≡ entries_of keys ps)
  forgets_none key keys [] h = (refl, refl)
  forgets_none key keys (p ∷ ps) h = grind (arith, forgets_none key keys ps, among_later, is_of-at, among_first, any_none, forgotten_kept)

  -- the place beside a key is the first that has it
  place_beside : (key : K) (keys : List (Entry K V)) (n : ℕ) (ps : List ℕ) → n ≤ length keys → AllByRecursion (λ s. s < n) ps
      → place_of (eq key) (map (λ (e : ℕ × K). e.1) (entries_of keys ps)) ps ≡ find (is_key_at eq key keys) ps
  place_beside key keys n [] h b = refl
  place_beside key keys n (p ∷ ps) h b =
      let e = hashed_there keys p (omega (arith, b.0)) in
      let same : is_key_at eq key keys p ≡ eq key e.0.1 = sym (is_of-at eq key keys p) ∙ ap (λ z. is_of eq key z) e.1 in
      let rest = place_beside key keys n ps h b.1 in
      ap (λ (z : List (ℕ × K)). place_of (eq key) (map (λ (e : ℕ × K). e.1) z) (p ∷ ps)) (entries-cons keys p e.0 ps e.1)
      ∙ elim (cases_Bool (eq key e.0.1)) [
        | inl k ↦ rw (same, k) refl
        | inr k ↦ rw (same, k) rest
      ]

  -- a key that this history had was forgotten
  pub record Forgets (hash : ℕ) (key : K) (old : Remembered K) (index : IndexState) (order : PlaceOrder) (keys : KeyPlaces K V) : Type 0 where
    pub whole : IsHistory eq index order keys
    pub found : has_key eq key old.entries ≡ true
    pub forgotten : remembered_from index order keys ≡ record old { entries = forgotten eq key old.entries; places = places_from index order; accesses = accesses_of order keys }
    pub accesses : Rises 0 7 old.accesses (accesses_of order keys)
    pub places : places_from index order ≡ freed_place hash (place_of (eq key) (map (λ (e : ℕ × K). e.1) old.entries) old.places.taken) old.places

module _ {K V : Type 0} {eq : K → K → Bool} (laws : IsEquivalence eq) (hash : ℕ) (key : K) {index : IndexState} {order : PlaceOrder} {keys : KeyPlaces K V} (h : IsHistory eq index order keys)
    (hashed : HasHash eq hash key (entries_of keys.entries order.places)) where
  -- the place that the view has, and the one that a search finds
  abbrev pub place_shown : Option ℕ
  place_shown = place_of (eq key) (map (λ (e : ℕ × K). e.1) (entries_of keys.entries order.places)) order.places

  beside : place_shown ≡ find (is_key_at eq key keys.entries) order.places
  beside = place_beside eq key keys.entries (used order) order.places (omega (arith, h.as_many)) (AllByRecursion-left (used order) order.places order.free h.whole.below)

  pub placed : place_shown ≡ find (is_key_at eq key keys.entries) (candidates (known.places index) hash)
  placed = beside ∙ sym (lookup eq hash key (known.places index) keys.entries order.places h.indexed hashed laws h.distinct)

  -- a key that has no place isn't remembered
  pub missed : None ≡ place_shown → (has_key eq key (entries_of keys.entries order.places) ≡ false) × (forgotten eq key (entries_of keys.entries order.places) ≡ entries_of keys.entries order.places)
  missed none = forgets_none eq key keys.entries order.places (not_found (is_key_at eq key keys.entries) order.places (none ∙ beside))

  module _ {place : ℕ} (found : Some place ≡ place_shown) where
    there : (list_any (eqb place) order.places ≡ true) × (is_key_at eq key keys.entries place ≡ true)
    there = found_there (is_key_at eq key keys.entries) order.places place (found ∙ beside)

    pub place_there : list_any (eqb place) order.places ≡ true
    place_there = there.0

    pub place_short : place < 2 ^ 24
    place_short = omega (arith, below_of (used order) order.places (AllByRecursion-left (used order) order.places order.free h.whole.below) place there.0, h.whole.within, h.short)

    hash_there_now : hash_at keys.entries place ≡ Some hash
    hash_there_now = hash_there eq hash key (known.places index) keys.entries order.places h.indexed hashed place there.0 there.1

    pub place_held : list_any (eqb place) (candidates (known.places index) hash) ≡ true
    place_held = h.indexed.listed hash place ∙ rw (there.0, named-own (known.places index) keys.entries hash place hash_there_now) refl

    others_differ : (t : ℕ) → list_any (eqb t) order.places ≡ true → eqb t place ≡ false → is_key_at eq key keys.entries t ≡ false
    others_differ t g d = grind (arith, same_place, there)

    pub forgets : {order' : PlaceOrder} → IsWholeOrder order' → order' ≡ record order { places = without place order.places; free = place ∷ order.free; accesses = order.accesses + 7 }
        → Forgets eq hash key (remembered_from index order keys) (forgotten_at hash place index) order' keys
    forgets {order'} w ordered =
        let apart = IsDistinct-left order.places order.free h.whole.apart in
        let taken = IsIndex-removed (known.places index) keys.entries order.places place hash h.indexed apart hash_there_now in
        let places = ap (λ (z : PlaceOrder). z.places) ordered in
        let limit = ap (λ (z : PlaceOrder). z.limit) ordered in
        let spent = ap (λ (z : PlaceOrder). z.accesses) ordered in
        let entries : entries_of keys.entries order'.places ≡ forgotten eq key (entries_of keys.entries order.places) =
        ap (λ z. entries_of keys.entries z) places ∙ forgets_one eq key keys.entries place order.places there.1 others_differ in
        let e = key_there eq key keys.entries place there.1 in
        let like = forgotten-like index hash place in
        let count : used order' ≡ used order =
        omega (arith, ap (λ (z : PlaceOrder). length z.places) ordered, ap (λ (z : PlaceOrder). length z.free) ordered, length-without place order.places apart there.0) in
        record {
          whole = record {
            whole = w;
            indexed =
                subst (λ z. IsIndex (known.places (forgotten_at hash place index)) keys.entries z) (sym places)
                (subst (λ z. IsIndex z keys.entries (without place order.places)) (sym (places-forgotten index hash place)) taken);
            distinct = subst (λ z. IsDistinct (λ d e. eq d.1 e.1) z) (sym entries) (distinct-forgotten eq key (entries_of keys.entries order.places) h.distinct);
            as_many = h.as_many ∙ sym count;
            room = rw limit h.room;
            some = rw (limit, like.places) h.some;
            own_room = λ own. rw (limit, like.places) (h.own_room (sym like.shared ∙ own));
            short = rw limit h.short;
          };
          found = any_entry eq key keys.entries order.places place e.0 there.0 e.1 e.2;
          forgotten = shown-as _ _ entries limit refl;
          accesses = (omega (arith, spent), omega (arith, spent));
          places = ap (λ z. places_with (forgotten_at hash place index) z order'.free) places
              ∙ ap (λ z. places_with (forgotten_at hash place index) (without place order.places) z) (ap (λ (z : PlaceOrder). z.free) ordered)
              ∙ ap (λ z. freed_place hash z (places_from index order)) found;
        }
