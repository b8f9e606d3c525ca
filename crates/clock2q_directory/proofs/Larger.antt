-- A larger index, and the history with it.
use Rattle.clock2q_directory.proofs.Names.{◌≡◌, ℕ, ◌+◌, ◌-◌, ◌*◌, ◌^◌, ◌<◌, ◌≤◌, Bool, true, false, ◌||◌, ◌==◌, if◌then◌else◌, eqb, ltb, List, [], ◌∷◌, ◌++◌, length, inl, inr, refl, sym, ap, ◌∙◌, subst, arith, append-nil, list_any, AllByRecursion, cases_Bool, eqb-true, ltb-true, ltb-false, nat_eq_equiv, length-map, map-append, filter-append, top, listed, total, capacity, candidates, with_handle, HasSpare, Entry, IndexState, index_state, index_for, first_remembered, is_shared, slots, places, beside, entered, slots_among, places_among, slot_entries, place_entries, slots_in, places_in, IsSorted, IsIndex, place_entered, HasRoomForPlace, HasSizesOf, Keeps, AddsPlaces, AddsSlots, Outgrows, Grows, known, KeyPlaces, IsHistory, remembered_from, places_from, accesses_of, PlaceOrder, IsWholeOrder, used, AllByRecursion-left, IsDistinct-left}
use Rattle.clock2q_directory.proofs.Indexes.{length-put}
use Rattle.clock2q_directory.proofs.Views.{place_of, place_is_past, place_back, listed-view, view-with_list, view-unseen, candidates-slots, candidates-places, candidates-own}
use Rattle.clock2q_directory.proofs.Sorted.{total-parted}
use Rattle.clock2q_directory.proofs.Emptied.{new-none, for-new, emptied-slots, emptied-places}

-- A place put in

places-place_added : (x p : ℕ) (es : List (ℕ × ℕ)) → place_entries (es ++ (top x, first_remembered + p) ∷ []) ≡ place_entries es ++ (top x, p) ∷ []
places-place_added x p es = grind (arith, place_is_past, place_back, filter-append, map-append)

slots-place_added : (x p : ℕ) (es : List (ℕ × ℕ)) → slot_entries (es ++ (top x, first_remembered + p) ∷ []) ≡ slot_entries es
slots-place_added x p es = grind (arith, place_is_past, filter-append, append-nil)

put_places : (homes : List (List (ℕ × ℕ))) (x p : ℕ) → places_in (with_handle homes x (first_remembered + p)) ≡ with_handle (places_in homes) x p
put_places homes x p = grind (arith, view-with_list, places-place_added, listed-view)

-- the slots among the places are unchanged
put_slots : (homes : List (List (ℕ × ℕ))) (x p : ℕ) → slots_in (with_handle homes x (first_remembered + p)) ≡ slots_in homes
put_slots homes x p = view-unseen slot_entries refl homes x (listed homes x ++ (top x, first_remembered + p) ∷ []) (slots-place_added x p (listed homes x))

pub slots-placed : (v : IndexState) (x p : ℕ) → slots (place_entered x p v) ≡ slots v
slots-placed v x p = elim (cases_Bool (is_shared v)) [ inl h ↦ rw h (put_slots v.shared x p) | inr h ↦ rw h refl ]

pub places-placed : (v : IndexState) (x p : ℕ) → places (place_entered x p v) ≡ with_handle (places v) x p
places-placed v x p = grind (arith, put_places, length-put)

sizes-of : (v w : IndexState) → length w.shared ≡ length v.shared → length w.own ≡ length v.own → HasSizesOf v w
sizes-of v w shared own = grind (arith, length-map)

pub sizes-same : (v : IndexState) → HasSizesOf v v
sizes-same v = sizes-of v v refl refl

pub sizes-placed : (v : IndexState) (x p : ℕ) → HasSizesOf v (place_entered x p v)
sizes-placed v x p = elim (cases_Bool (is_shared v)) [
  | inl h ↦ sizes-of v (place_entered x p v) (rw h (length-put v.shared x (first_remembered + p))) (rw h refl)
  | inr h ↦ sizes-of v (place_entered x p v) (rw h refl) (rw h (length-put v.own x p))
]

pub sizes-entered : (v : IndexState) (x s : ℕ) → HasSizesOf v (entered false x s v)
sizes-entered v x s = sizes-of v (entered false x s v) (length-put v.shared x s) refl

pub sizes-chained : {u v w : IndexState} → HasSizesOf u v → HasSizesOf v w → HasSizesOf u w
sizes-chained a b = record { shared = b.shared ∙ a.shared; slots = b.slots ∙ a.slots; places = b.places ∙ a.places }

pub accesses-placed : (v : IndexState) (x p : ℕ) → v.accesses ≤ (place_entered x p v).accesses
accesses-placed v x p = elim (cases_Bool (is_shared v)) [ inl h ↦ rw h (omega arith) | inr h ↦ rw h (omega arith) ]

pub sorted-own : {v : IndexState} (x p : ℕ) → IsSorted v → IsSorted (index_state v.shared (with_handle v.own x p))
sorted-own {v} x p s =
    let same : is_shared (index_state v.shared (with_handle v.own x p)) ≡ is_shared v = ap (λ n. n == 0) (length-put v.own x p) in
    record {
      some = s.some;
      apart = λ h. s.apart (sym same ∙ h);
      takes = λ h. rw (length-put v.own x p) (s.takes (sym same ∙ h));
    }

-- What it relies on

-- one entry more fits in the table of the places
pub spare-shared : (v : IndexState) → IsSorted (index_state v.shared v.own) → is_shared v ≡ true → HasRoomForPlace v → HasSpare v.shared
spare-shared v s h r = grind (arith, total-parted, length-map, r.room, r.few)

pub spare-own : (v : IndexState) → is_shared v ≡ false → HasRoomForPlace v → HasSpare v.own
spare-own v h r = grind (arith, r.room, r.few)

-- What a lookup yields

pub among-slots : (s : ℕ) (hs : List ℕ) → s < first_remembered → list_any (eqb s) hs ≡ list_any (eqb s) (slots_among hs)
among-slots s [] below = refl
among-slots s (h ∷ hs) below = elim (cases_Bool (ltb h first_remembered)) [
  | inl l ↦ rw l (ap (λ b. eqb s h || b) (among-slots s hs below))
  | inr l ↦
      let other : eqb s h ≡ false = grind (arith, ltb-false, eqb-true) in
      rw (l, other) (among-slots s hs below)
]

pub among-places : (p : ℕ) (hs : List ℕ) → list_any (eqb (first_remembered + p)) hs ≡ list_any (eqb p) (places_among hs)
among-places p [] = refl
among-places p (h ∷ hs) = elim (cases_Bool (ltb h first_remembered)) [
  | inl l ↦
      let other : eqb (first_remembered + p) h ≡ false = grind (arith, ltb-true, eqb-true) in
      rw (l, other) (among-places p hs)
  | inr l ↦
      let same : eqb (first_remembered + p) h ≡ eqb p (h - first_remembered) =
      nat_eq_equiv.symm (first_remembered + p) h ∙ place_of h p l ∙ nat_eq_equiv.symm (h - first_remembered) p in
      rw (l, same) (ap (λ b. eqb p (h - first_remembered) || b) (among-places p hs))
]

module _ (v : IndexState) (x : ℕ) (hs : List ℕ) where
  pub slot-listed : (s : ℕ) → s < first_remembered → hs ≡ candidates v.shared x → list_any (eqb s) hs ≡ list_any (eqb s) (candidates (slots v) x)
  slot-listed s below is = ap (λ cs. list_any (eqb s) cs) is ∙ among-slots s (candidates v.shared x) below ∙ ap (λ cs. list_any (eqb s) cs) (sym (candidates-slots v x))

  pub place-listed : (p : ℕ) → is_shared v ≡ true → hs ≡ candidates v.shared x → list_any (eqb (first_remembered + p)) hs ≡ list_any (eqb p) (candidates (places v) x)
  place-listed p shared is =
      ap (λ cs. list_any (eqb (first_remembered + p)) cs) is ∙ among-places p (candidates v.shared x) ∙ ap (λ cs. list_any (eqb p) cs) (sym (candidates-places v x shared))

  pub own-listed : (p : ℕ) → is_shared v ≡ false → hs ≡ candidates v.own x → list_any (eqb p) hs ≡ list_any (eqb p) (candidates (places v) x)
  own-listed p own is = ap (λ cs. list_any (eqb p) cs) (is ∙ sym (candidates-own v x own))

-- An empty index, and what is put into it

pub new-sizes : (s p n : ℕ) {v : IndexState} → v ≡ record (index_for s p) { accesses = n } → HasSizesOf (index_for s p) v
new-sizes s p n is = rw is (record { shared = refl; slots = refl; places = refl })

module _ (s p : ℕ) (least : 0 < s) (slots_few : s < 2 ^ 24) (places_few : p < 2 ^ 24) where
  -- a new index, whatever it was charged
  module _ {K V : Type 0} (keys : List (Entry K V)) {v : IndexState} {n : ℕ} (is : v ≡ record (index_for s p) { accesses = n }) where
    pub new-slots : IsIndex (slots v) keys []
    new-slots =
        let e = new-none s p least slots_few places_few in
        rw is (subst (λ i. IsIndex (slots i) keys []) (sym e.2) (emptied-slots e.0 e.1 keys))

    pub new-places : IsIndex (places v) keys []
    new-places =
        let e = new-none s p least slots_few places_few in
        rw is (subst (λ i. IsIndex (places i) keys []) (sym e.2) (emptied-places e.0 e.1 keys))

  module _ {w : IndexState} (same : HasSizesOf (index_for s p) w) (m : ℕ) where
    -- as many places fit as the index is made for
    pub room-places : m ≤ p → m ≤ capacity (length (places w))
    room-places within =
        let v = index_for s p in
        let f = for-new s p least slots_few places_few in
        let size = ap capacity same.places in
        elim (cases_Bool (is_shared v)) [
          | inl h ↦
              let room = rw h at f.slots in
              let as_many : length (places v) ≡ length (slots v) = rw h (length-map v.shared place_entries ∙ sym (length-map v.shared slot_entries)) in
              omega (arith, room, size, ap capacity as_many)
          | inr h ↦ omega (arith, f.own h, size)
        ]

    -- and as many slots, beside these places
    pub room-slots : m ≤ s → total (places w) ≤ p → (m + beside w ≤ capacity (length (slots w))) × (m + beside w < 2 ^ 24)
    room-slots within few =
        let v = index_for s p in
        let f = for-new s p least slots_few places_few in
        let size = ap capacity same.slots in
        elim (cases_Bool (is_shared v)) [
          | inl h ↦
              let room = rw h at f.slots in
              let short = rw h at f.few in
              let beside_places : beside w ≡ total (places w) = ap (λ b. if b then total (places w) else 0) (same.shared ∙ h) in
              (omega (arith, room, few, size, beside_places), omega (arith, short, few, beside_places))
          | inr h ↦
              let room = rw h at f.slots in
              let short = rw h at f.few in
              let beside_none : beside w ≡ 0 = ap (λ b. if b then total (places w) else 0) (same.shared ∙ h) in
              (omega (arith, room, size, beside_none), omega (arith, short, beside_none))
        ]

-- a new index that got what another has
pub outgrows : (s p n : ℕ) {K V L W : Type 0} {residents : List (Entry K V)} {remembered : List (Entry L W)} {v v0 v1 v2 : IndexState} → v0 ≡ record (index_for s p) { accesses = n + v.accesses }
    → AddsPlaces remembered v v0 v1 → AddsSlots residents v v1 v2 → Outgrows s p residents remembered v v2
outgrows s p n {remembered = remembered} {v = v} is a b =
    let counted = ap (λ (i : IndexState). i.accesses) is in
    record {
      slots_kept = b.kept;
      places_kept = subst (λ z. Keeps remembered (places v) z) (sym b.others) a.kept;
      sizes = sizes-chained (new-sizes s p (n + v.accesses) is) (sizes-chained a.sizes b.sizes);
      accesses = omega (arith, counted, a.accesses, b.accesses);
    }

-- The history

module _ {K : Type 0} {eq : K → K → Bool} {index index' : IndexState} {order order' : PlaceOrder} {keys keys' : KeyPlaces K Unit} {limit : ℕ} (h : IsHistory eq index order keys)
    (whole : IsWholeOrder order') (ordered : order' ≡ record order { limit = limit; accesses = order'.accesses }) (roomy : keys' ≡ record keys { room = keys'.room }) where
  module _ {s : ℕ} (least : 0 < s) (few : s < 2 ^ 24) (short : limit < 2 ^ 24) (room : limit ≤ keys'.room) {V : Type 0} {residents : List (Entry K V)}
      (out : Outgrows s limit residents keys'.entries index index') where
    pub IsHistory-grown : IsHistory eq index' order' keys'
    IsHistory-grown =
        let f = for-new s limit least few short in
        let same : keys'.entries ≡ keys.entries = ap (λ (z : KeyPlaces K Unit). z.entries) roomy in
        let placed : order'.places ≡ order.places = ap (λ (z : PlaceOrder). z.places) ordered in
        let free : order'.free ≡ order.free = ap (λ (z : PlaceOrder). z.free) ordered in
        let limited : order'.limit ≡ limit = ap (λ (z : PlaceOrder). z.limit) ordered in
        let below = subst (λ n. AllByRecursion (λ t. t < n) order.places) (sym h.as_many) (AllByRecursion-left (used order) order.places order.free h.whole.below) in
        let kept : IsIndex (places index') keys.entries order.places =
        (subst (λ z. Keeps z (places index) (places index')) same out.places_kept) order.places (IsDistinct-left order.places order.free h.whole.apart) below h.indexed in
        record {
          whole = whole;
          indexed = rw (same, placed) kept;
          distinct = rw (same, placed) h.distinct;
          as_many = rw (same, placed, free) h.as_many;
          room = rw limited room;
          some = rw (limited, out.sizes.places) f.some;
          own_room = λ apart. rw (limited, out.sizes.places) (f.own (sym out.sizes.shared ∙ apart));
          short = rw limited short;
        }

  -- what callers see of it
  pub grown-view : remembered_from index' order' keys' ≡ record (remembered_from index order keys) {
    limit = limit;
    places = record (places_from index order) { index = index' };
    accesses = accesses_of order' keys';
  }
  grown-view = grind (arith, ordered, roomy)

  pub grows : {V : Type 0} {residents residents' : KeyPlaces K V} {s : ℕ} → residents' ≡ record residents { room = residents'.room } → Outgrows s limit residents'.entries keys'.entries index index'
      → order'.accesses ≡ order.accesses + 2 * used order → Grows s limit (known (remembered_from index order keys) residents) (remembered_from index' order' keys')
  grows {V} {residents} {residents'} same out counted =
      let writes : keys'.writes ≡ keys.writes = ap (λ (z : KeyPlaces K Unit). z.writes) roomy in
      record {
        becomes = grown-view;
        residents = subst (λ (z : List (Entry K V)). Keeps z (slots index) (slots index')) (ap (λ (z : KeyPlaces K V). z.entries) same) out.slots_kept;
        sizes = out.sizes;
        index_accesses = out.accesses;
        places = h.whole.within;
        accesses = omega (arith, writes, counted);
      }
