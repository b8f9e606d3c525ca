-- A key put at the front of the history.
use Rattle.clock2q_directory.proofs.Names.{◌≡◌, ℕ, zero, suc, ◌+◌, ◌-◌, ◌<◌, ◌≤◌, Bool, true, false, eqb, ltb, Option, Some, None, slice_get, List, [], ◌∷◌, length, take, inl, inr, refl, sym, ap, ◌∙◌, subst, arith, if◌then◌else◌, last_or, list_any, IsDistinct, cases_Bool, eq-eqb, le-ltb, without_handle, IndexState, first_remembered, left, remembered_at, forgotten_at, HasPlaceRoom, HasSlotUnder, Entry, PlaceOrder, IsWholeOrder, used, place_for, KeyPlaces, entry, written, hash_at, hashed_at, entries_of, IsIndex, has_key, Places, Remembered, IsHistory, MakesPlace, MayRetire, remembered_from, accesses_of, places_from, pushed_places, freed_place, oldest_hash, taking_free, taking_oldest, Rises, differs, AllByRecursion-left, distinct_none, distinct_first, distinct_rest, distinct_more, or_parts}
use Rattle.clock2q_directory.specs.Index as known
use Rattle.clock2q_directory.proofs.Entries.{slice_get-written, slice_get-written_other, length-written, entries-agree, entries-cons, entries-take}
use Rattle.clock2q_directory.proofs.Histories.{shown-as}
use Rattle.clock2q_directory.proofs.Views.{IsIndex-remembered, remembered-like, forgotten-like, slots-remembered, slots-left, slots-forgotten}

module _ {K : Type 0} (eq : K → K → Bool) where
  key_absent-take : (key : K) (k : ℕ) (es : List (ℕ × K)) → has_key eq key es ≡ false → has_key eq key (take k es) ≡ false
  key_absent-take key zero es h = refl
  key_absent-take key (suc k) [] h = refl
  key_absent-take key (suc k) (e ∷ es) h =
      let p = or_parts (eq key e.1) (has_key eq key es) h in
      rw p.0 (key_absent-take key k es p.1)

  distinct-take : (k : ℕ) (es : List (ℕ × K)) → IsDistinct (λ d e. eq d.1 e.1) es → IsDistinct (λ d e. eq d.1 e.1) (take k es)
  distinct-take zero es d = distinct_none (λ d e. eq d.1 e.1)
  distinct-take (suc k) [] d = distinct_none (λ d e. eq d.1 e.1)
  distinct-take (suc k) (e ∷ es) d =
      let by_key : ℕ × K → ℕ × K → Bool = λ d e. eq d.1 e.1 in
      distinct_more by_key e (take k es) (key_absent-take e.1 k es (distinct_first by_key e es d)) (distinct-take k es (distinct_rest by_key e es d))

no-place : (ps : List ℕ) → length ps ≡ 0 → ps ≡ []
no-place [] e = refl
no-place (p ∷ ps) e = absurd (omega arith)

-- if the limit is zero, the resident only leaves
pub pushed-nowhere : {K V : Type 0} {eq : K → K → Bool} {index : IndexState} {order : PlaceOrder} {keys : KeyPlaces K V} (hash slot oldest : ℕ) → IsHistory eq index order keys → order.limit ≡ 0
    → pushed_places order.limit hash slot oldest (places_from index order) ≡ places_from (left hash slot index) order
pushed-nowhere {index = index} {order} hash slot oldest h none =
    let p = places_from index order in
    let within : length order.places ≤ 0 = omega (arith, h.whole.within, none) in
    ap (λ b. if b then taking_free hash slot p else taking_oldest hash slot oldest (last_or None order.places) p) (le-ltb (length order.places) order.limit (omega (arith, none)))
    ∙ ap (λ z. taking_oldest hash slot oldest (last_or None z) p) (no-place order.places (omega (arith, within)))

-- and its key is not remembered
pub none-kept : {K V : Type 0} {eq : K → K → Bool} {index : IndexState} {order : PlaceOrder} {keys : KeyPlaces K V} (e : ℕ × K) → IsHistory eq index order keys → order.limit ≡ 0
    → entries_of keys.entries order.places ≡ take order.limit (e ∷ entries_of keys.entries order.places)
none-kept {order = order} {keys} e h none = grind (arith, no-place)

-- the slots after a key leaves
module _ (limit hash slot oldest : ℕ) (p : Places) (below : slot < first_remembered) where
  pub slots-pushed : known.slots (pushed_places limit hash slot oldest p).index ≡ without_handle eqb (known.slots p.index) hash slot
  slots-pushed = elim (cases_Bool (ltb (length p.taken) limit)) [
    | inl e ↦ rw e (slots-remembered p.index hash slot (place_for (length p.taken) p.free) below)
    | inr e ↦ rw e (of (last_or None p.taken))
  ]
    where
      of : (o : Option ℕ) → known.slots (taking_oldest hash slot oldest o p).index ≡ without_handle eqb (known.slots p.index) hash slot
      of None = slots-left p.index hash slot below
      of (Some place) = slots-remembered (forgotten_at oldest place p.index) hash slot place below ∙ ap (λ z. without_handle eqb z hash slot) (slots-forgotten p.index oldest place)

  pub shared-pushed : known.is_shared (pushed_places limit hash slot oldest p).index ≡ known.is_shared p.index
  shared-pushed = elim (cases_Bool (ltb (length p.taken) limit)) [
    | inl e ↦ rw e (remembered-like p.index hash slot (place_for (length p.taken) p.free)).shared
    | inr e ↦ rw e (of (last_or None p.taken))
  ]
    where
      of : (o : Option ℕ) → known.is_shared (taking_oldest hash slot oldest o p).index ≡ known.is_shared p.index
      of None = refl
      of (Some place) = (remembered-like (forgotten_at oldest place p.index) hash slot place).shared ∙ (forgotten-like p.index oldest place).shared

-- forgetting a key doesn't change the slots
pub slots-freed : (hash : ℕ) (o : Option ℕ) (p : Places) → known.slots (freed_place hash o p).index ≡ known.slots p.index
slots-freed hash None p = refl
slots-freed hash (Some place) p = slots-forgotten p.index hash place

pub shared-freed : (hash : ℕ) (o : Option ℕ) (p : Places) → known.is_shared (freed_place hash o p).index ≡ known.is_shared p.index
shared-freed hash None p = refl
shared-freed hash (Some place) p = (forgotten-like p.index hash place).shared

-- a key was put at the front of this history
pub record Remembers {K : Type 0} (eq : K → K → Bool) (hash slot : ℕ) (key : K) (old : Remembered K) (index : IndexState) (order : PlaceOrder) (keys : KeyPlaces K Unit) : Type 0 where
  pub whole : IsHistory eq index order keys
  pub pushed : remembered_from index order keys
      ≡ record old { entries = take old.limit ((hash, key) ∷ old.entries); places = places_from index order; accesses = accesses_of order keys }
  pub accesses : Rises 0 8 old.accesses (accesses_of order keys)
  pub places : places_from index order ≡ pushed_places old.limit hash slot (oldest_hash (λ (e : ℕ × K). e.0) old.entries) old.places

module _ {K : Type 0} {eq : K → K → Bool} {index index1 : IndexState} {order order' : PlaceOrder} {keys : KeyPlaces K Unit} {place : ℕ}
    (h : IsHistory eq index order keys) (m : MakesPlace index index1 order order' keys.entries place) where
  abbrev pub fewer : List ℕ
  fewer = take (order.limit - 1) order.places

  -- the slot is still there
  pub still_held : {hash slot : ℕ} → HasSlotUnder hash slot index → HasSlotUnder hash slot index1
  still_held held = record { below = held.below; there = rw m.slots held.there }

  module _ {hash slot : ℕ} {key : K} {keys' : KeyPlaces K Unit} (write : keys' ≡ record keys { entries = written place (entry hash key tt) keys.entries; writes = keys.writes + 1 })
      (w : IsWholeOrder order') (may : MayRetire eq hash slot key (remembered_from index order keys)) where
    wrote : keys'.entries ≡ written place (entry hash key tt) keys.entries
    wrote = ap (λ (z : KeyPlaces K Unit). z.entries) write

    at_place : slice_get keys'.entries place ≡ Some (entry hash key tt)
    at_place = ap (λ z. slice_get z place) wrote ∙ slice_get-written place (entry hash key tt) keys.entries m.next

    others_kept : (t : ℕ) → list_any (eqb t) fewer ≡ true → slice_get keys'.entries t ≡ slice_get keys.entries t
    others_kept t g = grind (arith, differs, slice_get, wrote, slice_get-written_other, eq-eqb)

    entries_now : entries_of keys'.entries order'.places ≡ take order.limit ((hash, key) ∷ entries_of keys.entries order.places)
    entries_now =
        let n : order.limit ≡ suc (order.limit - 1) = omega (arith, m.below) in
        let below = AllByRecursion-left (used order) order.places order.free h.whole.below in
        let at : hashed_at keys'.entries place ≡ Some (hash, key) = ap (λ z. elim z [ None ↦ None | Some e ↦ Some (e.hash, e.key) ]) at_place in
        ap (λ z. entries_of keys'.entries z) m.places
        ∙ entries-cons keys'.entries place (hash, key) fewer at
        ∙ ap (λ zs. (hash, key) ∷ zs) (entries-agree keys.entries keys'.entries fewer others_kept
        ∙ entries-take keys.entries (used order) (order.limit - 1) order.places (omega (arith, h.as_many)) below)
        ∙ ap (λ z. take z ((hash, key) ∷ entries_of keys.entries order.places)) (sym n)

    counted : Rises 1 7 order.accesses order'.accesses → keys'.writes ≡ keys.writes + 1 → Rises 0 8 (accesses_of order keys) (accesses_of order' keys')
    counted rises n = (omega (arith, rises.0), omega (arith, rises.1))

    pub remembers : Remembers eq hash slot key (remembered_from index order keys) (remembered_at hash slot place index1) order' keys'
    remembers =
        let some_slots : 0 < length (known.places index1) = rw m.as_many (elim h.some [ inl s ↦ s | inr none ↦ absurd (omega (arith, none, m.below)) ]) in
        let hashes = (λ (t : ℕ) (g : list_any (eqb t) fewer ≡ true). ap (λ z. elim z [ None ↦ None | Some e ↦ Some e.hash ]) (others_kept t g)) in
        let at : hash_at keys'.entries place ≡ Some hash = ap (λ z. elim z [ None ↦ None | Some e ↦ Some e.hash ]) at_place in
        let held = still_held may.held in
        let like = remembered-like index1 hash slot place in
        let slot_count : length (known.places (remembered_at hash slot place index1)) ≡ length (known.places index) = like.places ∙ m.as_many in
        record {
          whole = record {
            whole = w;
            indexed = subst (λ z. IsIndex (known.places (remembered_at hash slot place index1)) keys'.entries z) (sym m.places)
                (IsIndex-remembered index1 keys.entries keys'.entries fewer hash slot place held.below m.indexed some_slots held.there m.absent hashes at);
            distinct = subst (λ z. IsDistinct (λ d e. eq d.1 e.1) z) (sym entries_now)
                (distinct-take eq order.limit ((hash, key) ∷ entries_of keys.entries order.places)
                (distinct_more (λ d e. eq d.1 e.1) (hash, key) (entries_of keys.entries order.places) may.absent h.distinct));
            as_many = ap (λ (z : List (Entry K Unit)). length z) wrote ∙ length-written place (entry hash key tt) keys.entries m.next ∙ sym m.used_now;
            room = rw (m.limit, ap (λ (z : KeyPlaces K Unit). z.room) write) h.room;
            some = rw (m.limit, slot_count) h.some;
            own_room = λ own. rw (m.limit, slot_count) (h.own_room (sym (like.shared ∙ m.shared) ∙ own));
            short = rw m.limit h.short;
          };
          pushed = shown-as _ _ entries_now m.limit (ap (λ (z : KeyPlaces K Unit). z.comparisons) write);
          accesses = counted m.accesses (ap (λ (z : KeyPlaces K Unit). z.writes) write);
          places = m.placed hash slot;
        }
