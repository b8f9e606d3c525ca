-- A new history, one that was cleared, and what callers see of one.
use Rattle.clock2q_directory.proofs.Names.{◌≡◌, ℕ, ◌^◌, ◌<◌, ◌≤◌, Bool, List, [], length, refl, sym, ap, ◌∙◌, subst, arith, IsDistinct, Entry, PlaceOrder, IsWholeOrder, unused, used, KeyPlaces, entries_of, IsIndex, IndexState, emptied, index_for, is_shared, HasSlotRoom, HasRoomBeside, Places, IsHistory, IsWholeHistory, remembered, remembered_from, AllByRecursion-left, distinct_none}
use Rattle.clock2q_directory.specs.Index as known
use Rattle.clock2q_directory.proofs.Entries.{length-entries}
use Rattle.clock2q_directory.proofs.Emptied.{for-new, new-none, emptied-places, cleared_like}

module _ {K V : Type 0} (eq : K → K → Bool) where
  pub IsHistory-new : (residents limit : ℕ) (keys : KeyPlaces K V) → 0 < residents → residents < 2 ^ 24 → limit < 2 ^ 24 → IsWholeOrder (unused limit)
      → keys.entries ≡ [] → limit ≤ keys.room → IsHistory eq (index_for residents limit) (unused limit) keys
  IsHistory-new residents limit keys least few short w none room =
      let n = for-new residents limit least few short in
      let e = new-none residents limit least few short in
      record {
        whole = w;
        indexed = rw e.2 (emptied-places e.0 e.1 keys.entries);
        distinct = distinct_none (λ d e. eq d.1 e.1);
        as_many = ap (λ (z : List (Entry K V)). length z) none;
        room = room;
        some = n.some;
        own_room = n.own;
        short = short;
      }

module _ {K V : Type 0} {eq : K → K → Bool} {index : IndexState} {order : PlaceOrder} {keys : KeyPlaces K V} (h : IsHistory eq index order keys) where
  pub entries_counted : length (entries_of keys.entries order.places) ≡ length order.places
  entries_counted = length-entries keys.entries (used order) order.places (omega (arith, h.as_many)) (AllByRecursion-left (used order) order.places order.free h.whole.below)

  -- an index in which the places are the same
  pub IsHistory-index : {index' : IndexState} → known.places index' ≡ known.places index → is_shared index' ≡ is_shared index → IsHistory eq index' order keys
  IsHistory-index same shared = record {
    whole = h.whole;
    indexed = rw same h.indexed;
    distinct = h.distinct;
    as_many = h.as_many;
    room = h.room;
    some = rw same h.some;
    own_room = λ e. rw same (h.own_room (sym shared ∙ e));
    short = h.short;
  }

  pub IsHistory-cleared : {order' : PlaceOrder} {keys' : KeyPlaces K V} → IsWholeOrder order' → order' ≡ record order { places = []; free = [] } → keys' ≡ record keys { entries = [] }
      → IsHistory eq (emptied index) order' keys'
  IsHistory-cleared {order'} {keys'} w ordered cleared =
      let places = ap (λ (z : PlaceOrder). z.places) ordered in
      let limit = ap (λ (z : PlaceOrder). z.limit) ordered in
      let l = cleared_like index in
      record {
        whole = w;
        indexed = subst (λ z. IsIndex (known.places (emptied index)) keys'.entries z) (sym places)
            (emptied-places (length index.shared) (length index.own) keys'.entries);
        distinct = subst (λ z. IsDistinct (λ d e. eq d.1 e.1) (entries_of keys'.entries z)) (sym places) (distinct_none (λ d e. eq d.1 e.1));
        as_many = omega (arith, ap (λ (z : KeyPlaces K V). length z.entries) cleared, ap (λ (z : List ℕ). length z) places, ap (λ (z : PlaceOrder). length z.free) ordered);
        room = rw (limit, ap (λ (z : KeyPlaces K V). z.room) cleared) h.room;
        some = rw (limit, l.places) h.some;
        own_room = λ o. rw (limit, l.places) (h.own_room (sym l.shared ∙ o));
        short = rw limit h.short;
      }

-- the view that callers have, from each of its parts
pub shown-as : {K : Type 0} {entries entries' : List (ℕ × K)} {limit limit' : ℕ} (places : Places) (accesses : ℕ) {comparisons comparisons' : ℕ}
    → entries' ≡ entries → limit' ≡ limit → comparisons' ≡ comparisons
    → remembered entries' limit' places accesses comparisons' ≡ remembered entries limit places accesses comparisons
shown-as {K} {entries} {entries'} {limit} {limit'} places accesses {comparisons} {comparisons'} e l q = grind arith

pub IsWholeHistory-from : {K : Type 0} {eq : K → K → Bool} {index : IndexState} {order : PlaceOrder} {keys : KeyPlaces K Unit} → IsHistory eq index order keys
    → IsWholeHistory eq (remembered_from index order keys)
IsWholeHistory-from {keys = keys} h =
    let n = entries_counted h in
    record {
      distinct = h.distinct;
      within = omega (arith, n, h.whole.within);
      own_room = h.own_room;
      indexed = (keys.entries, refl, n, h.indexed);
    }
