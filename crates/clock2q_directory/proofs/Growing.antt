-- Places and slots that are copied from one index to another.
use Rattle.clock2q_directory.proofs.Names.{◌≡◌, ℕ, zero, suc, ◌+◌, ◌^◌, ◌<◌, ◌≤◌, Bool, true, false, ◌&&◌, if◌then◌else◌, eqb, Some, None, List, [], ◌∷◌, length, inl, inr, refl, sym, ap, ◌∙◌, arith, add-one, list_any, AllByRecursion, IsDistinct, both_ways, cases_Bool, or_cases, eqb-true, nat_eq_equiv, length-from_same_keys, total, capacity, candidates, with_handle, Entry, hash_at, IsIndex, is_named, IndexState, first_remembered, is_shared, slots, places, beside, entered, HasSlotRoom, place_entered, slots_beside, Keeps, HasSizesOf, HasRoomForPlace, AddsPlaces, AddsSlots, among_first, among_later, distinct_none, distinct_more, below_of}
use Rattle.clock2q_directory.proofs.Entries.{slice_get_some}
use Rattle.clock2q_directory.proofs.Indexes.{named-own, IsIndex-put}
use Rattle.clock2q_directory.proofs.Views.{slots-entered, places-entered}
use Rattle.clock2q_directory.proofs.Larger.{slots-placed, places-placed, sizes-same, sizes-placed, sizes-entered, sizes-chained, accesses-placed}

-- the numbers below a bound that pass a test, the last first
abbrev pub those_below : (ℕ → Bool) → ℕ → List ℕ
those_below test zero = []
those_below test (suc n) = if test n then n ∷ those_below test n else those_below test n

module _ (test : ℕ → Bool) where
  pub those-within : (n t : ℕ) → list_any (eqb t) (those_below test n) ≡ true → (t < n) × (test t ≡ true)
  those-within zero t h = absurd (both_ways false refl h)
  those-within (suc n) t h = grind (arith, those-within n t, or_cases, eqb-true)

  pub those-there : (n t : ℕ) → t < n → test t ≡ true → list_any (eqb t) (those_below test n) ≡ true
  those-there zero t below passes = absurd (omega (arith, below))
  those-there (suc n) t below passes = grind (arith, those-there n t, among_first, among_later)

  pub next-absent : (n : ℕ) → list_any (eqb n) (those_below test n) ≡ false
  next-absent n = grind (arith, those-within n n)

  pub those-distinct : (n : ℕ) → IsDistinct eqb (those_below test n)
  those-distinct zero = distinct_none eqb
  those-distinct (suc n) = elim (cases_Bool (test n)) [
    | inl h ↦ rw h (distinct_more eqb n (those_below test n) (next-absent n) (those-distinct n))
    | inr h ↦ rw h (those-distinct n)
  ]

  pub those-length : (n : ℕ) → length (those_below test n) ≤ n
  those-length zero = omega arith
  those-length (suc n) = grind (arith, those-length n)

module _ {K V : Type 0} (keys : List (Entry K V)) (from : List (List (ℕ × ℕ))) where
  -- whether an index has a number under the hash of its key
  abbrev pub is_under : ℕ → Bool
  is_under t = elim (hash_at keys t) [ None ↦ false | Some x ↦ list_any (eqb t) (candidates from x) ]

  under-as : (t hash : ℕ) → hash_at keys t ≡ Some hash → is_under t ≡ list_any (eqb t) (candidates from hash)
  under-as t hash at = ap (λ z. elim z [ None ↦ false | Some x ↦ list_any (eqb t) (candidates from x) ]) at

  -- the numbers that were looked at so far
  pub record Copies (n : ℕ) (to : List (List (ℕ × ℕ))) : Type 0 where
    pub indexed : IsIndex to keys (those_below is_under n)

  pub copies-none : (to : List (List (ℕ × ℕ))) → IsIndex to keys [] → Copies 0 to
  copies-none to i = record { indexed = i }

  pub copies-added : (n hash : ℕ) (to : List (List (ℕ × ℕ))) → Copies n to → 0 < length to → hash_at keys n ≡ Some hash → list_any (eqb n) (candidates from hash) ≡ true
      → Copies (n + 1) (with_handle to hash n)
  copies-added n hash to c some at has = record {
    indexed = let is : is_under n ≡ true = under-as n hash at ∙ has in
        rw (add-one, is) (IsIndex-put to keys keys (those_below is_under n) n hash c.indexed some (next-absent is_under n) (λ q h. refl) at);
  }

  pub copies-passed : (n hash : ℕ) (to : List (List (ℕ × ℕ))) → Copies n to → hash_at keys n ≡ Some hash → list_any (eqb n) (candidates from hash) ≡ false → Copies (n + 1) to
  copies-passed n hash to c at has = record {
    indexed = let is : is_under n ≡ false = under-as n hash at ∙ has in rw (add-one, is) c.indexed;
  }

  hash_there : (t : ℕ) → t < length keys → (x : ℕ) × (hash_at keys t ≡ Some x)
  hash_there t below =
      let e = slice_get_some keys t below in
      (e.0.hash, ap (λ z. elim z [ None ↦ None | Some e ↦ Some e.hash ]) e.1)

  module _ (taken : List ℕ) (below : AllByRecursion (λ t. t < length keys) taken) (i : IsIndex from keys taken) where
    -- those that were looked at and found are those that the index has
    same-numbers : (t : ℕ) → list_any (eqb t) taken ≡ list_any (eqb t) (those_below is_under (length keys))
    same-numbers t = elim (cases_Bool (list_any (eqb t) taken)) [
      | inl h ↦
          let b = below_of (length keys) taken below t h in
          let x = hash_there t b in
          let has : list_any (eqb t) (candidates from x.0) ≡ true = i.listed x.0 t ∙ rw (h, named-own from keys x.0 t x.1) refl in
          h ∙ sym (those-there is_under (length keys) t b (under-as t x.0 x.1 ∙ has))
      | inr h ↦ elim (cases_Bool (list_any (eqb t) (those_below is_under (length keys)))) [
        | inl f ↦
            let w = those-within is_under (length keys) t f in
            let x = hash_there t w.0 in
            let has : list_any (eqb t) (candidates from x.0) ≡ false = i.listed x.0 t ∙ rw h refl in
            absurd (both_ways (list_any (eqb t) (candidates from x.0)) has (sym (under-as t x.0 x.1) ∙ w.1))
        | inr f ↦ h ∙ sym f
      ]
    ]

  -- all were looked at
  pub copies-all : (to : List (List (ℕ × ℕ))) → Copies (length keys) to → Keeps keys from to
  copies-all to c taken apart below i =
      let same = same-numbers taken below i in
      record {
        listed = λ x t. c.indexed.listed x t ∙ ap (λ b. b && is_named to keys x t) (sym (same t));
        once = c.indexed.once;
        counted = c.indexed.counted ∙ sym (length-from_same_keys nat_eq_equiv taken (those_below is_under (length keys)) apart (those-distinct is_under (length keys)) same);
      }

-- a table with room for some entries has slots
some_in : (m : ℕ) → 0 < capacity m → 0 < m
some_in m room = omega (arith, room)

module _ {K V : Type 0} (keys : List (Entry K V)) (from start : IndexState) where
  -- the places were added of the keys below a number
  pub record PlacesBelow (n : ℕ) (v : IndexState) : Type 0 where
    pub copied : Copies keys (places from) n (places v)
    pub others : slots v ≡ slots start
    pub sizes : HasSizesOf start v
    pub accesses : start.accesses ≤ v.accesses

  pub places-start : IsIndex (places start) keys [] → PlacesBelow 0 start
  places-start empty = record { copied = copies-none keys (places from) (places start) empty; others = refl; sizes = sizes-same start; accesses = omega arith }

  pub places-room : {n : ℕ} {v : IndexState} → PlacesBelow n v → n < length keys → total (slots start) ≡ 0 → length keys ≤ capacity (length (places start)) → length keys < 2 ^ 24 → HasRoomForPlace v
  places-room {n} {v} b below alone room few =
      let most = those-length (is_under keys (places from)) n in
      let none : total (slots v) ≡ 0 = ap (λ homes. total homes) b.others ∙ alone in
      let size = ap capacity b.sizes.places in
      let beside_none : slots_beside v ≡ 0 = elim (cases_Bool (is_shared v)) [ inl h ↦ rw h none | inr h ↦ rw h refl ] in
      record {
        room = omega (arith, b.copied.indexed.counted, most, beside_none, below, room, size);
        few = omega (arith, b.copied.indexed.counted, most, beside_none, below, few);
      }

  pub places-added : {n hash : ℕ} {v : IndexState} {has : Bool} → PlacesBelow n v → HasRoomForPlace v → hash_at keys n ≡ Some hash → has ≡ list_any (eqb n) (candidates (places from) hash) → has ≡ true
      → PlacesBelow (n + 1) (place_entered hash n v)
  places-added {n} {hash} {v} b room at is it = record {
    copied = rw (places-placed v hash n) (copies-added keys (places from) n hash (places v) b.copied (some_in (length (places v)) (omega (arith, room.room))) at (sym is ∙ it));
    others = slots-placed v hash n ∙ b.others;
    sizes = sizes-chained b.sizes (sizes-placed v hash n);
    accesses = omega (arith, b.accesses, accesses-placed v hash n);
  }

  pub places-passed : {n hash : ℕ} {v : IndexState} {has : Bool} → PlacesBelow n v → hash_at keys n ≡ Some hash → has ≡ list_any (eqb n) (candidates (places from) hash) → has ≡ false
      → PlacesBelow (n + 1) v
  places-passed {n} {hash} {v} b at is it = record {
    copied = copies-passed keys (places from) n hash (places v) b.copied at (sym is ∙ it);
    others = b.others;
    sizes = b.sizes;
    accesses = b.accesses;
  }

  pub places-all : {n : ℕ} {v : IndexState} → PlacesBelow n v → n ≡ length keys → AddsPlaces keys from start v
  places-all {n} {v} b all = record {
    kept = copies-all keys (places from) (places v) (rw (← all) b.copied);
    few = omega (arith, b.copied.indexed.counted, those-length (is_under keys (places from)) n, all);
    others = b.others;
    sizes = b.sizes;
    accesses = b.accesses;
  }

  -- and the slots
  pub record SlotsBelow (n : ℕ) (v : IndexState) : Type 0 where
    pub copied : Copies keys (slots from) n (slots v)
    pub others : places v ≡ places start
    pub sizes : HasSizesOf start v
    pub accesses : start.accesses ≤ v.accesses

  pub slots-start : IsIndex (slots start) keys [] → SlotsBelow 0 start
  slots-start empty = record { copied = copies-none keys (slots from) (slots start) empty; others = refl; sizes = sizes-same start; accesses = omega arith }

  pub slots-room : {n : ℕ} {v : IndexState} → SlotsBelow n v → n < length keys → length keys + beside start ≤ capacity (length (slots start)) → length keys + beside start < 2 ^ 24 → HasSlotRoom v
  slots-room {n} {v} b below room few =
      let most = those-length (is_under keys (slots from)) n in
      let as_many : beside v ≡ beside start = ap (λ t. if t then total (places v) else 0) b.sizes.shared ∙ ap (λ homes. if is_shared start then total homes else 0) b.others in
      let size = ap capacity b.sizes.slots in
      record {
        room = omega (arith, b.copied.indexed.counted, most, as_many, below, room, size);
        few = omega (arith, b.copied.indexed.counted, most, as_many, below, few);
      }

  pub slots-added : {n hash : ℕ} {v : IndexState} {has : Bool} → SlotsBelow n v → HasSlotRoom v → n < first_remembered → hash_at keys n ≡ Some hash
      → has ≡ list_any (eqb n) (candidates (slots from) hash) → has ≡ true
      → SlotsBelow (n + 1) (entered false hash n v)
  slots-added {n} {hash} {v} b room below at is it = record {
    copied = rw (slots-entered v hash n below) (copies-added keys (slots from) n hash (slots v) b.copied (some_in (length (slots v)) (omega (arith, room.room))) at (sym is ∙ it));
    others = places-entered v hash n below ∙ b.others;
    sizes = sizes-chained b.sizes (sizes-entered v hash n);
    accesses = omega (arith, b.accesses);
  }

  pub slots-passed : {n hash : ℕ} {v : IndexState} {has : Bool} → SlotsBelow n v → hash_at keys n ≡ Some hash → has ≡ list_any (eqb n) (candidates (slots from) hash) → has ≡ false
      → SlotsBelow (n + 1) v
  slots-passed {n} {hash} {v} b at is it = record {
    copied = copies-passed keys (slots from) n hash (slots v) b.copied at (sym is ∙ it);
    others = b.others;
    sizes = b.sizes;
    accesses = b.accesses;
  }

  pub slots-all : {n : ℕ} {v : IndexState} → SlotsBelow n v → n ≡ length keys → AddsSlots keys from start v
  slots-all {n} {v} b all = record {
    kept = copies-all keys (slots from) (slots v) (rw (← all) b.copied);
    others = b.others;
    sizes = b.sizes;
    accesses = b.accesses;
  }
