-- A cache's fields keep their invariant when a key's history is erased or a value is replaced, and those of a new cache
-- have it.
use Rattle.clock2q_cache.proofs.Names.{◌≡◌, ℕ, ◌<◌, ◌≤◌, Bool, true, false, not, Option, Some, None, slice_get, List, [], ◌∷◌, map, length, refl, sym, ap, ◌∙◌, subst, arith, eqb-true, if◌then◌else◌, is_some, IsEquivalence, filter, list_any, AllByRecursion, Entry, below-more, KeyPlaces, written, hash_at, key_at, with_value, IsIndex, HasHash, no_entries, QueueState, Remembered, most_beside, slice_get-written, slice_get-written_other, length-written, set-written, all-written, values-written, length-values, IsIndex-cleared, length-cleared, IsIndex-kept, Shares, Machine, stored, empty, vacancy, goes_to_main, IsWhole, machine_of, queued_slots, IsStored, IsSized, IsCache, whole-forgotten, all_resident, small_share, whole-changed, All-from_recursion, recursion_from_All, All-filter, slice_get_some, nat_tests, places_looked_up}
use Rattle.clock2q_directory.specs.History.{forgotten}
use Rattle.clock2q_machine.specs.Machine as cache
use Rattle.clock2q_cache.proofs.WithKeys.{small_with, main_with, keys-agree}
use Rattle.clock2q_cache.proofs.CacheInvariant.{sized-same}
use Rattle.clock2q_cache.proofs.Stored.{all-at}

module _ {K : Type 0} (is : K → Bool) where
  pub known-any : (es : List (ℕ × K)) → list_any (λ (e : ℕ × K). is e.1) es ≡ list_any is (map (λ (e : ℕ × K). e.1) es)
  known-any [] = refl
  known-any (e ∷ es) = grind (arith, known-any es)

  keys-filtered : (es : List (ℕ × K)) → map (λ (e : ℕ × K). e.1) (filter (λ (e : ℕ × K). not (is e.1)) es) ≡ filter (λ k. not (is k)) (map (λ (e : ℕ × K). e.1) es)
  keys-filtered [] = refl
  keys-filtered (e ∷ es) = grind (arith, is e.1, e.1, keys-filtered es)

  all-filtered : (P : ℕ × K → Type 0) (es : List (ℕ × K)) → AllByRecursion P es → AllByRecursion P (filter (λ (e : ℕ × K). not (is e.1)) es)
  all-filtered P es a =
      recursion_from_All P (filter (λ (e : ℕ × K). not (is e.1)) es) (All-filter (λ (e : ℕ × K). not (is e.1)) P es (All-from_recursion P es a))

hash-there : {K : Type 0} (eq : K → K → Bool) (hash : K → ℕ) (key : K) (hsh : ℕ) (es : List (ℕ × K))
    → ((x y : K) → eq x y ≡ true → hash x ≡ hash y) → hsh ≡ hash key → AllByRecursion (λ (e : ℕ × K). e.0 ≡ hash e.1) es → HasHash eq hsh key es
hash-there eq hash key hsh [] respects is a = tt
hash-there eq hash key hsh (e ∷ es) respects is a = ((λ q. a.0 ∙ sym (respects key e.1 q) ∙ sym is), hash-there eq hash key hsh es respects is a.1)

module _ {K V : Type 0} where
  -- a value that is replaced
  record Replaces (slot : ℕ) (value : V) (es : List (Entry K V)) : Type 0 where
    pub entry : Entry K V
    pub at : slice_get es slot ≡ Some entry
    pub written : with_value slot value es ≡ written slot (record entry { value = value }) es

  replaces : (slot : ℕ) (value : V) (es : List (Entry K V)) → slot < length es → Replaces slot value es
  replaces slot value es below =
      let e = slice_get_some es slot below in
      record { entry = e.0; at = e.1; written = grind (arith, e.1, set-written slot (record e.0 { value = value }) es) }

  -- nothing else of the entries changes
  entry-same : {Y : Type 0} (f : Option (Entry K V) → Y) (slot : ℕ) (value : V) (es : List (Entry K V)) (r : Replaces slot value es) → slot < length es
      → f (Some (record r.entry { value = value })) ≡ f (Some r.entry) → (t : ℕ) → f (slice_get (with_value slot value es) t) ≡ f (slice_get es t)
  entry-same f slot value es r below same t = grind (arith, eqb-true, slice_get-written, slice_get-written_other, r.written, r.at)

  key-same : (slot : ℕ) (value : V) (es : List (Entry K V)) (r : Replaces slot value es) → slot < length es → (t : ℕ) → key_at (with_value slot value es) t ≡ key_at es t
  key-same slot value es r below = entry-same (λ z. elim z [ None ↦ None | Some e ↦ Some e.key ]) slot value es r below refl

  hash-same : (slot : ℕ) (value : V) (es : List (Entry K V)) (r : Replaces slot value es) → slot < length es → (t : ℕ) → hash_at (with_value slot value es) t ≡ hash_at es t
  hash-same slot value es r below = entry-same (λ z. elim z [ None ↦ None | Some e ↦ Some e.hash ]) slot value es r below refl

module _ {K V : Type 0} {eq : K → K → Bool} {hash : K → ℕ} {shares : Shares} {q : QueueState} {h : Remembered K} {index : List (List (ℕ × ℕ))} {keys : KeyPlaces K V} {free : List ℕ} {room : ℕ}
    (laws : IsEquivalence eq) (kept : IsCache eq hash shares q h index keys free room) where
  abbrev m : Machine K V
  m = machine_of shares q keys.entries h.entries free

  -- keys are compared
  pub kept-asked : (keys' : KeyPlaces K V) → keys'.entries ≡ keys.entries → keys'.room ≡ keys.room → IsCache eq hash shares q h index keys' free room
  kept-asked keys' entries keys_room = grind (arith, kept.whole, kept.stored, kept.hashed, kept.linked, sized-same, kept.sized)

  -- a hash was looked up, and keys were compared
  pub kept-looked : (x : ℕ) (h' : Remembered K) (keys' : KeyPlaces K V) → h' ≡ record h { places = places_looked_up x h.places; comparisons = h'.comparisons } → keys'.entries ≡ keys.entries
      → keys'.room ≡ keys.room → IsCache eq hash shares q h' index keys' free room
  kept-looked x h' keys' same entries keys_room = grind (arith, kept.whole, kept.stored, kept.hashed, kept.linked, sized-same, kept.sized)

  -- the key's history is erased
  module _ (key : K) (h' : Remembered K) (entries : h'.entries ≡ forgotten eq key h.entries) where
    pub forgotten-machine : machine_of shares q keys.entries h'.entries free ≡ cache.forgotten (eq key) m
    forgotten-machine = let r = ap (λ z. map (λ (e : ℕ × K). e.1) z) entries ∙ keys-filtered (eq key) h.entries in cc

    pub kept-forgotten : h'.limit ≡ h.limit → most_beside h' ≡ most_beside h → {index' : List (List (ℕ × ℕ))} → index' ≡ index → IsCache eq hash shares q h' index' keys free room
    kept-forgotten limit beside same = record {
      whole = rw forgotten-machine (whole-forgotten eq m kept.whole (eq key));
      stored = grind (arith, same, kept.stored);
      hashed = rw entries (all-filtered (eq key) (λ e. e.0 ≡ hash e.1) h.entries kept.hashed);
      linked = kept.linked;
      sized = grind (arith, sized-same, kept.sized);
    }

  pub discard-hash : (key : K) (hsh : ℕ) → ((x y : K) → eq x y ≡ true → hash x ≡ hash y) → hsh ≡ hash key → HasHash eq hsh key h.entries
  discard-hash key hsh respects is = hash-there eq hash key hsh h.entries respects is kept.hashed

  -- a slot's value is replaced
  module _ (slot : ℕ) (value : V) (below : slot < length m.values) where
    made : slot < length keys.entries
    made = omega (arith, below, length-values keys.entries)

    r : Replaces slot value keys.entries
    r = replaces slot value keys.entries made

    pub replaced-machine : machine_of shares q (with_value slot value keys.entries) h.entries free ≡ stored slot value m
    replaced-machine =
        let s = keys-agree small_with (key_at keys.entries) (key_at (with_value slot value keys.entries)) q.small (λ t g. key-same slot value keys.entries r made t) in
        let t = keys-agree main_with (key_at keys.entries) (key_at (with_value slot value keys.entries)) q.main (λ t g. key-same slot value keys.entries r made t) in
        let v = ap (λ z. map (λ (e : Entry K V). e.value) z) r.written ∙ values-written slot (record r.entry { value = value }) keys.entries (omega (arith, made)) in
        cc

    pub kept-replaced : (keys' : KeyPlaces K V) → keys'.entries ≡ with_value slot value keys.entries → keys'.room ≡ keys.room → IsCache eq hash shares q h index keys' free room
    kept-replaced keys' is keys_room = record {
      whole = subst (λ z. IsWhole eq (machine_of shares q z h.entries free)) (sym is) (subst (IsWhole eq) (sym replaced-machine) (whole-changed eq m kept.whole slot value below));
      stored = subst (λ z. IsStored hash index z (queued_slots q)) (sym is) (record {
        made =
            below-more (length keys.entries) (length (with_value slot value keys.entries)) (queued_slots q)
            (omega (arith, ap (λ (z : List (Entry K V)). length z) r.written, length-written slot (record r.entry { value = value }) keys.entries (omega (arith, made)))) kept.stored.made;
        indexed = IsIndex-kept index keys.entries (with_value slot value keys.entries) (queued_slots q) (λ t g. hash-same slot value keys.entries r made t) kept.stored.indexed;
        hashed =
            subst (λ z. AllByRecursion (λ e. e.hash ≡ hash e.key) z) (sym r.written)
            (all-written (λ e. e.hash ≡ hash e.key) slot (record r.entry { value = value })
            keys.entries kept.stored.hashed (all-at (λ e. e.hash ≡ hash e.key) keys.entries slot r.entry kept.stored.hashed r.at));
      });
      hashed = kept.hashed;
      linked = omega (
        arith,
        ap (λ (z : List (Entry K V)). length z) is,
        ap (λ (z : List (Entry K V)). length z) r.written,
        length-written slot (record r.entry { value = value }) keys.entries (omega (arith, made)),
        made,
        kept.linked,
      );
      sized = sized-same kept.sized refl refl refl refl refl keys_room refl;
    }

module _ {K V : Type 0} where
  -- whether a key that the history doesn't have enters Main: if there is a vacancy, the length of Small decides
  module _ (m : Machine K V) {room : Bool} {share n : ℕ} (at : share ≡ m.shares.small) (vacant : room ≡ is_some (vacancy m)) (is : n ≡ (if room then length m.small else 0)) where
    pub admits-main : share ≤ n → true ≡ goes_to_main false m
    admits-main full = grind (arith, nat_tests)

    pub admits-small : n < share → false ≡ goes_to_main false m
    admits-small few = grind (arith, nat_tests)

  -- a full cache has an entry in Small, if Small has a share
  pub small-some : (eq : K → K → Bool) (m : Machine K V) → IsWhole eq m → is_some (vacancy m) ≡ false → goes_to_main false m ≡ false → 0 < length m.small
  small-some eq m whole none small = grind (arith, all_resident, small_share)

  -- nothing is resident, remembered or free
  pub kept-empty : {eq : K → K → Bool} {hash : K → ℕ} {shares : Shares} {q : QueueState} {h : Remembered K} {index : List (List (ℕ × ℕ))} {keys : KeyPlaces K V} {free : List ℕ} {room : ℕ}
      → IsEquivalence eq
      → shares.small < shares.capacity → q.small ≡ [] → q.main ≡ [] → h.entries ≡ [] → IsIndex {K = K} {V = V} index [] []
      → keys.entries ≡ [] → free ≡ [] → IsSized shares q h.limit (most_beside h) (length index) keys.room room
      → IsCache eq hash shares q h index keys free room × (machine_of shares q keys.entries h.entries free ≡ empty shares)
  kept-empty laws below small main entries indexed keyed none sized = grind arith

  -- a cache that is cleared
  pub kept-cleared : {eq : K → K → Bool} {hash : K → ℕ} {shares : Shares} {q q' : QueueState} {h h' : Remembered K} {index index' : List (List (ℕ × ℕ))} {keys keys' : KeyPlaces K V}
      {free free' : List ℕ} {room room' : ℕ} → IsEquivalence eq → IsCache eq hash shares q h index keys free room
      → q'.small ≡ [] → q'.main ≡ [] → h'.entries ≡ [] → keys'.entries ≡ [] → free' ≡ [] → index' ≡ no_entries (length index)
      → q'.slots ≡ q.slots → q'.window ≡ q.window → h'.limit ≡ h.limit → most_beside h' ≡ most_beside h → keys'.room ≡ keys.room → room' ≡ room → IsCache eq hash shares q' h' index' keys' free' room'
  kept-cleared laws kept small main entries keyed none emptied slots window limit beside keys_room free_room =
      let sized = sized-same kept.sized slots window limit beside (length-cleared _ _ emptied) keys_room free_room in
      (kept-empty laws kept.whole.small_below small main entries (IsIndex-cleared _ _ [] emptied) keyed none sized).0
