-- What is in the index, in terms of the machine.
use Rattle.clock2q_cache.proofs.Names.{◌≡◌, ℕ, ◌<◌, ◌≤◌, ◌==◌, Bool, ◌||◌, ◌&&◌, Option, Some, None, slice_get, List, [], ◌∷◌, map, length, refl, arith, eqb-true, eqb, slice_get_some, list_any, zip, AllByRecursion, length-map, IsEquivalence, Entry, KeyPlaces, key_at, hash_at, hashed_at, entries_of, IsIndex, is_named, is_alike, QueueState, Remembered, IsWholeHistory, among_first, Shares, residents, machine_of, queued_slots, IsCache, HasPlaces}
use Rattle.clock2q_directory.specs.Index as known
use Rattle.clock2q_cache.proofs.WithKeys.{HaveKeys, have_later, paired, paired-cons, residents-keyed}
use Rattle.clock2q_cache.proofs.Stored.{all-at}
use Rattle.clock2q_cache.proofs.Slots.{small_have, main_have}

absorb : (n a : Bool) → n ≡ (n || (a && n))
absorb n a = grind arith

length-paired : {K : Type 0} (key : ℕ → Option K) (places : List ℕ) → HaveKeys key places → length (paired key places) ≡ length places
length-paired key [] h = refl
length-paired key (s ∷ ss) h = grind (arith, among_first s ss, paired-cons, length-paired key ss (have_later key s ss h))

module _ {K V : Type 0} (hash : K → ℕ) (entries : List (Entry K V)) where
  -- a place has a key, with the key's hash
  abbrev pub IsHashed : ℕ → Type 0
  IsHashed s = (k : K) × (hashed_at entries s ≡ Some (hash k, k))

  -- a part of what is at a place
  part-of : {Y : Type 0} (f : ℕ × K → Y) (o : Option (Entry K V)) (x : ℕ × K) → elim o [ None ↦ None | Some e ↦ Some (e.hash, e.key) ] ≡ Some x
      → elim o [ None ↦ None | Some e ↦ Some (f (e.hash, e.key)) ] ≡ Some (f x)
  part-of f o x q = grind arith

  key-of : (s h : ℕ) (k : K) → hashed_at entries s ≡ Some (h, k) → key_at entries s ≡ Some k
  key-of s h k = part-of (λ z. z.1) (slice_get entries s) (h, k)

  hash-of : (s h : ℕ) (k : K) → hashed_at entries s ≡ Some (h, k) → hash_at entries s ≡ Some h
  hash-of s h k = part-of (λ z. z.0) (slice_get entries s) (h, k)

  pub hashed_have : (places : List ℕ) → AllByRecursion IsHashed places → HaveKeys (key_at entries) places
  hashed_have [] a t g = absurd (cc)
  hashed_have (s ∷ ss) a t g = grind (arith, a.0, key-of, hashed_have ss a.1 t, eqb-true)

  -- if every key has its hash, each place that was used has one
  stored_hashed : (places : List ℕ) → AllByRecursion (λ s. s < length entries) places → AllByRecursion (λ e. e.hash ≡ hash e.key) entries → AllByRecursion IsHashed places
  stored_hashed [] below all = tt
  stored_hashed (s ∷ ss) below all =
      let e = slice_get_some entries s below.0 in
      (grind (arith, e.1, all-at (λ (e : Entry K V). e.hash ≡ hash e.key) entries s e.0 all e.1), stored_hashed ss below.1 all)

  module _ (index : List (List (ℕ × ℕ))) where
    named : (x place : ℕ) (places : List ℕ) → AllByRecursion IsHashed places
        → (list_any (eqb place) places && is_named index entries x place) ≡ list_any (λ e. (place == e.1) && is_alike index x (hash e.0)) (paired (key_at entries) places)
    named x place [] a = refl
    named x place (s ∷ ss) a = grind (arith, a.0.0, paired-cons, key-of, a.0.1, named x place ss a.1, a.1, hash-of, absorb)

    pub has-places : (places : List ℕ) → AllByRecursion IsHashed places → IsIndex index entries places → HasPlaces hash index (paired (key_at entries) places)
    has-places places a is = grind (arith, named, is.counted, length-paired, hashed_have)

  -- if a list of places has as many keys as places, each place has its key with the key's hash
  entries_within : (places : List ℕ) → length (entries_of entries places) ≤ length places
  entries_within [] = omega arith
  entries_within (s ∷ ss) = grind (arith, entries_within ss)

  -- what is known of the history: its keys are at its places
  pub record AreRemembered (places : List ℕ) : Type 0 where
    pub hashed : AllByRecursion IsHashed places
    pub zipped : zip (map (λ (e : ℕ × K). e.1) (entries_of entries places)) places ≡ paired (key_at entries) places

  pub are_remembered : (places : List ℕ) → length (entries_of entries places) ≡ length places → AllByRecursion (λ (e : ℕ × K). e.0 ≡ hash e.1) (entries_of entries places) → AreRemembered places
  are_remembered [] many a = record { hashed = tt; zipped = refl }
  are_remembered (s ∷ ss) many a = grind (arith, are_remembered ss, entries_within ss, paired-cons, key-of)

module _ {K V : Type 0} {eq : K → K → Bool} {hash : K → ℕ} {shares : Shares} {q : QueueState} {h : Remembered K} {index : List (List (ℕ × ℕ))} {keys : KeyPlaces K V} {free : List ℕ} {room : ℕ}
    (laws : IsEquivalence eq) (kept : IsCache eq hash shares q h index keys free room) where
  -- the residents are the keys at the slots in use
  pub residents-paired : residents (machine_of shares q keys.entries h.entries free) ≡ paired (key_at keys.entries) (queued_slots q)
  residents-paired = residents-keyed (key_at keys.entries) q.small q.main (small_have laws kept) (main_have laws kept)

  -- the residents in the index
  pub residents-have : HasPlaces hash index (residents (machine_of shares q keys.entries h.entries free))
  residents-have = grind (arith, residents-paired, has-places hash keys.entries index (queued_slots q), stored_hashed hash keys.entries (queued_slots q), kept.stored)

  -- the history in the index
  pub record Remembers : Type 0 where
    pub as_many : length h.places.taken ≡ length (map (λ (e : ℕ × K). e.1) h.entries)
    pub have : HasPlaces hash (known.places h.places.index) (zip (map (λ (e : ℕ × K). e.1) h.entries) h.places.taken)

  pub remembers : IsWholeHistory eq h → Remembers
  remembers whole =
      let w = whole.indexed in
      let t = are_remembered hash w.0 h.places.taken (grind (arith, w.1, w.2)) (rw (← w.1) kept.hashed) in
      grind (arith, w.1, w.2, length-map {B = K} h.entries, has-places hash w.0 (known.places h.places.index) h.places.taken t.hashed w.3, t.zipped)
