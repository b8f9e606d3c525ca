-- A lookup through the index finds the machine's slot of the key, and a hit there does what the machine's does.
use Rattle.clock2q_cache.proofs.Names.{◌≡◌, ℕ, ◌+◌, ◌<◌, ◌≤◌, ◌⊎◌, Bool, true, false, not, ◌&&◌, cond, eqb, Option, Some, None, slice_get, List, [], ◌∷◌, map, length, refl, sym, ap, ◌∙◌, arith, eqb-true, IfSome, IsSome, is_some, IsEquivalence, option_map, count_by, find, list_any, cons_option, AllByRecursion, sum_by-cons, candidates, or_true, touched, slots_of-hit, Entry, KeyPlaces, key_at, entries_of, is_key_at, HasHash, small_hit_at, main_hit_at, then_some, QueueState, slots_of, Remembered, place_of, found_slot, found_place, found_gap, list_any-append, among_first, below_of, same_place, key_there, any_entry, length-values, lookup, found_there, not_found, Shares, Machine, slot_of, hit, is_at, machine_of, queued_slots, IsCache, whole-hit, candidates_there, distinct_none, distinct_more, IsDistinct, Found, counted_residents}
use Rattle.clock2q_cache.proofs.WithKeys.{HaveKeys, have_later, paired, paired-cons, small-hit, main-hit}
use Rattle.clock2q_cache.proofs.Indexed.{residents-paired}
use Rattle.clock2q_cache.proofs.Stored.{have_keys}
use Rattle.clock2q_cache.proofs.CacheInvariant.{sized-same}
use Rattle.clock2q_cache.proofs.Stored.{all-at}
use Rattle.clock2q_cache.proofs.Slots.{small_have, main_have}

pub none-has : {X : Type 0} (is : X → Bool) (es : List X) → count_by is es ≡ 0 → list_any is es ≡ false
none-has is [] h = refl
none-has is (e ∷ es) h = grind (arith, sum_by-cons (λ k. cond (is k) 1 0) e es, none-has is es)

pub counted-map : {X Y : Type 0} (is : Y → Bool) (f : X → Y) (xs : List X) → count_by is (map f xs) ≡ count_by (λ x. is (f x)) xs
counted-map is f [] = refl
counted-map is f (x ∷ xs) = omega (arith, sum_by-cons (λ y. cond (is y) 1 0) (f x) (map f xs), sum_by-cons (λ x. cond (is (f x)) 1 0) x xs, counted-map is f xs)

-- a test of slots that returns whether the key there passes
paired-found : {K : Type 0} (key : ℕ → Option K) (is : K → Bool) (passes : ℕ → Bool) → ((t : ℕ) (k : K) → key t ≡ Some k → passes t ≡ is k) → (ps : List ℕ) → HaveKeys key ps
    → option_map (λ (r : K × ℕ). r.1) (find (λ r. is r.0) (paired key ps)) ≡ find passes ps
paired-found key is passes agrees [] h = refl
paired-found {K} key is passes agrees (p ∷ ps) h = grind (arith, among_first p ps, paired-cons, paired-found key is passes agrees ps (have_later key p ps h))

module _ {K V : Type 0} (entries : List (Entry K V)) where
  -- whether a key is the one at a place
  pub key-compares : (eq : K → K → Bool) (key : K) (t : ℕ) (k : K) → key_at entries t ≡ Some k → is_key_at eq key entries t ≡ eq key k
  key-compares eq key t k h = grind arith

  -- as many keys pass at the places as among the residents there
  paired-counted : (is : K → Bool) (ps : List ℕ) → count_by (λ (e : ℕ × K). is e.1) (entries_of entries ps) ≡ count_by (λ (r : K × ℕ). is r.0) (paired (key_at entries) ps)
  paired-counted is [] = refl
  paired-counted is (p ∷ ps) = of (slice_get entries p) (paired-counted is ps)
    where
      of : (o : Option (Entry K V)) → count_by (λ (e : ℕ × K). is e.1) (entries_of entries ps) ≡ count_by (λ (r : K × ℕ). is r.0) (paired (key_at entries) ps)
          → count_by (λ (e : ℕ × K). is e.1) (cons_option (elim o [ None ↦ None | Some e ↦ Some (e.hash, e.key) ]) (entries_of entries ps))
          ≡ count_by (λ (r : K × ℕ). is r.0) (cons_option (option_map (λ k. (k, p)) (elim o [ None ↦ None | Some e ↦ Some e.key ])) (paired (key_at entries) ps))
      of None r = r
      of (Some e) r =
          let a = sum_by-cons (λ (x : ℕ × K). cond (is x.1) 1 0) (e.hash, e.key) (entries_of entries ps) in
          let b = sum_by-cons (λ (x : K × ℕ). cond (is x.0) 1 0) (e.key, p) (paired (key_at entries) ps) in
          omega (arith, r, a, b)

-- if each key occurs at most once, no two are equal
distinct-once : {K : Type 0} (eq : K → K → Bool) → IsEquivalence eq → (es : List (ℕ × K)) → ((k : K) → count_by (λ (e : ℕ × K). eq k e.1) es ≤ 1) → IsDistinct (λ d e. eq d.1 e.1) es
distinct-once eq laws [] h = distinct_none (λ d e. eq d.1 e.1)
distinct-once {K} eq laws (e ∷ es) h =
    distinct_more (λ d e. eq d.1 e.1) e es
    (grind (arith, none-has (λ (x : ℕ × K). eq e.1 x.1) es, h e.1, sum_by-cons (λ (x : ℕ × K). cond (eq e.1 x.1) 1 0) e es, laws.refl))
    (distinct-once eq laws es (λ k. omega (arith, h k, sum_by-cons (λ (x : ℕ × K). cond (eq k x.1) 1 0) e es)))

-- each key has its hash, so equal keys have the same one
hashes-same : {K V : Type 0} (eq : K → K → Bool) (hash : K → ℕ) (key : K) (entries : List (Entry K V)) (ps : List ℕ)
    → ((x y : K) → eq x y ≡ true → hash x ≡ hash y) → AllByRecursion (λ e. e.hash ≡ hash e.key) entries → HasHash eq (hash key) key (entries_of entries ps)
hashes-same eq hash key entries [] respects a = tt
hashes-same {K} {V} eq hash key entries (p ∷ ps) respects a =
    grind (arith, hashes-same eq hash key entries ps respects a, all-at (λ (e : Entry K V). e.hash ≡ hash e.key) entries p, respects key)

-- a result that isn't a resident has no slot
pub no-slot : (r : Found) → ((slot : ℕ) → r ≡ Found.Resident slot → ⊥) → None ≡ found_slot r
no-slot r other = grind arith

-- a lookup that finds neither has found the gap
pub gap-found : (r : Found) (o : Option ℕ) → ((slot : ℕ) → r ≡ Found.Resident slot → ⊥) → found_place r ≡ o → (found_place r ≡ None → IsSome (found_gap r)) → is_some (found_gap r) ≡ not (is_some o)
gap-found (Found.Resident slot) o other place ended = absurd (other slot refl)
gap-found (Found.Remembered p) o other place ended = rw (← place) refl
gap-found (Found.Absent gap) o other place ended = rw (← place) (ended refl)

-- a key whose place is found is one of the keys
placed-any : {K : Type 0} (is : K → Bool) (ks : List K) (ps : List ℕ) (p : ℕ) → place_of is ks ps ≡ Some p → list_any is ks ≡ true
placed-any is [] ps p e = absurd (cc)
placed-any is (k ∷ ks) [] p e = absurd (cc)
placed-any is (k ∷ ks) (q ∷ ps) p e = grind (arith, placed-any is ks ps p)

any-counted : {X : Type 0} (is : X → Bool) (ks : List X) → list_any is ks ≡ true → 0 < count_by is ks
any-counted is [] e = absurd (cc)
any-counted is (k ∷ ks) e = grind (arith, sum_by-cons (λ x. cond (is x) 1 0) k ks, any-counted is ks)

-- a resident's slot is in one of the queues
pub either-queue : (q : QueueState) (slot : ℕ) → list_any (eqb slot) (queued_slots q) ≡ true → (list_any (eqb slot) (slots_of q.small) ≡ true) ⊎ (list_any (eqb slot) (slots_of q.main) ≡ true)
either-queue q slot there = grind (arith, list_any-append)

module _ {K V : Type 0} {eq : K → K → Bool} {hash : K → ℕ} {shares : Shares} {q : QueueState} {h : Remembered K} {index : List (List (ℕ × ℕ))} {keys : KeyPlaces K V} {free : List ℕ} {room : ℕ}
    (laws : IsEquivalence eq) (kept : IsCache eq hash shares q h index keys free room) where
  abbrev m : Machine K V
  m = machine_of shares q keys.entries h.entries free

  -- each candidate has a key
  pub candidates-there : (x : ℕ) → AllByRecursion (λ place. place < length keys.entries) (candidates index x)
  candidates-there x = candidates_there index keys.entries (queued_slots q) x kept.stored.indexed

  known_residents : (is : K → Bool) → count_by (λ (e : ℕ × K). is e.1) (entries_of keys.entries (queued_slots q)) ≤ count_by (λ e. is e.key) m.small + count_by (λ e. is e.key) m.main
  known_residents is = omega (
    arith,
    paired-counted keys.entries is (queued_slots q),
    ap (λ (z : List (K × ℕ)). count_by (λ r. is r.0) z) (residents-paired laws kept),
    counted_residents (λ k s. is k) m,
  )

  pub distinct : IsDistinct (λ d e. eq d.1 e.1) (entries_of keys.entries (queued_slots q))
  distinct = distinct-once eq laws (entries_of keys.entries (queued_slots q)) (λ k. omega (arith, known_residents (eq k), kept.whole.keys_once k))

  module _ (key : K) where
    slot-among : slot_of (eq key) m ≡ find (is_key_at eq key keys.entries) (queued_slots q)
    slot-among =
        ap (λ (z : List (K × ℕ)). option_map (λ (r : K × ℕ). r.1) (find (λ r. eq key r.0) z)) (residents-paired laws kept)
        ∙ paired-found (key_at keys.entries) (eq key) (is_key_at eq key keys.entries) (key-compares keys.entries eq key) (queued_slots q) (have_keys keys.entries (queued_slots q) kept.stored.made)

    -- what a lookup finds
    pub found : ((x y : K) → eq x y ≡ true → hash x ≡ hash y) → (hsh : ℕ) → hsh ≡ hash key → find (is_key_at eq key keys.entries) (candidates index hsh) ≡ slot_of (eq key) m
    found respects hsh is =
        let same = hashes-same eq hash key keys.entries (queued_slots q) respects kept.stored.hashed in
        grind (arith, lookup eq (hash key) key index keys.entries (queued_slots q) kept.stored.indexed same laws distinct, slot-among)

    -- a slot that is found is a resident's
    pub found-there : (slot : ℕ) → slot_of (eq key) m ≡ Some slot → (list_any (eqb slot) (queued_slots q) ≡ true) × (is_key_at eq key keys.entries slot ≡ true)
    found-there slot is = found_there (is_key_at eq key keys.entries) (queued_slots q) slot (sym is ∙ slot-among)

    pub found-queued : (slot : ℕ) → slot_of (eq key) m ≡ Some slot → (list_any (eqb slot) (slots_of q.small) ≡ true) ⊎ (list_any (eqb slot) (slots_of q.main) ≡ true)
    found-queued slot is = either-queue q slot (found-there slot is).0

    -- a key in the history is not a resident
    unresident : list_any (eq key) m.history ≡ true → None ≡ slot_of (eq key) m
    unresident remembered = of (slot_of (eq key) m) refl
      where
        of : (o : Option ℕ) → slot_of (eq key) m ≡ o → None ≡ o
        of None is = refl
        of (Some slot) is =
            let f = found-there slot is in
            let e = key_there eq key keys.entries slot f.1 in
            let resident = any-counted (λ (x : ℕ × K). eq key x.1) (entries_of keys.entries (queued_slots q)) (any_entry eq key keys.entries (queued_slots q) slot e.0 f.0 e.1 e.2) in
            absurd (omega (arith, kept.whole.keys_once key, resident, known_residents (eq key), any-counted (eq key) m.history remembered))

    -- what a lookup among both residents and remembered keys finds
    pub looked : ((x y : K) → eq x y ≡ true → hash x ≡ hash y) → (hsh : ℕ) → hsh ≡ hash key → (r : Found)
        → IfSome (found_slot r) (λ slot. find (is_key_at eq key keys.entries) (candidates index hsh) ≡ Some slot)
        → (found_slot r ≡ None → found_place r ≡ place_of (eq key) m.history h.places.taken)
        → (found_slot r ≡ None → found_place r ≡ None → find (is_key_at eq key keys.entries) (candidates index hsh) ≡ None)
        → found_slot r ≡ slot_of (eq key) m
    looked respects hsh is r at place absent = grind (arith, found, unresident, placed-any)

    pub found-made : (o : Option ℕ) → o ≡ slot_of (eq key) m → IfSome o (λ slot. slot < length m.values)
    found-made None is = tt
    found-made (Some slot) is = grind (arith, below_of (length keys.entries) (queued_slots q) kept.stored.made, found-there slot, length-values)

    -- whether a slot is the key's
    pub at-slot : (slot : ℕ) → is_at slot (slot_of (eq key) m) ≡ (list_any (eqb slot) (queued_slots q) && is_key_at eq key keys.entries slot)
    at-slot slot = of (slot_of (eq key) m) refl
      where
        of : (o : Option ℕ) → slot_of (eq key) m ≡ o → is_at slot o ≡ (list_any (eqb slot) (queued_slots q) && is_key_at eq key keys.entries slot)
        of None none = grind (arith, not_found, slot-among)
        of (Some p) some = grind (arith, found-there p some, same_place, distinct)

    pub at-places : (slot : ℕ) → list_any (eqb slot) (queued_slots q) ≡ true → is_key_at eq key keys.entries slot ≡ is_at slot (slot_of (eq key) m)
    at-places slot there = grind (arith, at-slot slot)

    pub not-at : (slot : ℕ) → list_any (eqb slot) (queued_slots q) ≡ false → None ≡ then_some (is_at slot (slot_of (eq key) m)) slot
    not-at slot absent = grind (arith, at-slot slot)

    pub slot-at : (slot : ℕ) → is_at slot (slot_of (eq key) m) ≡ true → slot_of (eq key) m ≡ Some slot
    slot-at slot h = grind (arith, eqb-true, slot_of)

    pub found-at : (slot : ℕ) (b : Bool) → b ≡ is_at slot (slot_of (eq key) m)
        → IfSome (then_some b slot) (λ found. slot_of (eq key) m ≡ Some found) × IfSome (then_some b slot) (λ found. found < length m.values)
    found-at slot b is = grind (arith, slot-at slot, found-made)

    -- a hit
    module _ (slot : ℕ) (is : slot_of (eq key) m ≡ Some slot) where
      key-there : (k : K) (t : ℕ) → list_any (eqb t) (queued_slots q) ≡ true → key_at keys.entries t ≡ Some k → eq key k ≡ eqb t slot
      key-there k t g at = grind (arith, key-compares, eqb-true, same_place eq laws key keys.entries (queued_slots q) distinct t slot, found-there slot is)

      module _ {q' : QueueState} (queues : q' ≡ record q { small = small_hit_at slot q.small; main = main_hit_at slot q.main }) where
        pub hit-machine : machine_of shares q' keys.entries h.entries free ≡ hit (eq key) m
        hit-machine = grind (arith, small-hit, main-hit, key-there, list_any-append, or_true, small_have laws kept, main_have laws kept)

        pub kept-hit : IsCache eq hash shares q' h index keys free room
        kept-hit =
            let small = slots_of-hit touched slot q.small in
            let main = slots_of-hit (λ b. true) slot q.main in
            let places : queued_slots q' ≡ queued_slots q = grind (arith, small, main) in
            record {
              whole = rw hit-machine (whole-hit eq m kept.whole (eq key));
              stored = rw places kept.stored;
              hashed = kept.hashed;
              linked = grind (arith, kept.linked);
              sized = grind (arith, sized-same, kept.sized);
            }
