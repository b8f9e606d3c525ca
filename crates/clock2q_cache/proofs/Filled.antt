-- Slots that were never made are made, and are free.
use Rattle.clock2q_cache.proofs.Names.{◌≡◌, ℕ, suc, ◌+◌, ◌-◌, ◌<◌, Bool, true, Option, Some, None, slice_get, List, [], ◌∷◌, ◌++◌, map, length, reverse, refl, ap, ◌∙◌, arith, length-append, ◌||◌, eqb, made_below, length-values, IsEquivalence, Mut, Called, AllByRecursion, range_with_len, append-nil, append_assoc, map-append, reverse-append, reverse-reverse, or_true, Entry, KeyPlaces, entry, key_at, QueueState, slots_of, Remembered, list_any-append, below_of, below-among, IsIndex-kept, FillsUp, Shares, Machine, prefilled, machine_of, queued_slots, IsCache, lasting-prefilled, get-append, list_any, FoldsTo-push}
use Rattle.clock2q_cache.proofs.WithKeys.{small_with, main_with, keys-agree}
use Rattle.clock2q_cache.proofs.CacheInvariant.{sized-same}

all-append : {X : Type 0} (P : X → Type 0) (xs ys : List X) → AllByRecursion P xs → AllByRecursion P ys → AllByRecursion P (xs ++ ys)
all-append P [] ys a b = b
all-append P (x ∷ xs) ys a b = (a.0, all-append P xs ys a.1 b)

-- one more slot is freed, below the others
pub freed-more : (free : List ℕ) (slot to : ℕ) → slot < to → (free ++ reverse (range_with_len (slot + 1) (to - (slot + 1)))) ++ slot ∷ [] ≡ free ++ reverse (range_with_len slot (to - slot))
freed-more free slot to h =
    let n : to - slot ≡ suc (to - (slot + 1)) = omega (arith, h) in
    grind (arith, n, append_assoc free (reverse (range_with_len (slot + 1) (to - (slot + 1)))) (slot ∷ []), reverse-append (slot ∷ []) (range_with_len (slot + 1) (to - (slot + 1))))

module _ {F K V : Type 0} {g : Mut F Unit V} {f : F} {hash : K → ℕ} {old : List (Entry K V)} where
  pub FillsUp-none : {n : ℕ} → n ≡ length old → FillsUp g f hash n old old f
  FillsUp-none h = grind (arith, append-nil)

  pub FillsUp-more : {n : ℕ} {now : List (Entry K V)} {p : F} {h : ℕ} {key : K} {value : V} {last : F} → FillsUp g f hash n old now p
      → h ≡ hash key → Called g p tt value last → FillsUp g f hash (n + 1) old (now ++ entry h key value ∷ []) last
  FillsUp-more {n} {now} {p} {h} {key} {value} {last} s is called = record {
    added = s.added ++ entry h key value ∷ [];
    is = grind (arith, s.is, append_assoc);
    as_many = omega (arith, s.as_many, length-append s.added (entry h key value ∷ []));
    hashed = all-append (λ e. e.hash ≡ hash e.key) s.added (entry h key value ∷ []) s.hashed (is, tt);
    called = rw (map-append (λ (e : Entry K V). e.value) s.added (entry h key value ∷ [])) (FoldsTo-push (λ p value q. Called g p tt value q) f (map (λ (e : Entry K V). e.value) s.added) p value last s.called called);
  }

  -- there are as many entries as asked for
  pub FillsUp-length : {n : ℕ} {now : List (Entry K V)} {p : F} → FillsUp g f hash n old now p → length now ≡ n
  FillsUp-length s = grind (arith, s.is, length-append, s.as_many)

module _ {K V : Type 0} {eq : K → K → Bool} {hash : K → ℕ} {shares : Shares} {q : QueueState} {h : Remembered K} {index : List (List (ℕ × ℕ))} {keys : KeyPlaces K V} {free : List ℕ} {room : ℕ}
    (laws : IsEquivalence eq) (kept : IsCache eq hash shares q h index keys free room)
    (added : List (Entry K V)) (keys' : KeyPlaces K V) (free' : List ℕ) (room' : ℕ)
    (is : keys'.entries ≡ keys.entries ++ added) (as_many : length keys.entries + length added ≡ shares.capacity)
    (freed : free' ≡ free ++ reverse (range_with_len (length keys.entries) (shares.capacity - length keys.entries))) where
  abbrev m : Machine K V
  m = machine_of shares q keys.entries h.entries free

  abbrev made : List V
  made = map (λ e. e.value) added

  pub made-count : length m.values + length made ≡ shares.capacity
  made-count = omega (arith, as_many, length-values keys.entries, length-values added)

  -- the entries that were there are where they were
  before : {Y : Type 0} (f : Option (Entry K V) → Y) (t : ℕ) → list_any (eqb t) (queued_slots q) ≡ true → f (slice_get (keys.entries ++ added) t) ≡ f (slice_get keys.entries t)
  before f t g = ap f (get-append keys.entries added t (below_of (length keys.entries) (queued_slots q) kept.stored.made t g))

  key-before : (t : ℕ) → (list_any (eqb t) (slots_of q.small) || list_any (eqb t) (slots_of q.main)) ≡ true → key_at (keys.entries ++ added) t ≡ key_at keys.entries t
  key-before t g = before (λ z. elim z [ None ↦ None | Some e ↦ Some e.key ]) t (list_any-append (eqb t) (slots_of q.small) (slots_of q.main) ∙ g)

  pub machine-prefilled : machine_of shares q keys'.entries h.entries free' ≡ prefilled made m
  machine-prefilled =
      let small = keys-agree small_with (key_at keys.entries) (key_at keys'.entries) q.small in
      let main = keys-agree main_with (key_at keys.entries) (key_at keys'.entries) q.main in
      grind (arith, small, main, key-before, or_true, map-append (λ (e : Entry K V). e.value) keys.entries added, length-values, reverse-append, reverse-reverse)

  pub kept-prefilled : {links : ℕ} {q' : QueueState} → q' ≡ record q { made = made_below shares.capacity q.made; accesses = links }
      → AllByRecursion (λ e. e.hash ≡ hash e.key) added → keys'.room ≡ keys.room → room' ≡ room → IsCache eq hash shares q' h index keys' free' room'
  kept-prefilled {q' = q'} linked hashed keys_room free_room = rw linked (record {
    whole = rw machine-prefilled (lasting-prefilled eq laws made m (omega (arith, made-count)) kept.whole);
    stored = rw is (record {
      made = below-among (length (keys.entries ++ added)) (queued_slots q) (λ t g. omega (arith, below_of (length keys.entries) (queued_slots q) kept.stored.made t g, length-append keys.entries added));
      indexed = IsIndex-kept index keys.entries (keys.entries ++ added) (queued_slots q) (before (λ z. elim z [ None ↦ None | Some e ↦ Some e.hash ])) kept.stored.indexed;
      hashed = all-append (λ e. e.hash ≡ hash e.key) keys.entries added kept.stored.hashed hashed;
    });
    hashed = kept.hashed;
    linked = grind (arith, is, length-append keys.entries added, as_many);
    sized = sized-same kept.sized refl refl refl refl refl keys_room free_room;
  })
