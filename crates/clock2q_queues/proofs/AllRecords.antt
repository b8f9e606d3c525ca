-- The records and the flags of all slots, of which the first are in memory.
use Rattle.clock2q_queues.proofs.Names.{◌≡◌, ℕ, zero, suc, ◌+◌, ◌-◌, ◌<◌, ◌≤◌, Bool, true, false, List, [], ◌∷◌, ◌++◌, length, get_or, map, set, replicate, refl, sym, ap, ◌∙◌, arith, true≢false}
use Rattle.clock2q_queues.proofs.Names.{append_assoc, get_or-map, length-append, length-map, length-replicate, length-set, map-append, map-set, replicate-append-replicate, Flag, accessed, written}
use Rattle.clock2q_queues.proofs.Names.{all_flags, is_linked, says_linked, Record, all_records, location_at, record_at, vacant, RingState, ring_shown, ring_state, get_or-same}
use Rattle.clock2q_queues.proofs.Attaching.{with_change}

-- a list with the same item over and over at its end
module _ {X : Type 0} (d : X) where
  padded-set : (xs : List X) (n slot : ℕ) (x : X) → slot < length xs → set (xs ++ replicate n d) slot x ≡ set xs slot x ++ replicate n d
  padded-set [] n slot x l = absurd (omega (arith, l))
  padded-set (y ∷ xs) n zero x l = refl
  padded-set (y ∷ xs) n (suc slot) x l = ap (λ z. y ∷ z) (padded-set xs n slot x (omega (arith, l)))

  padded-push : (xs : List X) (n slot : ℕ) (x : X) → slot ≡ length xs → 0 < n → set (xs ++ replicate n d) slot x ≡ (xs ++ x ∷ []) ++ replicate (n - 1) d
  padded-push [] zero slot x is some = absurd (omega (arith, some))
  padded-push [] (suc n) zero x is some = ap (λ m. x ∷ replicate m d) (omega arith)
  padded-push [] (suc n) (suc slot) x is some = absurd (omega (arith, is))
  padded-push (y ∷ xs) n zero x is some = absurd (omega (arith, is))
  padded-push (y ∷ xs) n (suc slot) x is some = ap (λ z. y ∷ z) (padded-push xs n slot x (omega (arith, is)) some)

  padded-get : (xs : List X) (n slot : ℕ) → get_or (xs ++ replicate n d) slot d ≡ get_or xs slot d
  padded-get [] n slot = get_or-same n slot d
  padded-get (y ∷ xs) n zero = refl
  padded-get (y ∷ xs) n (suc slot) = padded-get xs n slot

  -- what passes a test that this item fails is in the list
  found-in : (test : X → Bool) → test d ≡ false → (xs : List X) (slot : ℕ) → test (get_or xs slot d) ≡ true → slot < length xs
  found-in test fails [] slot passes = absurd (true≢false (sym passes ∙ fails))
  found-in test fails (x ∷ xs) zero passes = omega arith
  found-in test fails (x ∷ xs) (suc slot) passes = omega (arith, found-in test fails xs slot passes)

-- a list of which only the first items are in memory, and any other is this one
module _ {X : Type 0} (d : X) (xs : List X) (slots : ℕ) where
  abbrev all : List X
  all = xs ++ replicate (slots - length xs) d

  pub all-at : (slot : ℕ) → get_or all slot d ≡ get_or xs slot d
  all-at slot = padded-get d xs (slots - length xs) slot

  pub length-all : length xs ≤ slots → length all ≡ slots
  length-all fit = omega (arith, fit, length-append xs (replicate (slots - length xs) d), length-replicate (slots - length xs) d)

  -- an item in memory is written
  pub all-set : (slot : ℕ) (x : X) → slot < length xs → set all slot x ≡ set xs slot x ++ replicate (slots - length (set xs slot x)) d
  all-set slot x within = padded-set d xs (slots - length xs) slot x within ∙ ap (λ n. set xs slot x ++ replicate (slots - n) d) (sym (length-set xs slot x))

  -- the first one that isn't comes into memory
  pub all-pushed : (slot : ℕ) (x : X) → slot ≡ length xs → slot < slots → set all slot x ≡ (xs ++ x ∷ []) ++ replicate (slots - length (xs ++ x ∷ [])) d
  all-pushed slot x is within = padded-push d xs (slots - length xs) slot x is (omega (arith, is, within))
      ∙ ap (λ n. (xs ++ x ∷ []) ++ replicate n d) (omega (arith, length-append xs (x ∷ [])))

  -- the same comes into memory as it was
  pub all-more : (k : ℕ) → length xs + k ≤ slots → (xs ++ replicate k d) ++ replicate (slots - length (xs ++ replicate k d)) d ≡ all
  all-more k fit = grind (arith, append_assoc, replicate-append-replicate, length-append, length-replicate)

-- the flag of a slot in a queue is in memory
pub flags-in : (fs : List Flag) (slots slot : ℕ) → says_linked (get_or (all_flags fs slots) slot Flag.Free) ≡ true → slot < length fs
flags-in fs slots slot linked = found-in Flag.Free says_linked refl fs slot (ap says_linked (sym (all-at Flag.Free fs slots slot)) ∙ linked)

-- a slot that is in a queue has a record
pub linked_within : (rs : List Record) (slot : ℕ) → is_linked (location_at rs slot) ≡ true → slot < length rs
linked_within rs slot linked = found-in vacant (λ (r : Record). is_linked r.held) refl rs slot linked

-- The entries in memory, as records

module _ {E : Type 0} (record_of : E → Record) (es : List E) (places : ℕ) where
  -- an entry in memory is read
  pub entry-read : (place : ℕ) (e : E) → place < length es → e ≡ get_or es place e → record_of e ≡ record_at (all_records (map record_of es) places) place
  entry-read place e within is = ap record_of is ∙ sym (get_or-map record_of es place e vacant within) ∙ sym (all-at vacant (map record_of es) places place)

  -- an entry in memory is written
  pub entry-written : (place : ℕ) (e : E) → place < length es → all_records (map record_of (set es place e)) places ≡ set (all_records (map record_of es) places) place (record_of e)
  entry-written place e within =
      ap (λ rs. all_records rs places) (map-set record_of es place e) ∙ sym (all-set vacant (map record_of es) places place (record_of e) (rw (length-map es record_of) within))

  -- a part of an entry in memory is written
  pub entry-changed : (place : ℕ) (was e : E) (change : Record → Record) → place < length es → was ≡ get_or es place was → record_of e ≡ change (record_of was)
      → all_records (map record_of (set es place e)) places ≡ with_change (all_records (map record_of es) places) place change
  entry-changed place was e change within is changes =
      entry-written place e within ∙ ap (λ r. set (all_records (map record_of es) places) place r) (changes ∙ ap change (entry-read place was within is))

  -- the first place whose entry isn't in memory gets one
  pub entry-made : (place : ℕ) (e : E) → place ≡ length es → place < places → all_records (map record_of (es ++ e ∷ [])) places ≡ set (all_records (map record_of es) places) place (record_of e)
  entry-made place e is within = ap (λ rs. all_records rs places) (map-append record_of es (e ∷ []))
      ∙ sym (all-pushed vacant (map record_of es) places place (record_of e) (is ∙ sym (length-map es record_of)) within)

  -- a vacant one comes into memory
  pub entry-vacant : (e : E) → record_of e ≡ vacant → length es < places → all_records (map record_of (es ++ e ∷ [])) places ≡ all_records (map record_of es) places
  entry-vacant e is within = ap (λ rs. all_records rs places) (map-append record_of es (e ∷ [])) ∙ ap (λ r. all_records (map record_of es ++ r ∷ []) places) is
      ∙ all-more vacant (map record_of es) places 1 (omega (arith, within, length-map es record_of))

  -- the same, as the ring shows it
  pub ring-changed : (place a b : ℕ) (was e : E) (change : Record → Record) (now : RingState) → ring_shown (map record_of es) places a ≡ now → place < now.made
      → was ≡ get_or es place was → record_of e ≡ change (record_of was) → b ≡ a + 1 + 1
      → ring_shown (map record_of (set es place e)) places b ≡ ring_state (accessed (written place (change (record_at now.cells.items place)) now.cells)) now.made
  ring-changed place a b was e change now shown within is changes counted =
      let in_es : place < length es = omega (arith, within, ap (λ (z : RingState). z.made) shown, length-map es record_of) in
      rw (← shown) (rw (entry-changed place was e change in_es is changes, length-map (set es place e) record_of, length-set es place e, length-map es record_of, counted) refl)
