-- The keys by slot and their index, after a key enters or replaces another.
use Rattle.clock2q_cache.proofs.Names.{◌≡◌, ℕ, zero, suc, ◌<◌, ◌≤◌, true, false, eqb, Some, None, List, [], ◌∷◌, length, ap, sym, ◌∙◌, arith, subst, slice_get, AllByRecursion, with_handle, without_handle, Entry, without, entry, written, hash_at, key_at, eqb_self, below_of, among-without, among-without_test, below-among, below-more, and_true, and_false, some_is, length-written, slice_get_some, all-written, hash_at-own, hash_at-others, IsIndex-put, IsIndex-taken, length-taken, IsStored, list_any, IsDistinct, length-without}
use Rattle.clock2q_cache.proofs.WithKeys.{HaveKeys}

-- what holds of all holds of the one at a place
pub all-at : {X : Type 0} (P : X → Type 0) (es : List X) (slot : ℕ) (e : X) → AllByRecursion P es → slice_get es slot ≡ Some e → P e
all-at P [] slot e a h = absurd (cc)
all-at P (x ∷ xs) zero e a h = subst P (some_is x e h) a.0
all-at P (x ∷ xs) (suc slot) e a h = all-at P xs slot e a.1 h

module _ {K V : Type 0} where
  pub have_keys : (entries : List (Entry K V)) (places : List ℕ) → AllByRecursion (λ s. s < length entries) places → HaveKeys (key_at entries) places
  have_keys entries places b t h =
      let e = slice_get_some entries t (below_of (length entries) places b t h) in
      (e.0.key, ap (λ z. elim z [ None ↦ None | Some e ↦ Some e.key ]) e.1)

module _ {K V : Type 0} (hash : K → ℕ) where
  -- the same places in another order
  pub stored-same : (index : List (List (ℕ × ℕ))) (entries : List (Entry K V)) (places places' : List ℕ) → IsStored hash index entries places
      → ((t : ℕ) → list_any (eqb t) places' ≡ list_any (eqb t) places) → length places' ≡ length places → IsStored hash index entries places'
  stored-same index entries places places' i same as_many = grind (arith, below-among (length entries) places' (λ t g. below_of (length entries) places i.made t (sym (same t) ∙ g)), i.indexed.once, i.indexed.counted, i.hashed)

  -- a key enters at a slot
  pub stored-entered : (index : List (List (ℕ × ℕ))) (entries : List (Entry K V)) (places : List ℕ) (slot : ℕ) (key : K) (value : V)
      → IsStored hash index entries places → 0 < length index → list_any (eqb slot) places ≡ false → slot ≤ length entries
      → IsStored hash (with_handle index (hash key) slot) (written slot (entry (hash key) key value) entries) (slot ∷ places)
  stored-entered index entries places slot key value i some absent next =
      grind (
        arith,
        length-written,
        below-more (length entries) (length (written slot (entry (hash key) key value) entries)) places,
        i.made,
        IsIndex-put index entries (written slot (entry (hash key) key value) entries) places slot (hash key) i.indexed some absent,
        hash_at-others slot (hash key) key value entries next places absent,
        hash_at-own slot (hash key) key value entries next,
        all-written (λ (e : Entry K V). e.hash ≡ hash e.key) slot,
        i.hashed,
      )

  -- a resident's slot leaves the index
  pub stored-left : (index : List (List (ℕ × ℕ))) (entries : List (Entry K V)) (places : List ℕ) (slot old : ℕ)
      → IsStored hash index entries places → 0 < length index → IsDistinct eqb places → hash_at entries slot ≡ Some old
      → IsStored hash (without_handle eqb index old slot) entries (without slot places)
  stored-left index entries places slot old i some apart at =
      let made = below-among (length entries) (without slot places) (λ t g. below_of (length entries) places i.made t (among-without t slot places g).0) in
      record { made = made; indexed = IsIndex-taken index entries places slot old i.indexed some apart at; hashed = i.hashed }

  -- a key takes the place of a resident
  pub stored-renewed : (index : List (List (ℕ × ℕ))) (entries : List (Entry K V)) (places : List ℕ) (slot old : ℕ) (key : K) (value : V)
      → IsStored hash index entries places → 0 < length index → IsDistinct eqb places → list_any (eqb slot) places ≡ true → hash_at entries slot ≡ Some old
      → IsStored hash (with_handle (without_handle eqb index old slot) (hash key) slot) (written slot (entry (hash key) key value) entries) places
  stored-renewed index entries places slot old key value i some apart there at =
      let l = stored-left index entries places slot old i some apart at in
      let gone : list_any (eqb slot) (without slot places) ≡ false = grind (arith, among-without_test, eqb_self, and_false) in
      let below : slot < length entries = below_of (length entries) places i.made slot there in
      let e = stored-entered (without_handle eqb index old slot) entries (without slot places) slot key value l (grind (arith, length-taken index old slot)) gone (omega (arith, below)) in
      stored-same _ _ _ places e (λ t. grind (arith, among-without_test, and_true)) (grind (arith, length-without slot places apart there))

-- a key at a place has its hash there
pub hash-of-key : {K V : Type 0} (hash : K → ℕ) (entries : List (Entry K V)) (t old : ℕ) (key : K)
    → AllByRecursion (λ e. e.hash ≡ hash e.key) entries → hash_at entries t ≡ Some old → key_at entries t ≡ Some key → old ≡ hash key
hash-of-key hash entries t old key a h k = grind (arith, all-at (λ e. e.hash ≡ hash e.key) entries t)
