-- A place for a new key in the history.
use Rattle.clock2q_directory.proofs.Names.{◌≡◌, ℕ, suc, ◌+◌, ◌-◌, ◌<◌, ◌≤◌, max, true, false, eqb, Option, Some, None, List, [], ◌∷◌, ◌++◌, length, take, drop, take_all, refl, sym, ap, ◌∙◌, subst, arith, if◌then◌else◌, last_or, cons_option, list_any, IsDistinct, lt-ltb, le-ltb, list_any-append, Entry, without, Rises, candidates, without_handle, IndexState, remembered_at, forgotten_at, PlaceOrder, IsWholeOrder, used, next_place, place_for, hash_at, hashed_at, entries_of, IsIndex, MakesPlace, places_with, places_from, oldest_hash, taking_free, taking_oldest, or_true, and_false, eqb_self, IsDistinct-left, AllByRecursion-left, below_of, without-parted, among-without_test, split_last, length-without, FitsNext, FitsNext-from, take_front}
use Rattle.std.proofs.lemmas.List.{append-nil}
use Rattle.clock2q_directory.specs.Index as known
use Rattle.clock2q_directory.proofs.Entries.{hashed_there, hash_of_hashed}
use Rattle.clock2q_directory.proofs.Indexes.{IsIndex-removed, named-own}
use Rattle.clock2q_directory.proofs.Views.{places-forgotten, slots-forgotten, forgotten-like}

last_taken : (ps : List ℕ) (p : ℕ) → last_or None ps ≡ Some p → IsDistinct eqb ps → (without p ps ≡ take (length ps - 1) ps) × (list_any (eqb p) ps ≡ true)
last_taken [] p e a = absurd (cc)
last_taken (s ∷ ss) p e a =
    let q = split_last ss s p e in
    let xs = q.0 in
    let w : without p (s ∷ ss) ≡ xs = ap (λ z. without p z) q.1 ∙ without-parted xs p [] (subst (λ z. IsDistinct eqb z) q.1 a) ∙ append-nil xs in
    let front : take (length (s ∷ ss) - 1) (s ∷ ss) ≡ xs = ap (λ (z : List ℕ). take (length z - 1) z) q.1 ∙ take_front xs p in
    let there : list_any (eqb p) (xs ++ p ∷ []) ≡ true = list_any-append (eqb p) xs (p ∷ []) ∙ rw (eqb_self p) (or_true (list_any (eqb p) xs)) in
    (w ∙ sym front, subst (λ z. list_any (eqb p) z ≡ true) (sym q.1) there)

gone : (p : ℕ) (ps : List ℕ) → list_any (eqb p) (without p ps) ≡ false
gone p ps = among-without_test p p ps ∙ rw (eqb_self p) (and_false (list_any (eqb p) ps))

used_next : (ps fs : List ℕ) → place_for (length ps) fs < suc (length ps) + length (drop 1 fs)
    → (place_for (length ps) fs ≤ length ps + length fs) × (suc (length ps) + length (drop 1 fs) ≡ max (length ps + length fs) (place_for (length ps) fs + 1))
used_next ps [] h = (omega arith, omega arith)
used_next ps (f ∷ fs) h = (omega (arith, h), omega (arith, h))

module _ {K V : Type 0} (keys : List (Entry K V)) where
  -- the last place's entry is the last one
  last-entry : (o : Option (ℕ × K)) (s : ℕ) (ps : List ℕ) (p : ℕ) (e : ℕ × K) → hashed_at keys p ≡ Some e → last_or None (s ∷ ps) ≡ Some p → last_or o (entries_of keys (s ∷ ps)) ≡ Some e
  last-entry o s [] p e at last =
      let q : s ≡ p = cc in
      ap (λ z. last_or o (cons_option z [])) (ap (λ z. hashed_at keys z) q ∙ at)
  last-entry o s (t ∷ ps) p e at last = of (hashed_at keys s) (λ z. last-entry z t ps p e at last)
    where
      of : (h : Option (ℕ × K)) → ((z : Option (ℕ × K)) → last_or z (entries_of keys (t ∷ ps)) ≡ Some e) → last_or o (cons_option h (entries_of keys (t ∷ ps))) ≡ Some e
      of None later = later o
      of (Some x) later = later (Some x)

  oldest-is : (ps : List ℕ) (p hash : ℕ) → last_or None ps ≡ Some p → p < length keys → hash_at keys p ≡ Some hash → oldest_hash (λ (e : ℕ × K). e.0) (entries_of keys ps) ≡ hash
  oldest-is [] p hash last there at = absurd (cc)
  oldest-is (s ∷ ps) p hash last there at =
      let e = hashed_there keys p there in
      let same : e.0.0 ≡ hash = let q = hash_of_hashed keys p e.0 e.1 in cc in
      ap (λ z. elim z [ None ↦ 0 | Some k ↦ k.0 ]) (last-entry None s ps p e.0 e.1 last) ∙ same

module _ {K V : Type 0} {order : PlaceOrder} {keys : List (Entry K V)} {place : ℕ} (w : IsWholeOrder order) where
  -- the index has the oldest place under the hash of its key
  pub oldest_held : {homes : List (List (ℕ × ℕ))} {hash : ℕ} → IsIndex homes keys order.places → last_or None order.places ≡ Some place → hash_at keys place ≡ Some hash
      → list_any (eqb place) (candidates homes hash) ≡ true
  oldest_held {homes} {hash} i last at =
      let there = (last_taken order.places place last (IsDistinct-left order.places order.free w.apart)).1 in
      i.listed hash place ∙ rw (there, named-own homes keys hash place at) refl

-- the place for the next key was used before, or is the next one
pub place-next : (order : PlaceOrder) (place : ℕ) → IsWholeOrder order → length order.places < order.limit → place ≡ next_place order → place ≤ used order
place-next order place w room is =
    let n : place_for (length order.places) order.free < suc (length order.places) + length (drop 1 order.free) =
    (FitsNext-from order.limit order.places order.free w.apart w.below w.within room).below.0 in
    rw is (used_next order.places order.free n).0

module _ {K V : Type 0} {index : IndexState} {order order' : PlaceOrder} {keys : List (Entry K V)} {place : ℕ}
    (i : IsIndex (known.places index) keys order.places) (as_many : length keys ≡ used order) (w : IsWholeOrder order) where
  pub MakesPlace-new : length order.places < order.limit → place ≡ next_place order
      → order' ≡ record order { places = place ∷ order.places; free = drop 1 order.free; accesses = order'.accesses }
      → Rises 1 7 order.accesses order'.accesses → MakesPlace index index order order' keys place
  MakesPlace-new room is ordered accesses =
      let places = ap (λ (z : PlaceOrder). z.places) ordered in
      let free = ap (λ (z : PlaceOrder). z.free) ordered in
      let n : FitsNext order.limit place order.places order.free =
      subst (λ z. FitsNext order.limit z order.places order.free) (sym is) (FitsNext-from order.limit order.places order.free w.apart w.below w.within room) in
      let u = used_next order.places order.free (subst (λ z. z < suc (length order.places) + length (drop 1 order.free)) is n.below.0) in
      let all : take (order.limit - 1) order.places ≡ order.places = take_all (order.limit - 1) order.places (omega (arith, room)) in
      let counts : used order' ≡ suc (length order.places) + length (drop 1 order.free) =
      ap (λ (z : List ℕ). length z + length order'.free) places ∙ ap (λ (z : List ℕ). suc (length order.places) + length z) free in
      record {
        places = places ∙ ap (λ zs. place ∷ zs) (sym all);
        absent = ap (λ zs. list_any (eqb place) zs) all ∙ n.absent;
        indexed = subst (λ zs. IsIndex (known.places index) keys zs) (sym all) i;
        slots = refl;
        shared = refl;
        as_many = refl;
        next = rw is (rw as_many u.0);
        below = n.fits;
        used_now = counts ∙ u.1 ∙ ap (λ z. max z (place_for (length order.places) order.free + 1)) (sym as_many) ∙ ap (λ z. max (length keys) (z + 1)) (sym is);
        limit = ap (λ (z : PlaceOrder). z.limit) ordered;
        accesses = accesses;
        placed = λ hash slot.
            let p = places_from index order in
            let oldest = oldest_hash (λ (e : ℕ × K). e.0) (entries_of keys order.places) in
            ap (λ z. places_with (remembered_at hash slot place index) z order'.free) places
            ∙ ap (λ z. places_with (remembered_at hash slot place index) (place ∷ order.places) z) free
            ∙ ap (λ z. places_with (remembered_at hash slot z index) (z ∷ order.places) (drop 1 order.free)) is
            ∙ sym (ap (λ b. if b then taking_free hash slot p else taking_oldest hash slot oldest (last_or None order.places) p) (lt-ltb (length order.places) order.limit room));
      }

  pub MakesPlace-oldest : {hash : ℕ} → order.limit ≤ length order.places → last_or None order.places ≡ Some place
      → order' ≡ record order { places = place ∷ take (length order.places - 1) order.places; accesses = order.accesses + 1 }
      → hash_at keys place ≡ Some hash → MakesPlace index (forgotten_at hash place index) order order' keys place
  MakesPlace-oldest {hash} full last ordered at =
      let places = ap (λ (z : PlaceOrder). z.places) ordered in
      let free = ap (λ (z : PlaceOrder). z.free) ordered in
      let spent = ap (λ (z : PlaceOrder). z.accesses) ordered in
      let apart = IsDistinct-left order.places order.free w.apart in
      let l = last_taken order.places place last apart in
      let there : place < length keys = rw as_many (below_of (used order) order.places (AllByRecursion-left (used order) order.places order.free w.below) place l.1) in
      let n : order.limit ≡ length order.places = omega (arith, full, w.within) in
      let front : without place order.places ≡ take (order.limit - 1) order.places = l.0 ∙ ap (λ z. take (z - 1) order.places) (sym n) in
      let counts : used order' ≡ suc (length (take (order.limit - 1) order.places)) + length order.free = ap (λ (z : List ℕ). length z + length order'.free) places
      ∙ ap (λ (z : List ℕ). suc (length (take (length order.places - 1) order.places)) + length z) free ∙ ap (λ z. suc (length (take (z - 1) order.places)) + length order.free) (sym n) in
      let like = forgotten-like index hash place in
      let left : length (take (order.limit - 1) order.places) + 1 ≡ length order.places = ap (λ (z : List ℕ). length z + 1) (sym front) ∙ length-without place order.places apart l.1 in
      record {
        places = places ∙ ap (λ z. place ∷ take (z - 1) order.places) (sym n);
        absent = ap (λ zs. list_any (eqb place) zs) (sym front) ∙ gone place order.places;
        indexed =
            subst (λ z. IsIndex z keys (take (order.limit - 1) order.places)) (sym (places-forgotten index hash place))
            (subst (λ zs. IsIndex (without_handle eqb (known.places index) hash place) keys zs) front (IsIndex-removed (known.places index) keys order.places place hash i apart at));
        slots = slots-forgotten index hash place;
        shared = like.shared;
        as_many = like.places;
        next = omega (arith, there);
        below = omega (arith, there, as_many, w.within);
        used_now = omega (arith, counts, left, as_many, there);
        limit = ap (λ (z : PlaceOrder). z.limit) ordered;
        accesses = (omega (arith, spent), omega (arith, spent));
        placed = λ new slot.
            let p = places_from index order in
            let oldest = oldest_hash (λ (e : ℕ × K). e.0) (entries_of keys order.places) in
            let front' = take (length order.places - 1) order.places in
            ap (λ z. places_with (remembered_at new slot place (forgotten_at hash place index)) z order'.free) places
            ∙ ap (λ z. places_with (remembered_at new slot place (forgotten_at hash place index)) (place ∷ front') z) free
            ∙ ap (λ z. places_with (remembered_at new slot place (forgotten_at z place index)) (place ∷ front') order.free) (sym (oldest-is keys order.places place hash last there at))
            ∙ ap (λ z. taking_oldest new slot oldest z p) (sym last)
            ∙ sym (ap (λ b. if b then taking_free new slot p else taking_oldest new slot oldest (last_or None order.places) p) (le-ltb (length order.places) order.limit full));
      }
