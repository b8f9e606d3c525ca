-- The slots and the places of an index, and how each of its calls changes them.
use Rattle.clock2q_directory.proofs.Names.{◌≡◌, ℕ, zero, suc, ◌+◌, ◌-◌, ◌%◌, ◌<◌, Bool, true, false, not, ◌&&◌, ◌||◌, if◌then◌else◌, eqb, ltb, Some, List, [], ◌∷◌, ◌++◌, length, map, set, get_or, inl, inr, refl, sym, ap, ◌∙◌, subst, arith, append-nil, ne_eqb, filter, list_any, IsDistinct, both_ways, cases_Bool, cases_eq, eqb-false, append_assoc, length-append, length-map, map-set, nil_from_length, set-get_or, filter-append, sum_by-cons, list_any-append, top, home, listed, total, candidates, with_list, with_handle, without_handle, without_first, is_entry_of, with_first, handle_replaced, with_top, length-with_list, listed-with_same, listed-with_other, total-with_list, Entry, hash_at, IsIndex, most_changed, IndexState, first_remembered, is_shared, slots, places, entered, left, remembered_at, forgotten_at, slots_among, places_among, slot_entries, place_entries, slots_in, places_in, and_parts, IsDistinct-append, IsDistinct-left, IsDistinct-right, IsDistinct-turned, apart_from}
use Rattle.std.proofs.Common.{eqb-true, eq-eqb, lt-ltb, le-ltb, ltb-false}
use Rattle.clock2q_directory.proofs.Indexes.{any-candidate, named-length, length-put, length-taken, total-put, IsIndex-put}

-- Lists of which some elements are kept

module _ {E : Type 0} (keep test : E → Bool) where
  -- one that is kept may be taken out before or after
  kept-without_first : ((e : E) → test e ≡ true → keep e ≡ true) → (es : List E) → filter keep (without_first test es) ≡ without_first test (filter keep es)
  kept-without_first kept [] = refl
  kept-without_first kept (e ∷ es) = grind (arith, kept-without_first kept es)

  -- taking out one that isn't kept doesn't change those kept
  lost-without_first : ((e : E) → test e ≡ true → keep e ≡ false) → (es : List E) → filter keep (without_first test es) ≡ filter keep es
  lost-without_first lost [] = refl
  lost-without_first lost (e ∷ es) = grind (arith, lost-without_first lost es)

  -- putting one that isn't kept in its place is the same as taking it out
  kept-with_first : (new : E) → keep new ≡ false → ((e : E) → test e ≡ true → keep e ≡ true) → (es : List E) → filter keep (with_first test new es) ≡ without_first test (filter keep es)
  kept-with_first new none kept [] = refl
  kept-with_first new none kept (e ∷ es) = grind (arith, kept-with_first new none kept es)

  -- one that is among those kept is among all
  any-kept : (es : List E) → list_any test (filter keep es) ≡ true → list_any test es ≡ true
  any-kept [] h = h
  any-kept (e ∷ es) h = elim (cases_Bool (test e)) [
    | inl t ↦ rw t refl
    | inr t ↦ elim (cases_Bool (keep e)) [
      | inl k ↦ rw t (any-kept es (rw (k, t) at h))
      | inr k ↦ rw t (any-kept es (rw k at h))
    ]
  ]

-- The entries with slots, and those with places

slot_is_below : (x s : ℕ) → s < first_remembered → (e : ℕ × ℕ) → is_entry_of eqb x s e ≡ true → ltb e.1 first_remembered ≡ true
slot_is_below x s below e h = let q : e.1 ≡ s = eqb-true e.1 s (and_parts _ _ h).1 in rw q (lt-ltb s first_remembered below)

slot_is_no_place : (x s : ℕ) → s < first_remembered → (e : ℕ × ℕ) → is_entry_of eqb x s e ≡ true → not (ltb e.1 first_remembered) ≡ false
slot_is_no_place x s below e h = ap not (slot_is_below x s below e h)

pub place_is_past : (p : ℕ) → ltb (first_remembered + p) first_remembered ≡ false
place_is_past p = le-ltb (first_remembered + p) first_remembered (omega arith)

place_is_no_slot : (x p : ℕ) (e : ℕ × ℕ) → is_entry_of eqb x (first_remembered + p) e ≡ true → ltb e.1 first_remembered ≡ false
place_is_no_slot x p e h = let q : e.1 ≡ first_remembered + p = eqb-true e.1 (first_remembered + p) (and_parts _ _ h).1 in rw q (place_is_past p)

-- a handle past the slots is a place's if it is that place past them
pub place_of : (h p : ℕ) → ltb h first_remembered ≡ false → eqb h (first_remembered + p) ≡ eqb (h - first_remembered) p
place_of h p past = grind (arith, ltb-false, eqb-true, eq-eqb, ne_eqb, eqb-false)

pub place_back : (p : ℕ) → first_remembered + p - first_remembered ≡ p
place_back p = omega arith

-- taking a place's handle out of the entries takes the place out of the places
places-without_first : (x p : ℕ) (es : List (ℕ × ℕ)) → place_entries (without_first (is_entry_of eqb x (first_remembered + p)) es) ≡ without_first (is_entry_of eqb x p) (place_entries es)
places-without_first x p [] = refl
places-without_first x p (e ∷ es) = grind (arith, places-without_first x p es, place_is_no_slot, place_of)

places-slot_added : (x s : ℕ) (es : List (ℕ × ℕ)) → s < first_remembered → place_entries (es ++ (top x, s) ∷ []) ≡ place_entries es
places-slot_added x s es below = grind (arith, lt-ltb, filter-append, append-nil)

slots-slot_added : (x s : ℕ) (es : List (ℕ × ℕ)) → s < first_remembered → slot_entries (es ++ (top x, s) ∷ []) ≡ slot_entries es ++ (top x, s) ∷ []
slots-slot_added x s es below = grind (arith, lt-ltb, filter-append)

-- a place that is put in for a slot goes between the places before it and those after it
pub record IsPutBetween (x p : ℕ) (es es' : List (ℕ × ℕ)) : Type 0 where
  pub before : List (ℕ × ℕ)
  pub after : List (ℕ × ℕ)
  pub old : place_entries es ≡ before ++ after
  pub new : place_entries es' ≡ before ++ (top x, p) ∷ after

put_between : (x s p : ℕ) (es : List (ℕ × ℕ)) → s < first_remembered → list_any (is_entry_of eqb x s) es ≡ true
    → IsPutBetween x p es (with_first (is_entry_of eqb x s) (top x, first_remembered + p) es)
put_between x s p [] below h = absurd (both_ways false refl h)
put_between x s p (e ∷ es) below h = elim (cases_Bool (is_entry_of eqb x s e)) [
  | inl t ↦ record {
    before = [];
    after = place_entries es;
    old = let b : ltb e.1 first_remembered ≡ true = slot_is_below x s below e t in rw b refl;
    new = rw (t, place_is_past p, place_back p) refl;
  }
  | inr t ↦
      let rest = put_between x s p es below (rw t at h) in
      elim (cases_Bool (ltb e.1 first_remembered)) [
        | inl b ↦ record {
          before = rest.before;
          after = rest.after;
          old = rw b rest.old;
          new = rw (t, b) rest.new;
        }
        | inr b ↦ record {
          before = (e.0, e.1 - first_remembered) ∷ rest.before;
          after = rest.after;
          old = rw b (ap (λ zs. (e.0, e.1 - first_remembered) ∷ zs) rest.old);
          new = rw (t, b) (ap (λ zs. (e.0, e.1 - first_remembered) ∷ zs) rest.new);
        }
      ]
]

-- A view of each home's list

module _ {E F : Type 0} (view : List E → List F) (empty : view [] ≡ []) where
  get_or-view : (homes : List (List E)) (i : ℕ) → get_or (map view homes) i [] ≡ view (get_or homes i [])
  get_or-view [] i = sym empty
  get_or-view (es ∷ homes) zero = refl
  get_or-view (es ∷ homes) (suc i) = get_or-view homes i

  pub listed-view : (homes : List (List E)) (x : ℕ) → listed (map view homes) x ≡ view (listed homes x)
  listed-view homes x = ap (λ n. get_or (map view homes) (x % n) []) (length-map homes view) ∙ get_or-view homes (home homes x)

  pub view-with_list : (homes : List (List E)) (x : ℕ) (es : List E) → map view (with_list homes x es) ≡ with_list (map view homes) x (view es)
  view-with_list homes x es = map-set view homes (home homes x) es ∙ ap (λ n. set (map view homes) (x % n) (view es)) (sym (length-map homes view))

  -- a list whose view is unchanged
  pub view-unseen : (homes : List (List E)) (x : ℕ) (es : List E) → view es ≡ view (listed homes x) → map view (with_list homes x es) ≡ map view homes
  view-unseen homes x es same =
      view-with_list homes x es ∙ ap (λ zs. with_list (map view homes) x zs) (same ∙ sym (listed-view homes x)) ∙ set-get_or (map view homes) (home (map view homes) x) []

-- Lookups

top-slots : (x : ℕ) (es : List (ℕ × ℕ)) → with_top x (slot_entries es) ≡ slots_among (with_top x es)
top-slots x [] = refl
top-slots x (e ∷ es) = grind (arith, top-slots x es)

top-places : (x : ℕ) (es : List (ℕ × ℕ)) → with_top x (place_entries es) ≡ places_among (with_top x es)
top-places x [] = refl
top-places x (e ∷ es) = grind (arith, top-places x es)

-- a lookup's slots and places are those of the views
pub candidates-slots : (v : IndexState) (x : ℕ) → candidates (slots v) x ≡ slots_among (candidates v.shared x)
candidates-slots v x = ap (λ es. with_top x es) (listed-view slot_entries refl v.shared x) ∙ top-slots x (listed v.shared x)

pub candidates-places : (v : IndexState) (x : ℕ) → is_shared v ≡ true → candidates (places v) x ≡ places_among (candidates v.shared x)
candidates-places v x shared = grind (arith, with_top, listed-view, top-places)

pub candidates-own : (v : IndexState) (x : ℕ) → is_shared v ≡ false → candidates (places v) x ≡ candidates v.own x
candidates-own v x own = ap (λ b. candidates (if b then places_in v.shared else v.own) x) own

none-listed : (homes : List (List (ℕ × ℕ))) (i : ℕ) → total homes ≡ 0 → get_or homes i [] ≡ []
none-listed [] i none = refl
none-listed (es ∷ homes) zero none = nil_from_length es (omega (arith, none, sum_by-cons length es homes))
none-listed (es ∷ homes) (suc i) none = none-listed homes i (omega (arith, none, sum_by-cons length es homes))

-- a table without places has none under a hash
pub no-places : (v : IndexState) (x : ℕ) → total (places_in v.shared) ≡ 0 → places_among (candidates v.shared x) ≡ []
no-places v x none =
    sym (top-places x (listed v.shared x)) ∙ ap (λ es. with_top x es) (sym (listed-view place_entries refl v.shared x) ∙ none-listed (places_in v.shared) (home (places_in v.shared) x) none)

-- A slot put in

pub slots-entered : (v : IndexState) (x s : ℕ) → s < first_remembered → slots (entered false x s v) ≡ with_handle (slots v) x s
slots-entered v x s below = grind (arith, view-with_list, slots-slot_added, listed-view)

-- the places among the slots are unchanged
pub others-entered : (homes : List (List (ℕ × ℕ))) (x s : ℕ) → s < first_remembered → places_in (with_handle homes x s) ≡ places_in homes
others-entered homes x s below = view-unseen place_entries refl homes x (listed homes x ++ (top x, s) ∷ []) (places-slot_added x s (listed homes x) below)

pub places-entered : (v : IndexState) (x s : ℕ) → s < first_remembered → places (entered false x s v) ≡ places v
places-entered v x s below = ap (λ homes. if is_shared v then homes else v.own) (others-entered v.shared x s below)

-- A slot taken out

taken_slots : (homes : List (List (ℕ × ℕ))) (x s : ℕ) → s < first_remembered → slots_in (without_handle eqb homes x s) ≡ without_handle eqb (slots_in homes) x s
taken_slots homes x s below = grind (arith, view-with_list, kept-without_first, slot_is_below, listed-view)

pub slots-left : (v : IndexState) (x s : ℕ) → s < first_remembered → slots (left x s v) ≡ without_handle eqb (slots v) x s
slots-left v x s below = taken_slots v.shared x s below

pub others-left : (homes : List (List (ℕ × ℕ))) (x s : ℕ) → s < first_remembered → places_in (without_handle eqb homes x s) ≡ places_in homes
others-left homes x s below = grind (arith, view-unseen, lost-without_first, slot_is_no_place)

pub places-left : (v : IndexState) (x s : ℕ) → s < first_remembered → places (left x s v) ≡ places v
places-left v x s below = ap (λ homes. if is_shared v then homes else v.own) (others-left v.shared x s below)

-- A place put in for a slot

handle_replaced_slots : (homes : List (List (ℕ × ℕ))) (x s p : ℕ) → s < first_remembered → slots_in (handle_replaced eqb homes x s (first_remembered + p)) ≡ without_handle eqb (slots_in homes) x s
handle_replaced_slots homes x s p below = grind (arith, view-with_list, kept-with_first, place_is_past, slot_is_below, listed-view)

pub slots-remembered : (v : IndexState) (x s p : ℕ) → s < first_remembered → slots (remembered_at x s p v) ≡ without_handle eqb (slots v) x s
slots-remembered v x s p below = grind (arith, handle_replaced_slots, taken_slots)

-- an entry put in somewhere in its home's list
or_turned : (a b c : Bool) → (a || (b || c)) ≡ ((a || c) || b)
or_turned true b c = refl
or_turned false true true = refl
or_turned false true false = refl
or_turned false false true = refl
or_turned false false false = refl

top-append : (y : ℕ) (es fs : List (ℕ × ℕ)) → with_top y (es ++ fs) ≡ with_top y es ++ with_top y fs
top-append y [] fs = refl
top-append y (e ∷ es) fs = grind (arith, top-append y es fs)

among-turned : (q : ℕ) (ks ms ns : List ℕ) → list_any (eqb q) (ks ++ (ms ++ ns)) ≡ list_any (eqb q) ((ks ++ ns) ++ ms)
among-turned q ks ms ns = grind (arith, list_any-append, or_turned)

IsDistinct-moved : (ks ms ns : List ℕ) → IsDistinct eqb ((ks ++ ns) ++ ms) → IsDistinct eqb (ks ++ (ms ++ ns))
IsDistinct-moved ks ms ns a =
    let b : IsDistinct eqb (ks ++ (ns ++ ms)) = subst (λ z. IsDistinct eqb z) (append_assoc ks ns ms) a in
    IsDistinct-append ks (ms ++ ns) (IsDistinct-left ks (ns ++ ms) b) (IsDistinct-turned ns ms (IsDistinct-right ks (ns ++ ms) b))
    (λ t h. among-turned t [] ms ns ∙ apart_from ks (ns ++ ms) b t h)

module _ (homes : List (List (ℕ × ℕ))) (x p : ℕ) (ms ns : List (ℕ × ℕ)) (some : 0 < length homes) (parts : listed homes x ≡ ms ++ ns) where
  here_between : (y : ℕ) → home homes y ≡ home homes x → candidates (with_list homes x (ms ++ (top x, p) ∷ ns)) y ≡ with_top y ms ++ (with_top y ((top x, p) ∷ []) ++ with_top y ns)
  here_between y same = grind (arith, with_top, listed-with_same, top-append)

  here_last : (y : ℕ) → home homes y ≡ home homes x → candidates (with_handle homes x p) y ≡ (with_top y ms ++ with_top y ns) ++ with_top y ((top x, p) ∷ [])
  here_last y same = grind (arith, with_top, listed-with_same, top-append)

  elsewhere : (y : ℕ) → (home homes y ≡ home homes x → ⊥) → candidates (with_list homes x (ms ++ (top x, p) ∷ ns)) y ≡ candidates (with_handle homes x p) y
  elsewhere y far =
      ap (λ es. with_top y es) (listed-with_other homes x y (ms ++ (top x, p) ∷ ns) far ∙ sym (listed-with_other homes x y (listed homes x ++ (top x, p) ∷ []) far))

  among-between : (y q : ℕ) → list_any (eqb q) (candidates (with_list homes x (ms ++ (top x, p) ∷ ns)) y) ≡ list_any (eqb q) (candidates (with_handle homes x p) y)
  among-between y q = elim (cases_eq (home homes y) (home homes x)) [
    | inl same ↦
        ap (λ z. list_any (eqb q) z) (here_between y same) ∙ among-turned q (with_top y ms) (with_top y ((top x, p) ∷ [])) (with_top y ns) ∙ ap (λ z. list_any (eqb q) z) (sym (here_last y same))
    | inr far ↦ ap (λ z. list_any (eqb q) z) (elsewhere y far)
  ]

  IsDistinct-between : (y : ℕ) → IsDistinct eqb (candidates (with_handle homes x p) y) → IsDistinct eqb (candidates (with_list homes x (ms ++ (top x, p) ∷ ns)) y)
  IsDistinct-between y a = elim (cases_eq (home homes y) (home homes x)) [
    | inl same ↦
        subst (λ z. IsDistinct eqb z) (sym (here_between y same))
        (IsDistinct-moved (with_top y ms) (with_top y ((top x, p) ∷ [])) (with_top y ns) (subst (λ z. IsDistinct eqb z) (here_last y same) a))
    | inr far ↦ subst (λ z. IsDistinct eqb z) (sym (elsewhere y far)) a
  ]

  total-between : total (with_list homes x (ms ++ (top x, p) ∷ ns)) ≡ total (with_handle homes x p)
  total-between = grind (arith, total-with_list, total-put, length-append)

  length-between : length (with_list homes x (ms ++ (top x, p) ∷ ns)) ≡ length (with_handle homes x p)
  length-between = length-with_list homes x (ms ++ (top x, p) ∷ ns) ∙ sym (length-put homes x p)

  -- an index has an entry anywhere in its home's list just as it has one at the end
  IsIndex-between : {K V : Type 0} (keys : List (Entry K V)) (ps : List ℕ) → IsIndex (with_handle homes x p) keys ps → IsIndex (with_list homes x (ms ++ (top x, p) ∷ ns)) keys ps
  IsIndex-between keys ps i = record {
    listed = λ y q. among-between y q ∙ i.listed y q
        ∙ ap (λ b. list_any (eqb q) ps && b) (sym (named-length (with_handle homes x p) (with_list homes x (ms ++ (top x, p) ∷ ns)) keys y q length-between));
    once = λ y. IsDistinct-between y (i.once y);
    counted = total-between ∙ i.counted;
  }

-- the table has an entry of a slot that is held
pub held_entry : (v : IndexState) (x s : ℕ) → list_any (eqb s) (candidates (slots v) x) ≡ true → list_any (is_entry_of eqb x s) (listed v.shared x) ≡ true
held_entry v x s held =
    any-kept (λ (e : ℕ × ℕ). ltb e.1 first_remembered) (is_entry_of eqb x s) (listed v.shared x)
    (ap (λ es. list_any (is_entry_of eqb x s) es) (sym (listed-view slot_entries refl v.shared x)) ∙ any-candidate x s (listed (slots v) x) ∙ held)

module _ {K V : Type 0} (homes : List (List (ℕ × ℕ))) (keys : List (Entry K V)) (ps : List ℕ) (x s p : ℕ) (below : s < first_remembered) (some : 0 < length (places_in homes))
    (held : list_any (is_entry_of eqb x s) (listed homes x) ≡ true) (i : IsIndex (with_handle (places_in homes) x p) keys ps) where
  IsIndex-handle_replaced : IsIndex (places_in (handle_replaced eqb homes x s (first_remembered + p))) keys ps
  IsIndex-handle_replaced =
      let put = put_between x s p (listed homes x) below held in
      let is : places_in (handle_replaced eqb homes x s (first_remembered + p)) ≡ with_list (places_in homes) x (put.before ++ (top x, p) ∷ put.after) =
      view-with_list place_entries refl homes x (with_first (is_entry_of eqb x s) (top x, first_remembered + p) (listed homes x))
      ∙ ap (λ es. with_list (places_in homes) x es) put.new in
      subst (λ z. IsIndex z keys ps) (sym is)
      (IsIndex-between (places_in homes) x p put.before put.after some (listed-view place_entries refl homes x ∙ put.old) keys ps i)

places-remembered_shared : (v : IndexState) (x s p : ℕ) → is_shared v ≡ true → places (remembered_at x s p v) ≡ places_in (handle_replaced eqb v.shared x s (first_remembered + p))
places-remembered_shared v x s p h = rw h (rw h refl)

places-remembered_own : (v : IndexState) (x s p : ℕ) → is_shared v ≡ false → places (remembered_at x s p v) ≡ with_handle v.own x p
places-remembered_own v x s p h = grind (arith, length-put)

pub IsIndex-remembered : {K V : Type 0} (v : IndexState) (keys keys' : List (Entry K V)) (ps : List ℕ) (x s p : ℕ) → s < first_remembered → IsIndex (places v) keys ps → 0 < length (places v)
    → list_any (eqb s) (candidates (slots v) x) ≡ true → list_any (eqb p) ps ≡ false → ((q : ℕ) → list_any (eqb q) ps ≡ true → hash_at keys' q ≡ hash_at keys q) → hash_at keys' p ≡ Some x
    → IsIndex (places (remembered_at x s p v)) keys' (p ∷ ps)
IsIndex-remembered v keys keys' ps x s p below i some held absent same at =
    let put = IsIndex-put (places v) keys keys' ps p x i some absent same at in
    elim (cases_Bool (is_shared v)) [
      | inl h ↦
          let is : places v ≡ places_in v.shared = ap (λ b. if b then places_in v.shared else v.own) h in
          subst (λ z. IsIndex z keys' (p ∷ ps)) (sym (places-remembered_shared v x s p h))
          (IsIndex-handle_replaced v.shared keys' (p ∷ ps) x s p below (subst (λ z. 0 < length z) is some) (held_entry v x s held)
          (subst (λ z. IsIndex (with_handle z x p) keys' (p ∷ ps)) is put))
      | inr h ↦
          let is : places v ≡ v.own = ap (λ b. if b then places_in v.shared else v.own) h in
          subst (λ z. IsIndex z keys' (p ∷ ps)) (sym (places-remembered_own v x s p h)) (subst (λ z. IsIndex (with_handle z x p) keys' (p ∷ ps)) is put)
    ]

-- A place taken out

others-forgotten : (homes : List (List (ℕ × ℕ))) (x p : ℕ) → slots_in (without_handle eqb homes x (first_remembered + p)) ≡ slots_in homes
others-forgotten homes x p = grind (arith, view-unseen, lost-without_first, place_is_no_slot)

taken_places : (homes : List (List (ℕ × ℕ))) (x p : ℕ) → places_in (without_handle eqb homes x (first_remembered + p)) ≡ without_handle eqb (places_in homes) x p
taken_places homes x p = grind (arith, view-with_list, places-without_first, listed-view)

pub slots-forgotten : (v : IndexState) (x p : ℕ) → slots (forgotten_at x p v) ≡ slots v
slots-forgotten v x p = grind (arith, others-forgotten)

pub places-forgotten : (v : IndexState) (x p : ℕ) → places (forgotten_at x p v) ≡ without_handle eqb (places v) x p
places-forgotten v x p = grind (arith, taken_places, length-taken)

-- the places are in the same table as before, and each table has as many slots
pub record IsLikeBefore (v w : IndexState) : Type 0 where
  pub shared : is_shared w ≡ is_shared v
  pub slots : length (slots w) ≡ length (slots v)
  pub places : length (places w) ≡ length (places v)

like : (v w : IndexState) → length w.shared ≡ length v.shared → length w.own ≡ length v.own → IsLikeBefore v w
like v w shared own = grind (arith, length-map)

pub entered-like : (v : IndexState) (x s : ℕ) → IsLikeBefore v (entered false x s v)
entered-like v x s = like v (entered false x s v) (length-put v.shared x s) refl

pub left-like : (v : IndexState) (x s : ℕ) → IsLikeBefore v (left x s v)
left-like v x s = like v (left x s v) (length-taken v.shared x s) refl

pub remembered-like : (v : IndexState) (x s p : ℕ) → IsLikeBefore v (remembered_at x s p v)
remembered-like v x s p = elim (cases_Bool (is_shared v)) [
  | inl h ↦
      let w = record v { shared = handle_replaced eqb v.shared x s (first_remembered + p); accesses = v.accesses + most_changed v.shared x } in
      let is : remembered_at x s p v ≡ w = rw h refl in
      subst (λ z. IsLikeBefore v z) (sym is)
      (like v w (length-with_list v.shared x (with_first (is_entry_of eqb x s) (top x, first_remembered + p) (listed v.shared x))) refl)
  | inr h ↦
      let w = record v { shared = without_handle eqb v.shared x s; own = with_handle v.own x p; accesses = v.accesses + most_changed v.shared x + most_changed v.own x } in
      let is : remembered_at x s p v ≡ w = rw h refl in
      subst (λ z. IsLikeBefore v z) (sym is) (like v w (length-taken v.shared x s) (length-put v.own x p))
]

pub forgotten-like : (v : IndexState) (x p : ℕ) → IsLikeBefore v (forgotten_at x p v)
forgotten-like v x p = elim (cases_Bool (is_shared v)) [
  | inl h ↦
      let w = record v { shared = without_handle eqb v.shared x (first_remembered + p); accesses = v.accesses + most_changed v.shared x } in
      let is : forgotten_at x p v ≡ w = rw h refl in
      subst (λ z. IsLikeBefore v z) (sym is) (like v w (length-taken v.shared x (first_remembered + p)) refl)
  | inr h ↦
      let w = record v { own = without_handle eqb v.own x p; accesses = v.accesses + most_changed v.own x } in
      let is : forgotten_at x p v ≡ w = rw h refl in
      subst (λ z. IsLikeBefore v z) (sym is) (like v w refl (length-taken v.own x p))
]
