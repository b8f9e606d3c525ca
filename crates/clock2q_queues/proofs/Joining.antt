-- How putting a slot into the links, and taking one out, changes the queue that it joins or leaves, and the rest.
use Rattle.clock2q_queues.proofs.Names.{◌≡◌, ℕ, ◌+◌, ◌-◌, ◌^◌, ◌<◌, ◌≤◌, ◌≢◌, ltb, true, false, not, cond, eqb, Option, Some, None, slice_get, List, [], ◌∷◌, ◌++◌, length, map, set, inl, inr, refl}
use Rattle.clock2q_queues.proofs.Names.{sym, ap, ◌∙◌, subst, arith, then_some, option_eq, filter, list_any, AllByRecursion, IsDistinct, last_or, eqb-true, eq-eqb, lt-ltb, both_ways, cases_Bool}
use Rattle.clock2q_queues.proofs.Names.{or_cases, append-nil, length-append, length-set, filter-append, length-le_from_distinct_below, list_any-append, Location, without, Joins, IsRing, CellsState}
use Rattle.clock2q_queues.proofs.Names.{Record, IsLinked, IsQueue, Attaches, Detaches, end_of, slots_from, record_at, next_at, previous_at, location_at, vacant, eqb_self, eqb_swap, among_first}
use Rattle.clock2q_queues.proofs.Names.{among_later, differs, IsDistinct-append, IsDistinct-left, IsDistinct-right, apart_from, IsDistinct-turned, AllByRecursion-append, distinct_more, distinct_alone}
use Rattle.clock2q_queues.proofs.Names.{distinct_first, distinct_rest, AllByRecursion-left, AllByRecursion-right, below_of, parted, IsRing-kept, IsRing-put, IsRing-taken, IsRing-turned, before_end}
use Rattle.clock2q_queues.proofs.Names.{Joins_parts, around-ring, without-parted, or_left, or_right, or_parts, or_neither, changed}
use Rattle.clock2q_machine.proofs.Whole.{last_some}

-- Slots

-- a record is its three fields
pub same_record : (x y : Record) → x.previous ≡ y.previous → x.next ≡ y.next → x.held ≡ y.held → x ≡ y
same_record x y p n s = grind (arith)

pub map-agree : {X : Type 0} (f g : ℕ → X) (ss : List ℕ) → ((t : ℕ) → list_any (eqb t) ss ≡ true → f t ≡ g t) → map f ss ≡ map g ss
map-agree f g [] h = refl
map-agree f g (s ∷ ss) h = ap (λ z. z ∷ map f ss) (h s (among_first s ss)) ∙ ap (λ zs. g s ∷ zs) (map-agree f g ss (λ t k. h t (among_later t s ss k)))

-- there are no more distinct slots than numbers below their bound
pub length-le_bound : (n : ℕ) (ss : List ℕ) → IsDistinct eqb ss → AllByRecursion (λ s. s < n) ss → length ss ≤ n
length-le_bound n ss a b = length-le_from_distinct_below ss n a (below_of n ss b)

-- there is room for one more slot
pub room : (rs : List Record) (ss : List ℕ) (slot : ℕ) → IsLinked rs ss → list_any (eqb slot) ss ≡ false → slot < length rs → length ss < length rs
room rs ss slot k h b = length-le_bound (length rs) (slot ∷ ss) (distinct_more eqb slot ss h k.apart) (b, k.below)

-- Queues

pub IsLinked-kept : (old new : List Record) (ss : List ℕ) → IsLinked old ss → length new ≡ length old
    → ((t : ℕ) → list_any (eqb t) ss ≡ true → record_at new t ≡ record_at old t) → IsLinked new ss
IsLinked-kept old new ss k n h = grind (arith, IsRing-kept, subst (λ z. AllByRecursion (λ s. s < z) ss) (sym n) k.below)

pub IsLinked-turned : (rs : List Record) (xs ys : List ℕ) → IsLinked rs (xs ++ ys) → IsLinked rs (ys ++ xs)
IsLinked-turned rs xs ys k = grind (arith, IsRing-turned, IsDistinct-turned, AllByRecursion-append, AllByRecursion-right, AllByRecursion-left)

-- a queue's slots are those read from its first one on
pub slots_from-is : (rs : List Record) (first : Option ℕ) (count : ℕ) (ss : List ℕ) → IsQueue rs first count ss → slots_from rs first count ≡ ss
slots_from-is rs None count [] q = refl
slots_from-is rs None count (s ∷ ss) q = cc
slots_from-is rs (Some f) count [] q = cc
slots_from-is rs (Some f) count (s ∷ ss) q =
    let e : f ≡ s = cc in
    rw (q.counted, e) (around-ring (next_at rs) (previous_at rs) s ss q.linked.ring)

among-turned : (t : ℕ) (xs ys : List ℕ) → list_any (eqb t) (ys ++ xs) ≡ true → list_any (eqb t) (xs ++ ys) ≡ true
among-turned t xs ys h = grind (arith, or_cases, list_any-append, or_right, or_left)

next_in_ring : (next previous : ℕ → ℕ) (s : ℕ) (ss : List ℕ) → IsRing next previous (s ∷ ss) → list_any (eqb (next s)) (s ∷ ss) ≡ true
next_in_ring next previous s [] r = or_left _ _ (eq-eqb _ _ r.0)
next_in_ring next previous s (x ∷ ss) r = among_later (next s) s (x ∷ ss) (or_left (eqb (next s) x) (list_any (eqb (next s)) ss) (eq-eqb _ _ r.0))

-- the neighbours of a slot in a queue are in it
pub previous_in : (rs : List Record) (ss : List ℕ) (s : ℕ) → IsLinked rs ss → list_any (eqb s) ss ≡ true → list_any (eqb (previous_at rs s)) ss ≡ true
previous_in rs ss s k h =
    let p = parted s ss h in
    let r = IsLinked-turned rs p.0 (s ∷ p.1.0) (subst (λ z. IsLinked rs z) p.1.1 k) in
    let e = before_end (next_at rs) (previous_at rs) s (p.1.0 ++ p.0) s r.ring in
    subst (λ z. list_any (eqb (previous_at rs s)) z ≡ true) (sym p.1.1) (among-turned (previous_at rs s) p.0 (s ∷ p.1.0) e)

pub next_in : (rs : List Record) (ss : List ℕ) (s : ℕ) → IsLinked rs ss → list_any (eqb s) ss ≡ true → list_any (eqb (next_at rs s)) ss ≡ true
next_in rs ss s k h =
    let p = parted s ss h in
    let r = IsLinked-turned rs p.0 (s ∷ p.1.0) (subst (λ z. IsLinked rs z) p.1.1 k) in
    let e = next_in_ring (next_at rs) (previous_at rs) s (p.1.0 ++ p.0) r.ring in
    subst (λ z. list_any (eqb (next_at rs s)) z ≡ true) (sym p.1.1) (among-turned (next_at rs s) p.0 (s ∷ p.1.0) e)

pub in_bounds : (rs : List Record) (ss : List ℕ) (s : ℕ) → IsLinked rs ss → list_any (eqb s) ss ≡ true → s < length rs
in_bounds rs ss s k h = below_of (length rs) ss k.below s h

-- the first slot is among them
pub first_in : (ss : List ℕ) (first : ℕ) → Some first ≡ slice_get ss 0 → list_any (eqb first) ss ≡ true
first_in [] first e = absurd (cc)
first_in (s ∷ ss) first e = let q : first ≡ s = cc in or_left (eqb first s) (list_any (eqb first) ss) (eq-eqb first s q)

-- the next count of slots fits
pub count_fits : (rs : List Record) (first : Option ℕ) (count : ℕ) (ss : List ℕ) (slot : ℕ) → IsQueue rs first count ss → list_any (eqb slot) ss ≡ false → slot < length rs → count + 1 < 2 ^ 32
count_fits rs first count ss slot q absent b = grind (arith, room)

-- Putting a slot in

-- a slot was put last into a queue
pub record Inserts (slot : ℕ) (location : Location) (ss : List ℕ) (old new : List Record) : Type 0 where
  pub linked : IsLinked new (ss ++ slot ∷ [])
  pub locations : (t : ℕ) → location_at new t ≡ cond (eqb t slot) location (location_at old t)
  pub others : (t : ℕ) → list_any (eqb t) (slot ∷ ss) ≡ false → record_at new t ≡ record_at old t
  pub as_many : length new ≡ length old

-- just before the first slot of a queue, as its owner holds it
pub Inserts-before : (old new : CellsState Record) (ss : List ℕ) (slot : ℕ) (location : Location) (first : ℕ)
    → IsLinked old.items ss → Some first ≡ slice_get ss 0 → list_any (eqb slot) ss ≡ false → slot < length old.items → Attaches slot first location old new
    → Inserts slot location ss old.items new.items
Inserts-before old new [] slot location first k e absent b a = absurd (cc)
Inserts-before old new (s ∷ ss) slot location first k e absent b a =
    let q : first ≡ s = cc in
    let put : Attaches slot s location old new = subst (λ z. Attaches slot z location old new) q a in
    let rs = old.items in
    let last_in = before_end (next_at rs) (previous_at rs) s ss s k.ring in
    record {
      linked = record {
        ring = IsRing-put (next_at rs) (previous_at rs) (next_at new.items) (previous_at new.items) s ss slot k.ring k.apart absent put.nexts put.previouses;
        apart = IsDistinct-append (s ∷ ss) (slot ∷ []) k.apart (distinct_alone eqb slot) (λ t h. or_neither (eqb t slot) false (differs t slot (s ∷ ss) h absent) refl);
        below = subst (λ z. AllByRecursion (λ s. s < z) (s ∷ ss ++ slot ∷ [])) (sym put.as_many) (AllByRecursion-append (length rs) (s ∷ ss) (slot ∷ []) k.below (b, tt));
      };
      locations = put.locations;
      others = λ t h.
          let p = or_parts (eqb t slot) (list_any (eqb t) (s ∷ ss)) h in
          let f : eqb t s ≡ false = (or_parts (eqb t s) (list_any (eqb t) ss) p.1).0 in
          let l : eqb t (previous_at rs s) ≡ false = eqb_swap (previous_at rs s) t (differs (previous_at rs s) t (s ∷ ss) last_in p.1) in
          same_record (record_at new.items t) (record_at rs t)
          (put.previouses t ∙ rw (f, p.0) refl) (put.nexts t ∙ rw (l, p.0) refl) (put.locations t ∙ rw p.0 refl);
      as_many = put.as_many;
    }

-- into an empty queue
pub Inserts-first : (old new : List Record) (ss : List ℕ) (slot : ℕ) (location : Location)
    → None ≡ slice_get ss 0 → slot < length old → new ≡ set old slot (record { previous = slot; next = slot; held = location })
    → Inserts slot location ss old new
Inserts-first old new [] slot location e b n =
    let r : Record = record { previous = slot; next = slot; held = location } in
    subst (λ z. Inserts slot location [] old z) (sym n) (record {
      linked = record {
        ring = (changed (λ p. p.next) old slot r vacant slot b ∙ rw (eqb_self slot) refl, changed (λ p. p.previous) old slot r vacant slot b ∙ rw (eqb_self slot) refl);
        apart = distinct_alone eqb slot;
        below = (rw (length-set old slot r) b, tt);
      };
      locations = λ t. changed (λ p. p.held) old slot r vacant t b;
      others = λ t h. changed (λ p. p) old slot r vacant t b ∙ rw ((or_parts (eqb t slot) false h).0) refl;
      as_many = length-set old slot r;
    })
Inserts-first old new (s ∷ ss) slot location e b n = absurd (cc)

-- Taking a slot out

-- a slot was taken out of a queue
pub record Removes (slot : ℕ) (ss : List ℕ) (old new : List Record) : Type 0 where
  pub linked : IsLinked new (without slot ss)
  pub locations : (t : ℕ) → eqb t slot ≡ false → location_at new t ≡ location_at old t
  pub others : (t : ℕ) → list_any (eqb t) ss ≡ false → record_at new t ≡ record_at old t
  pub freed : record_at new slot ≡ vacant
  pub as_many : length new ≡ length old

pub Removes-detached : (old new : CellsState Record) (ss : List ℕ) (slot : ℕ)
    → IsLinked old.items ss → list_any (eqb slot) ss ≡ true → Detaches slot old new → Removes slot ss old.items new.items
Removes-detached old new ss slot k h d =
    let rs = old.items in
    let p = parted slot ss h in
    let xs = p.0 in
    let ys = p.1.0 in
    let k' : IsLinked rs (xs ++ slot ∷ ys) = subst (λ z. IsLinked rs z) p.1.1 k in
    let e : without slot ss ≡ xs ++ ys = ap (λ z. without slot z) p.1.1 ∙ without-parted xs slot ys k'.apart in
    record {
      linked = subst (λ z. IsLinked new.items z) (sym e) (record {
        ring = IsRing-taken (next_at rs) (previous_at rs) (next_at new.items) (previous_at new.items) xs slot ys k'.ring k'.apart d.nexts d.previouses;
        apart =
            IsDistinct-append xs ys (IsDistinct-left xs (slot ∷ ys) k'.apart) (distinct_rest eqb slot ys (IsDistinct-right xs (slot ∷ ys) k'.apart))
            (λ t g. (or_parts (eqb t slot) (list_any (eqb t) ys) (apart_from xs (slot ∷ ys) k'.apart t g)).1);
        below =
            subst (λ z. AllByRecursion (λ s. s < z) (xs ++ ys)) (sym d.as_many)
            (AllByRecursion-append (length rs) xs ys (AllByRecursion-left (length rs) xs (slot ∷ ys) k'.below) (AllByRecursion-right (length rs) xs (slot ∷ ys) k'.below).1);
      });
      locations = d.locations;
      others = λ t g.
          let q : eqb t slot ≡ false = eqb_swap slot t (differs slot t ss h g) in
          let l : eqb t (previous_at rs slot) ≡ false = eqb_swap (previous_at rs slot) t (differs (previous_at rs slot) t ss (previous_in rs ss slot k h) g) in
          let r : eqb t (next_at rs slot) ≡ false = eqb_swap (next_at rs slot) t (differs (next_at rs slot) t ss (next_in rs ss slot k h) g) in
          same_record (record_at new.items t) (record_at rs t)
          (d.previouses t q ∙ rw r refl) (d.nexts t q ∙ rw l refl) (d.locations t q);
      freed = d.freed;
      as_many = d.as_many;
    }

-- Entries

pub filter-entries : {X : Type 0} (slot : ℕ) (f : ℕ → X) (ss : List ℕ) → filter (λ (e : ℕ × X). not (eqb e.0 slot)) (map (λ s. (s, f s)) ss) ≡ map (λ s. (s, f s)) (without slot ss)
filter-entries slot f [] = refl
filter-entries slot f (s ∷ ss) = elim (cases_Bool (eqb s slot)) [
  | inl e ↦ rw e (filter-entries slot f ss)
  | inr e ↦ rw e (ap (λ zs. (s, f s) ∷ zs) (filter-entries slot f ss))
]

-- Counts and ends after a slot was taken out

pub length-without : (slot : ℕ) (ss : List ℕ) → IsDistinct eqb ss → list_any (eqb slot) ss ≡ true → length (without slot ss) + 1 ≡ length ss
length-without slot ss a h = grind (arith, parted, without-parted, length-append)

-- if the first slot left, the next one is first, if there is one
pub first_after : (rs : List Record) (count : ℕ) (ss : List ℕ) (slot : ℕ) → IsQueue rs (Some slot) count ss
    → then_some (ltb 0 (count - 1)) (next_at rs slot) ≡ slice_get (without slot ss) 0
first_after rs count [] slot q = absurd (let e = q.starts in cc)
first_after rs count (s ∷ []) slot q =
    let e : slot ≡ s = let h = q.starts in cc in
    rw (q.counted, e, eqb_self s) refl
first_after rs count (s ∷ t ∷ ss) slot q = grind (arith, eqb_swap, or_parts, lt-ltb, eqb_self, distinct_first eqb s (t ∷ ss) q.linked.apart)

-- if another one left, the first stays the first
pub first_stays : (rs : List Record) (first : Option ℕ) (count : ℕ) (ss : List ℕ) (slot : ℕ) → IsQueue rs first count ss → first ≢ Some slot
    → first ≡ slice_get (without slot ss) 0
first_stays rs first count [] slot q d = q.starts
first_stays rs first count (s ∷ ss) slot q d =
    let e : eqb s slot ≡ false = elim (cases_Bool (eqb s slot)) [ inl h ↦ absurd (d (q.starts ∙ ap (λ z. Some z) (eqb-true s slot h))) | inr h ↦ h ] in
    rw e q.starts

pub is_first : (o : Option ℕ) (slot : ℕ) → true ≡ option_eq eqb o (Some slot) → o ≡ Some slot
is_first None slot e = absurd (both_ways true e refl)
is_first (Some s) slot e = ap (λ z. Some z) (eqb-true s slot (sym e))

pub not_first : (o : Option ℕ) (slot : ℕ) → false ≡ option_eq eqb o (Some slot) → o ≢ Some slot
not_first None slot e h = cc
not_first (Some s) slot e h = let q : s ≡ slot = cc in both_ways (eqb s slot) (sym e) (eq-eqb s slot q)

pub first_gone : (rs : List Record) (first : Option ℕ) (count : ℕ) (ss : List ℕ) (slot : ℕ) → IsQueue rs first count ss → first ≡ Some slot
    → then_some (ltb 0 (count - 1)) (next_at rs slot) ≡ slice_get (without slot ss) 0
first_gone rs first count ss slot q e = first_after rs count ss slot (subst (λ z. IsQueue rs z count ss) e q)

-- a queue with a slot has ends
pub end_some : (len slot : ℕ) → 0 < len → end_of len slot ≡ Some slot
end_some len slot some = rw (lt-ltb 0 len some) refl

-- the first slot after one left: the next one if that was first
pub first_left : (rs : List Record) (len newest newest' : ℕ) (ss : List ℕ) (slot : ℕ) → IsQueue rs (end_of len newest) len ss → list_any (eqb slot) ss ≡ true
    → newest' ≡ cond (eqb newest slot) (next_at rs slot) newest → end_of (len - 1) newest' ≡ slice_get (without slot ss) 0
first_left rs len newest newest' ss slot q there is =
    let count = length-without slot ss q.linked.apart there in
    let was : end_of len newest ≡ Some newest = end_some len newest (omega (arith, count, q.counted)) in
    elim (cases_Bool (eqb newest slot)) [
      | inl e ↦ ap (λ z. end_of (len - 1) z) (is ∙ rw e refl) ∙ first_gone rs (end_of len newest) len ss slot q (was ∙ ap (λ z. Some z) (eqb-true newest slot e))
      | inr e ↦
          let stays : Some newest ≡ slice_get (without slot ss) 0 =
          sym was ∙ first_stays rs (end_of len newest) len ss slot q (λ h. let s : newest ≡ slot = let w = was in cc in both_ways (eqb newest slot) e (eq-eqb newest slot s)) in
          ap (λ z. end_of (len - 1) z) (is ∙ rw e refl) ∙ end_some (len - 1) newest (omega (arith, first_counted (without slot ss) newest stays, count, q.counted)) ∙ stays
    ]
  where
    first_counted : (ss : List ℕ) (first : ℕ) → Some first ≡ slice_get ss 0 → 0 < length ss
    first_counted [] first e = absurd (cc)
    first_counted (s ∷ ss) first e = omega arith

-- The last slot

pub split_last : (ss : List ℕ) (s x : ℕ) → last_or None (s ∷ ss) ≡ Some x → (xs : List ℕ) × (s ∷ ss ≡ xs ++ x ∷ [])
split_last [] s x e = let q : s ≡ x = cc in ([], ap (λ z. z ∷ []) q)
split_last (t ∷ ss) s x e = let p = split_last ss t x e in (s ∷ p.0, ap (λ zs. s ∷ zs) p.1)

pub last_before : (next previous : ℕ → ℕ) (from : ℕ) (ss : List ℕ) (to : ℕ) → Joins next previous from ss to → last_or None (from ∷ ss) ≡ Some (previous to)
last_before next previous from [] to j = ap (λ z. Some z) (sym j.1)
last_before next previous from (s ∷ ss) to j = last_before next previous s ss to j.2

last_or-push : (o : Option ℕ) (xs : List ℕ) (x : ℕ) → last_or o (xs ++ x ∷ []) ≡ Some x
last_or-push o [] x = refl
last_or-push o (y ∷ xs) x = last_or-push (Some y) xs x

last_of_front : (rs : List Record) (xs : List ℕ) (slot : ℕ) → IsRing (next_at rs) (previous_at rs) (xs ++ slot ∷ [])
    → then_some (ltb 0 (length xs + 1 - 1)) (previous_at rs slot) ≡ last_or None xs
last_of_front rs [] slot r = refl
last_of_front rs (x ∷ xs) slot r =
    let b : ltb 0 (length (x ∷ xs) + 1 - 1) ≡ true = lt-ltb 0 (length (x ∷ xs) + 1 - 1) (omega arith) in
    rw b (sym (last_before (next_at rs) (previous_at rs) x xs slot (Joins_parts (next_at rs) (previous_at rs) x xs slot [] x r).0))

-- if the last slot left, the one before it is last, if there is one
pub last_gone : (rs : List Record) (count : ℕ) (ss : List ℕ) (slot : ℕ) → IsLinked rs ss → count ≡ length ss → last_or None ss ≡ Some slot
    → then_some (ltb 0 (count - 1)) (previous_at rs slot) ≡ last_or None (without slot ss)
last_gone rs count [] slot k n e = absurd (cc)
last_gone rs count (s ∷ ss) slot k n e =
    let p = split_last ss s slot e in
    let xs = p.0 in
    let k' : IsLinked rs (xs ++ slot ∷ []) = subst (λ z. IsLinked rs z) p.1 k in
    let w : without slot (s ∷ ss) ≡ xs = ap (λ z. without slot z) p.1 ∙ without-parted xs slot [] k'.apart ∙ append-nil xs in
    let m : count ≡ length xs + 1 = n ∙ ap (λ (z : List ℕ). length z) p.1 ∙ length-append xs (slot ∷ []) in
    ap (λ z. then_some (ltb 0 (z - 1)) (previous_at rs slot)) m ∙ last_of_front rs xs slot k'.ring ∙ ap (λ z. last_or None z) (sym w)

-- if another one left, the last stays the last
pub last_stays : (ss : List ℕ) (slot : ℕ) → last_or None ss ≢ Some slot → last_or None ss ≡ last_or None (without slot ss)
last_stays [] slot d = refl
last_stays (s ∷ ss) slot d =
    let x = last_some ss s in
    let p = split_last ss s x.0 x.1 in
    let e : eqb x.0 slot ≡ false = elim (cases_Bool (eqb x.0 slot)) [ inl h ↦ absurd (d (x.1 ∙ ap (λ z. Some z) (eqb-true x.0 slot h))) | inr h ↦ h ] in
    let w : without slot (x.0 ∷ []) ≡ x.0 ∷ [] = rw e refl in
    x.1 ∙ sym (ap (λ z. last_or None (without slot z)) p.1
    ∙ ap (λ z. last_or None z) (filter-append (λ t. not (eqb t slot)) p.0 (x.0 ∷ []))
    ∙ ap (λ z. last_or None (without slot p.0 ++ z)) w ∙ last_or-push None (without slot p.0) x.0)

-- the last slot after one left: the one before it if that was last
pub last_left : (rs : List Record) (len oldest oldest' : ℕ) (ss : List ℕ) (slot : ℕ) → IsLinked rs ss → len ≡ length ss → end_of len oldest ≡ last_or None ss → list_any (eqb slot) ss ≡ true
    → oldest' ≡ cond (eqb oldest slot) (previous_at rs slot) oldest → end_of (len - 1) oldest' ≡ last_or None (without slot ss)
last_left rs len oldest oldest' ss slot k counted ends there is =
    let count = length-without slot ss k.apart there in
    let was : last_or None ss ≡ Some oldest = sym ends ∙ end_some len oldest (omega (arith, count, counted)) in
    elim (cases_Bool (eqb oldest slot)) [
      | inl e ↦ ap (λ z. end_of (len - 1) z) (is ∙ rw e refl) ∙ last_gone rs len ss slot k counted (was ∙ ap (λ z. Some z) (eqb-true oldest slot e))
      | inr e ↦
          let stays : Some oldest ≡ last_or None (without slot ss) =
          sym was ∙ last_stays ss slot (λ h. let s : oldest ≡ slot = let w = was in cc in both_ways (eqb oldest slot) e (eq-eqb oldest slot s)) in
          ap (λ z. end_of (len - 1) z) (is ∙ rw e refl) ∙ end_some (len - 1) oldest (omega (arith, last_counted (without slot ss) oldest stays, count, counted)) ∙ stays
    ]
  where
    last_counted : (ss : List ℕ) (last : ℕ) → Some last ≡ last_or None ss → 0 < length ss
    last_counted [] last e = absurd (cc)
    last_counted (s ∷ ss) last e = omega arith
