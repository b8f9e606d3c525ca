-- How each call changes the order of the history's places and the chain of the free ones.
use Rattle.clock2q_queues.proofs.Names.{◌≡◌, ℕ, zero, suc, ◌+◌, ◌-◌, ◌^◌, ◌<◌, ◌≤◌, Bool, true, false, ◌||◌, eqb, Option, Some, None, slice_get, List, [], ◌∷◌, ◌++◌, length, take, drop, inl, inr}
use Rattle.clock2q_queues.proofs.Names.{refl, sym, ap, ◌∙◌, subst, arith, last_or, list_any, AllByRecursion, IsDistinct, eqb-true, both_ways, cases_Bool, length-append, length-set, list_any-append}
use Rattle.clock2q_queues.proofs.Names.{Free, Chain, without, around, CellsState, Rises, accessed, written, Record, IsLinked, Attaches, Detaches, end_of, made_below, slots_from, record_at, next_at}
use Rattle.clock2q_queues.proofs.Names.{previous_at, vacant, RingState, ring_state, PlaceOrder, IsOrderOf, IsOrder, IsWholeOrder, free_places, order_shown, place_for, changed, eqb_self, among_first}
use Rattle.clock2q_queues.proofs.Names.{among_later, IsDistinct-left, IsDistinct-right, IsDistinct-append, distinct_first, distinct_rest, distinct_more, distinct_none, AllByRecursion-append}
use Rattle.clock2q_queues.proofs.Names.{AllByRecursion-left, AllByRecursion-right, apart_from, apart_back, below-among, below-more, below_of, among-without, or_parts, or_neither}
use Rattle.clock2q_queues.proofs.Joining.{Inserts, Inserts-before, Inserts-first, Removes, Removes-detached, IsLinked-kept, IsLinked-turned}
use Rattle.clock2q_queues.proofs.Joining.{slots_from-is, end_some, first_in, next_in, previous_in, length-without, split_last, last_before}

-- Lists of places

pub around-kept : (next next' : ℕ → ℕ) (first count : ℕ) → ((t : ℕ) → list_any (eqb t) (around next first count) ≡ true → next' t ≡ next t) → around next' first count ≡ around next first count
around-kept next next' first zero h = refl
around-kept next next' first (suc count) h =
    ap (λ zs. first ∷ zs)
    (ap (λ z. around next' z count) (h first (among_first first (around next (next first) count)))
    ∙ around-kept next next' (next first) count (λ t g. h t (among_later t first (around next (next first) count) g)))

pub length-around : (next : ℕ → ℕ) (first count : ℕ) → length (around next first count) ≡ count
length-around next first zero = refl
length-around next first (suc count) = ap (λ n. suc n) (length-around next (next first) count)

pub take_front : (xs : List ℕ) (x : ℕ) → take (length (xs ++ x ∷ []) - 1) (xs ++ x ∷ []) ≡ xs
take_front xs x =
    let n : length (xs ++ x ∷ []) - 1 ≡ length xs = omega (arith, length-append xs (x ∷ [])) in
    ap (λ z. take z (xs ++ x ∷ [])) n ∙ take_of xs
  where
    take_of : (ys : List ℕ) → take (length ys) (ys ++ x ∷ []) ≡ ys
    take_of [] = refl
    take_of (y ∷ ys) = ap (λ zs. y ∷ zs) (take_of ys)

pub absent_below : (n : ℕ) (ss : List ℕ) → AllByRecursion (λ s. s < n) ss → list_any (eqb n) ss ≡ false
absent_below n [] b = refl
absent_below n (s ∷ ss) b = or_neither (eqb n s) (list_any (eqb n) ss)
    (elim (cases_Bool (eqb n s)) [ inl e ↦ absurd (omega (arith, eqb-true n s e, b.0)) | inr e ↦ e ])
    (absent_below n ss b.1)

-- the place for a new key, the head of the chain or the next unused one, goes in front
pub record FitsNext (limit place : ℕ) (ps fs : List ℕ) : Type 0 where
  pub fits : place < limit
  pub absent : list_any (eqb place) ps ≡ false
  pub apart : IsDistinct eqb (place ∷ ps ++ drop 1 fs)
  pub below : AllByRecursion (λ s. s < suc (length ps) + length (drop 1 fs)) (place ∷ ps ++ drop 1 fs)
  pub within : suc (length ps) + length (drop 1 fs) ≤ limit
  pub made : place ≤ length ps + length fs
  pub makes : made_below (place + 1) (length ps + length fs) ≡ suc (length ps) + length (drop 1 fs)

pub FitsNext-from : (limit : ℕ) (ps fs : List ℕ) → IsDistinct eqb (ps ++ fs) → AllByRecursion (λ s. s < length ps + length fs) (ps ++ fs) → length ps + length fs ≤ limit → length ps < limit
    → FitsNext limit (place_for (length ps) fs) ps fs
FitsNext-from limit ps [] a b w h =
    let b' : AllByRecursion (λ s. s < length ps) (ps ++ []) = subst (λ n. AllByRecursion (λ s. s < n) (ps ++ [])) (let e : length ps + 0 ≡ length ps = omega arith in e) b in
    record {
      fits = h;
      absent = absent_below (length ps) ps (AllByRecursion-left (length ps) ps [] b');
      apart = distinct_more eqb (length ps) (ps ++ []) (absent_below (length ps) (ps ++ []) b') a;
      below = (omega arith, below-more (length ps) (suc (length ps) + 0) (ps ++ []) (omega arith) b');
      within = omega arith;
      made = omega arith;
      makes = omega arith;
    }
FitsNext-from limit ps (f ∷ fs) a b w h =
    let n = length ps + length (f ∷ fs) in
    let right = IsDistinct-right ps (f ∷ fs) a in
    let f_below = (AllByRecursion-right n ps (f ∷ fs) b).0 in
    let rest : AllByRecursion (λ s. s < n) (ps ++ fs) = AllByRecursion-append n ps fs (AllByRecursion-left n ps (f ∷ fs) b) (AllByRecursion-right n ps (f ∷ fs) b).1 in
    let absent : list_any (eqb f) ps ≡ false = apart_back ps (f ∷ fs) a f (among_first f fs) in
    record {
      fits = omega (arith, f_below, w);
      absent = absent;
      apart =
          distinct_more eqb f (ps ++ fs)
          (list_any-append (eqb f) ps fs ∙ or_neither (list_any (eqb f) ps) (list_any (eqb f) fs) absent (distinct_first eqb f fs right))
          (IsDistinct-append ps fs (IsDistinct-left ps (f ∷ fs) a) (distinct_rest eqb f fs right)
          (λ t g. (or_parts (eqb t f) (list_any (eqb t) fs) (apart_from ps (f ∷ fs) a t g)).1));
      below = (omega (arith, f_below), below-more n (suc (length ps) + length fs) (ps ++ fs) (omega arith) rest);
      within = omega (arith, w);
      made = omega (arith, f_below);
      makes = omega (arith, f_below);
    }

-- the places in another order
pub apart-turned : (ps qs fs : List ℕ) → IsDistinct eqb qs → ((t : ℕ) → list_any (eqb t) qs ≡ true → list_any (eqb t) ps ≡ true) → IsDistinct eqb (ps ++ fs) → IsDistinct eqb (qs ++ fs)
apart-turned ps qs fs a same apart = IsDistinct-append qs fs a (IsDistinct-right ps fs apart) (λ t h. apart_from ps fs apart t (same t h))

pub below-turned : (n : ℕ) (ps qs fs : List ℕ) → ((t : ℕ) → list_any (eqb t) qs ≡ true → list_any (eqb t) ps ≡ true) → AllByRecursion (λ s. s < n) (ps ++ fs) → AllByRecursion (λ s. s < n) (qs ++ fs)
below-turned n ps qs fs same below = AllByRecursion-append n qs fs (below-among n qs (λ t h. below_of n ps (AllByRecursion-left n ps fs below) t (same t h))) (AllByRecursion-right n ps fs below)

or_swap : (x y : Bool) → (x || y) ≡ true → (y || (x || false)) ≡ true
or_swap true true h = refl
or_swap true false h = refl
or_swap false true h = refl
or_swap false false h = h

-- Orders

pub IsOrder-from : {rs : RingState} {newest : Option ℕ} {len : ℕ} {chain : Chain} {ps fs : List ℕ} → IsOrderOf rs newest len chain ps fs → IsOrder rs newest len chain
IsOrder-from {rs} {newest} {len} {chain} {ps} {fs} o =
    subst (λ z. IsOrderOf rs newest len chain z (free_places rs.cells.items chain)) (sym (slots_from-is rs.cells.items newest len ps o.queue))
    (subst (λ z. IsOrderOf rs newest len chain ps z) (sym o.chained) o)

pub whole_order : (l : RingState) (newest : Option ℕ) (len : ℕ) (chain : Chain) → IsOrder l newest len chain → IsWholeOrder (order_shown l newest len chain)
whole_order l newest len chain o = record { apart = o.apart; below = o.below; within = o.within; countable = o.queue.countable }

-- no place was used
pub empty_order : (l : RingState) → l.made ≡ 0 → length l.cells.items < 2 ^ 32 → IsOrder l None 0 (record { head = 0; len = 0 })
empty_order l m h = grind (arith, distinct_none eqb)

-- the view of an order of these places and a chain of those
pub order_shown-is : (l : RingState) {newest : Option ℕ} {len : ℕ} {chain : Chain} {ps fs : List ℕ} → IsOrderOf l newest len chain ps fs
    → order_shown l newest len chain ≡ record { places = ps; free = fs; limit = length l.cells.items; accesses = l.cells.accesses }
order_shown-is l {newest} {len} {chain} {ps} {fs} o =
    ap (λ z. record { places = z; free = free_places l.cells.items chain; limit = length l.cells.items; accesses = l.cells.accesses }) (slots_from-is l.cells.items newest len ps o.queue)
    ∙ ap (λ z. record { places = ps; free = z; limit = length l.cells.items; accesses = l.cells.accesses }) o.chained

-- The chain

pub chain-put : (old new : CellsState Record) (chain : Chain) (place : ℕ) (r : Record) → new ≡ written place r old
    → r.next ≡ chain.head → place < length old.items → list_any (eqb place) (free_places old.items chain) ≡ false
    → free_places new.items (record { head = place; len = chain.len + 1 }) ≡ place ∷ free_places old.items chain
chain-put old new chain place r e next fits absent =
    let nexts = (λ (t : ℕ). ap (λ (z : CellsState Record). next_at z.items t) e ∙ changed (λ p. p.next) old.items place r vacant t fits) in
    let to_head : next_at new.items place ≡ chain.head = nexts place ∙ rw (eqb_self place) next in
    let n : chain.len + 1 ≡ suc chain.len = omega arith in
    let other = (λ (t : ℕ) (h : list_any (eqb t) (free_places old.items chain) ≡ true).
    let q : eqb t place ≡ false = elim (cases_Bool (eqb t place)) [
      | inl q ↦ absurd (both_ways (list_any (eqb place) (free_places old.items chain)) absent (subst (λ z. list_any (eqb z) (free_places old.items chain) ≡ true) (eqb-true t place q) h))
      | inr q ↦ q
    ] in
    nexts t ∙ rw q refl) in
    ap (λ z. around (next_at new.items) place z) n
    ∙ ap (λ z. place ∷ around (next_at new.items) z chain.len) to_head
    ∙ ap (λ zs. place ∷ zs) (around-kept (next_at old.items) (next_at new.items) chain.head chain.len other)

pub head_made : (l : RingState) (newest : Option ℕ) (len : ℕ) (chain : Chain) → IsOrder l newest len chain → 0 < chain.len → chain.head < l.made
head_made l newest len chain o some =
    let places = slots_from l.cells.items newest len in
    let free = free_places l.cells.items chain in
    let count = length places + length free in
    grind (arith, among_first, below_of count free (AllByRecursion-right count places free o.below) chain.head)

module _ (l : RingState) (newest : Option ℕ) (len : ℕ) (chain : Chain) (o : IsOrder l newest len chain) where
  abbrev pub places_now : List ℕ
  places_now = slots_from l.cells.items newest len

  abbrev pub free_now : List ℕ
  free_now = free_places l.cells.items chain

  chain_counted : length free_now ≡ chain.len
  chain_counted = length-around (next_at l.cells.items) chain.head chain.len

  -- a place in order has neighbours, and so have they
  pub place_made : (place : ℕ) → list_any (eqb place) places_now ≡ true → (place < l.made) × (next_at l.cells.items place < l.made) × (previous_at l.cells.items place < l.made)
  place_made place there =
      let below : AllByRecursion (λ s. s < l.made) places_now = rw o.made (AllByRecursion-left (length places_now + length free_now) places_now free_now o.below) in
      let rs = l.cells.items in (
        below_of l.made places_now below place there,
        below_of l.made places_now below (next_at rs place) (next_in rs places_now place o.queue.linked there),
        below_of l.made places_now below (previous_at rs place) (previous_in rs places_now place o.queue.linked there),
      )

  -- A place put at the front

  pub next_fits : length places_now < length l.cells.items → FitsNext (length l.cells.items) (place_for (length places_now) free_now) places_now free_now
  next_fits h = FitsNext-from (length l.cells.items) places_now free_now o.apart o.below o.within h

  -- the place was taken from the chain, if it had one
  pub record Chooses (mid : RingState) (newest' len' : ℕ) (chain' : Chain) (place : ℕ) : Type 0 where
    pub slots : mid.cells.items ≡ l.cells.items
    pub made : mid.made ≡ l.made
    pub first : end_of len' newest' ≡ newest
    pub count : len' ≡ len
    pub rest : free_places mid.cells.items chain' ≡ drop 1 free_now
    pub counted : Rises 0 1 l.cells.accesses mid.cells.accesses
    pub is : place ≡ place_for (length places_now) free_now

  module _ (newest' : ℕ) (first : end_of len newest' ≡ newest) where
    pub takes_head : 0 < chain.len → (mid : RingState) → mid ≡ ring_state (accessed l.cells) l.made → (next : ℕ) → next ≡ next_at l.cells.items chain.head
        → Chooses mid newest' len (record { head = next; len = chain.len - 1 }) chain.head
    takes_head some mid read next e = grind (arith)

    pub takes_unused : chain.len ≡ 0 → Chooses l newest' len chain len
    takes_unused none =
        let parts : free_now ≡ [] = ap (λ z. around (next_at l.cells.items) chain.head z) none in
        record { slots = refl; made = refl; first = first; count = refl; rest = parts ∙ sym (ap (λ (z : List ℕ). drop 1 z) parts); counted = (omega arith, omega arith); is = o.queue.counted ∙ sym (ap (λ z. place_for (length places_now) z) parts) }

  -- the order after a place was put at the front
  pub record Pushed (place len' : ℕ) (chain' : Chain) (new : RingState) : Type 0 where
    pub order : IsOrderOf new (end_of (len' + 1) place) (len' + 1) chain' (place ∷ places_now) (drop 1 free_now)
    pub as_many : length new.cells.items ≡ length l.cells.items
    pub counted : Rises 1 7 l.cells.accesses new.cells.accesses

  module _ {mid : RingState} {newest' len' : ℕ} {chain' : Chain} {place : ℕ} (k : Chooses mid newest' len' chain' place) (h : length places_now < length l.cells.items) where
    pub fits : FitsNext (length l.cells.items) place places_now free_now
    fits = subst (λ z. FitsNext (length l.cells.items) z places_now free_now) (sym k.is) (next_fits h)

    pub place_in : place < length mid.cells.items
    place_in = rw k.slots fits.fits

    linked_mid : IsLinked mid.cells.items places_now
    linked_mid = subst (λ (z : List Record). IsLinked z places_now) (sym k.slots) o.queue.linked

    starts : 0 < len' → Some newest' ≡ slice_get places_now 0
    starts some = sym (end_some len' newest' some) ∙ k.first ∙ o.queue.starts

    pub place_next : place ≤ mid.made
    place_next = rw (k.made, o.made) fits.made

    pub first_made : 0 < len' → (newest' < mid.made) × (previous_at mid.cells.items newest' < mid.made)
    first_made some =
        let f = place_made newest' (first_in places_now newest' (starts some)) in
        rw (k.made, k.slots) (f.0, f.2)

    pushes : (new : RingState) → new.made ≡ made_below (place + 1) mid.made → Inserts place Free places_now mid.cells.items new.cells.items → Rises 1 6 mid.cells.accesses new.cells.accesses → Pushed place len' chain' new
    pushes new m i n =
        let as_many : length new.cells.items ≡ length l.cells.items = i.as_many ∙ ap (λ (z : List Record). length z) k.slots in
        let elsewhere = (λ (t : ℕ) (g : list_any (eqb t) (free_places mid.cells.items chain') ≡ true).
        let apart : list_any (eqb t) (place ∷ places_now) ≡ false = apart_back (place ∷ places_now) (drop 1 free_now) fits.apart t (subst (λ zs. list_any (eqb t) zs ≡ true) k.rest g) in
        ap (λ (z : Record). z.next) (i.others t apart)) in
        record {
          order = record {
            queue = record {
              linked = IsLinked-turned new.cells.items places_now (place ∷ []) i.linked;
              starts = end_some (len' + 1) place (omega arith);
              counted = omega (arith, k.count, o.queue.counted);
              countable = rw as_many o.queue.countable;
            };
            chained = around-kept (next_at mid.cells.items) (next_at new.cells.items) chain'.head chain'.len elsewhere ∙ k.rest;
            apart = fits.apart;
            below = fits.below;
            within = rw as_many fits.within;
            made = m ∙ rw (k.made, o.made) fits.makes;
          };
          as_many = as_many;
          counted = (omega (arith, n.0, k.counted.0), omega (arith, n.1, k.counted.1));
        }

    pub pushes-attached : (new : RingState) → 0 < len' → Attaches place newest' Free mid.cells new.cells → new.made ≡ made_below (place + 1) mid.made → Pushed place len' chain' new
    pushes-attached new some a m = pushes new m (Inserts-before mid.cells new.cells places_now place Free newest' linked_mid (starts some) fits.absent place_in a)
        (omega (arith, a.accesses), omega (arith, a.accesses))

    pub pushes-alone : (new : RingState) → len' ≡ 0 → new.cells ≡ written place (record { previous = place; next = place; held = Free }) mid.cells
        → new.made ≡ made_below (place + 1) mid.made → Pushed place len' chain' new
    pushes-alone new none w m =
        let first : None ≡ slice_get places_now 0 = ap (λ n. end_of n newest') (sym none) ∙ k.first ∙ o.queue.starts in
        let n = ap (λ (z : CellsState Record). z.accesses) w in
        pushes new m (Inserts-first mid.cells.items new.cells.items places_now place Free first place_in (ap (λ (z : CellsState Record). z.items) w)) (omega (arith, n), omega (arith, n))

  -- The last place moved to the front

  -- this place was the last of the order, and is now the first
  pub record Reuses (new : RingState) (oldest : ℕ) : Type 0 where
    pub oldest_was : last_or None places_now ≡ Some oldest
    pub order : IsOrderOf new (end_of len oldest) len chain (oldest ∷ take (length places_now - 1) places_now) free_now

  last_of : (first : ℕ) (ss : List ℕ) → IsLinked l.cells.items ss → Some first ≡ slice_get ss 0 → last_or None ss ≡ Some (previous_at l.cells.items first)
  last_of first [] k e = absurd (cc)
  last_of first (s ∷ ss) k e =
      let q : first ≡ s = cc in
      last_before (next_at l.cells.items) (previous_at l.cells.items) s ss s k.ring ∙ ap (λ z. Some (previous_at l.cells.items z)) (sym q)

  ends_in : (ss : List ℕ) (x : ℕ) → last_or None ss ≡ Some x → (xs : List ℕ) × (ss ≡ xs ++ x ∷ [])
  ends_in [] x e = absurd (cc)
  ends_in (s ∷ ss) x e = split_last ss s x e

  pub reuses : (new : RingState) (first oldest : ℕ) → new ≡ ring_state (accessed l.cells) l.made → 0 < length places_now → end_of len first ≡ newest → oldest ≡ previous_at l.cells.items first → Reuses new oldest
  reuses new first oldest w some is e =
      let occupied : 0 < len = omega (arith, some, o.queue.counted) in
      let was : last_or None places_now ≡ Some oldest = last_of first places_now o.queue.linked (sym (end_some len first occupied) ∙ is ∙ o.queue.starts) ∙ ap (λ z. Some z) (sym e) in
      let p = ends_in places_now oldest was in
      let xs = p.0 in
      let front : take (length places_now - 1) places_now ≡ xs = ap (λ (z : List ℕ). take (length z - 1) z) p.1 ∙ take_front xs oldest in
      let linked : IsLinked l.cells.items (oldest ∷ xs) = IsLinked-turned l.cells.items xs (oldest ∷ []) (subst (λ z. IsLinked l.cells.items z) p.1 o.queue.linked) in
      let same = (λ (t : ℕ) (h : list_any (eqb t) (oldest ∷ xs) ≡ true).
      subst (λ zs. list_any (eqb t) zs ≡ true) (sym p.1) (list_any-append (eqb t) xs (oldest ∷ []) ∙ or_swap (eqb t oldest) (list_any (eqb t) xs) h)) in
      let count : length places_now ≡ suc (length xs) = omega (arith, ap (λ (z : List ℕ). length z) p.1, length-append xs (oldest ∷ [])) in
      record {
        oldest_was = was;
        order = subst (λ z. IsOrderOf new (end_of len oldest) len chain (oldest ∷ z) free_now) (sym front)
            (subst (λ (z : RingState). IsOrderOf z (end_of len oldest) len chain (oldest ∷ xs) free_now) (sym w) (record {
              queue = record { linked = linked; starts = end_some len oldest occupied; counted = o.queue.counted ∙ count; countable = o.queue.countable };
              chained = refl;
              apart = apart-turned places_now (oldest ∷ xs) free_now linked.apart same o.apart;
              below = below-turned (suc (length xs) + length free_now) places_now (oldest ∷ xs) free_now same (subst (λ n. AllByRecursion (λ s. s < n + length free_now) (places_now ++ free_now)) count o.below);
              within = omega (arith, count, o.within);
              made = omega (arith, count, o.made);
            }));
      }

  -- A place taken out

  module _ (place : ℕ) (there : list_any (eqb place) places_now ≡ true) where
    pub place_fits : place < length l.cells.items
    place_fits = below_of (length l.cells.items) places_now o.queue.linked.below place there

    module _ (mid : RingState) (d : Detaches place l.cells mid.cells) where
      removed : Removes place places_now l.cells.items mid.cells.items
      removed = Removes-detached l.cells mid.cells places_now place o.queue.linked there d

      pub free_still : free_places mid.cells.items chain ≡ free_now
      free_still = around-kept (next_at l.cells.items) (next_at mid.cells.items) chain.head chain.len
          (λ t g. ap (λ (z : Record). z.next) (removed.others t (apart_back places_now free_now o.apart t g)))

      pub not_free : list_any (eqb place) (free_places mid.cells.items chain) ≡ false
      not_free = ap (λ zs. list_any (eqb place) zs) free_still ∙ apart_from places_now free_now o.apart place there

      pub chain_fits : chain.len + 1 < 2 ^ 32
      chain_fits =
          let some : 0 < length places_now = omega (arith, length-without place places_now o.queue.linked.apart there) in
          omega (arith, some, o.within, chain_counted, o.queue.countable)

      pub Unlinks : (new : RingState) (r : Record) (newest' : Option ℕ) (chain' : Chain) → new.cells ≡ written place r mid.cells → new.made ≡ l.made → free_places new.cells.items chain' ≡ place ∷ free_places mid.cells.items chain
          → newest' ≡ slice_get (without place places_now) 0 → IsOrderOf new newest' (len - 1) chain' (without place places_now) (place ∷ free_now)
      Unlinks new r newest' chain' w m c starts =
          let as_many : length new.cells.items ≡ length l.cells.items = ap (λ (z : CellsState Record). length z.items) w ∙ length-set mid.cells.items place r ∙ removed.as_many in
          let fits : place < length mid.cells.items = rw removed.as_many place_fits in
          let count = length-without place places_now o.queue.linked.apart there in
          let total : length places_now + length free_now ≡ length (without place places_now) + length (place ∷ free_now) = omega (arith, count) in
          let records : (t : ℕ) → list_any (eqb t) (without place places_now) ≡ true → record_at new.cells.items t ≡ record_at mid.cells.items t = (λ t h.
          ap (λ (z : CellsState Record). record_at z.items t) w ∙ changed (λ p. p) mid.cells.items place r vacant t fits ∙ rw ((among-without t place places_now h).1) refl) in
          let apart =
          IsDistinct-append (without place places_now) (place ∷ free_now) removed.linked.apart
          (distinct_more eqb place free_now (apart_from places_now free_now o.apart place there) (IsDistinct-right places_now free_now o.apart))
          (λ t h. let g = among-without t place places_now h in or_neither (eqb t place) (list_any (eqb t) free_now) g.1 (apart_from places_now free_now o.apart t g.0)) in
          let n = length places_now + length free_now in
          let below = AllByRecursion-append n (without place places_now) (place ∷ free_now)
          (below-among n (without place places_now) (λ t h. below_of n places_now (AllByRecursion-left n places_now free_now o.below) t (among-without t place places_now h).0))
          (below_of n places_now (AllByRecursion-left n places_now free_now o.below) place there, AllByRecursion-right n places_now free_now o.below) in
          record {
            queue = record {
              linked = IsLinked-kept mid.cells.items new.cells.items (without place places_now) removed.linked (as_many ∙ sym removed.as_many) records;
              starts = starts;
              counted = omega (arith, count, o.queue.counted);
              countable = rw as_many o.queue.countable;
            };
            chained = c ∙ ap (λ zs. place ∷ zs) free_still;
            apart = apart;
            below = subst (λ z. AllByRecursion (λ s. s < z) (without place places_now ++ place ∷ free_now)) total below;
            within = rw as_many (omega (arith, total, o.within));
            made = m ∙ o.made ∙ total;
          }

-- the counts after a place was taken out
pub unlinked_counts : (l mid new : CellsState Record) (place : ℕ) (r : Record) (ps fs : List ℕ) → Detaches place l mid → new ≡ written place r mid
    → ◌≡◌ {A = PlaceOrder} (record { places = ps; free = fs; limit = length new.items; accesses = new.accesses }) (record { places = ps; free = fs; limit = length l.items; accesses = l.accesses + 7 })
unlinked_counts l mid new place r ps fs d w = grind (arith, length-set)
