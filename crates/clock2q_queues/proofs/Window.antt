-- Small: how its list and the window change when a slot is admitted or leaves.
use Rattle.clock2q_queues.proofs.Names.{◌≡◌, ℕ, ◌+◌, ◌^◌, ◌<◌, ◌≢◌, Bool, true, false, cond, eqb, Option, Some, None, slice_get, IfSome, List, [], ◌∷◌, length, map, set, get_or, inl, inr, refl, sym}
use Rattle.clock2q_queues.proofs.Names.{ap, ◌∙◌, subst, arith, last_or, list_any, AllByRecursion, eqb-true, eq-eqb, ne_eqb, both_ways, cases_Bool, or_cases, lt-ltb, le-ltb, cases_lt, length-set, Age}
use Rattle.clock2q_queues.proofs.Names.{grown_older, Location, Free, SmallYoung, SmallOld, Small, CellsState, accessed, written, is_linked, Record, LinkState, IsBlank, IsLinked, IsSameBut, Attaches}
use Rattle.clock2q_queues.proofs.Names.{SetsBit, end_of, record_at, previous_at, location_at, bit_at, young_at, IsSmall, IsSmallQueue, IsInSmall, GrowsOld, small_slots, small_entries}
use Rattle.clock2q_queues.proofs.Names.{admissions_since, next_cursor, age_of, age_at, admitted, is_there, changed, IsRing-kept, eqb_self, among_first, among_later, differs, distinct_none, or_left}
use Rattle.clock2q_queues.proofs.Names.{or_parts}
use Rattle.clock2q_machine.specs.Ages as ages
use Rattle.clock2q_queues.specs.declared.entries.Location.TheVariants.{Main}
use Rattle.clock2q_queues.proofs.InQueue.{in_small_linked}
use Rattle.clock2q_queues.proofs.Joining.{Inserts, Inserts-before, Inserts-first, slots_from-is, IsLinked-turned, end_some, first_in, previous_in, same_record}

-- Ages

-- the slot that is admitted has age 0
pub admissions_since-own : (window cursor : ℕ) → cursor < window → admissions_since window (next_cursor window cursor) cursor ≡ 0
admissions_since-own window cursor h = grind (arith, cases_lt, lt-ltb, le-ltb)

-- the slot at the cursor is the oldest of the window
pub admissions_since-cursor : (window cursor : ℕ) → cursor < window → admissions_since window cursor cursor + 1 ≡ window
admissions_since-cursor window cursor h = rw (le-ltb cursor cursor (omega arith)) (omega arith)

-- a young slot at another position grows older by one, and is still within the window
pub admissions_since-other : (window cursor position : ℕ) → cursor < window → position < window → position ≢ cursor
    → (admissions_since window (next_cursor window cursor) position ≡ admissions_since window cursor position + 1) × (admissions_since window cursor position + 1 < window)
admissions_since-other window cursor position h p d = grind (arith, cases_lt, lt-ltb, le-ltb)

-- The slot at a position

is_there-true : (o : Option ℕ) (t : ℕ) → is_there o t ≡ true → o ≡ Some t
is_there-true None t e = absurd (both_ways false refl e)
is_there-true (Some s) t e = ap (λ z. Some z) (sym (eqb-true t s e))

is_there-own : (o : Option ℕ) (t : ℕ) → o ≡ Some t → is_there o t ≡ true
is_there-own o t e = subst (λ z. is_there z t ≡ true) (sym e) (eqb_self t)

aged_location : (window cursor : ℕ) (location : Location) (bit : Bool) → cursor < window
    → ((position : ℕ) → location ≡ SmallYoung position → (position < window) × (position ≢ cursor))
    → age_of window (next_cursor window cursor) location bit ≡ grown_older window (age_of window cursor location bit)
aged_location window cursor Free bit h y = refl
aged_location window cursor SmallOld bit h y = refl
aged_location window cursor Main bit h y = refl
aged_location window cursor (SmallYoung position) bit h y =
    let p = y position refl in
    let a = admissions_since-other window cursor position h p.0 p.1 in
    rw (lt-ltb (admissions_since window cursor position + 1) window a.1) (ap (λ z. ages.Young z) a.0)

grown-at_cursor : (window cursor : ℕ) (bit : Bool) → cursor < window → grown_older window (age_of window cursor (SmallYoung cursor) bit) ≡ ages.Old false
grown-at_cursor window cursor bit h =
    let a = admissions_since-cursor window cursor h in
    rw (le-ltb (admissions_since window cursor cursor + 1) window (omega arith)) refl

entries-mapped : (f g : ℕ → Age) (h : Age → Age) (ss : List ℕ) → ((t : ℕ) → list_any (eqb t) ss ≡ true → f t ≡ h (g t))
    → map {B = ℕ × Age} (λ s. (s, f s)) ss ≡ map {A = ℕ × Age} {B = ℕ × Age} (λ e. (e.0, h e.1)) (map {B = ℕ × Age} (λ s. (s, g s)) ss)
entries-mapped f g h [] e = refl
entries-mapped f g h (s ∷ ss) e =
    ap (λ z. (s, z) ∷ map {B = ℕ × Age} (λ s. (s, f s)) ss) (e s (among_first s ss))
    ∙ ap (λ zs. (s, h (g s)) ∷ zs) (entries-mapped f g h ss (λ t k. e t (among_later t s ss k)))

pub small_slots-is : (l : LinkState) (small : Small) (ss : List ℕ) → IsSmall l small ss → small_slots l small ≡ ss
small_slots-is l small ss m = slots_from-is l.records.items (end_of small.len small.newest) small.len ss m.queue

pub IsSmallQueue-from : (l : LinkState) (small : Small) (ss : List ℕ) → IsSmall l small ss → IsSmallQueue l small
IsSmallQueue-from l small ss m = subst (λ z. IsSmall l small z) (sym (small_slots-is l small ss m)) m

-- the queue after the slot at the cursor became old
linked_still : (old mid : LinkState) (ss : List ℕ) (cursor : ℕ) → IsLinked old.records.items ss → GrowsOld cursor old mid → IsLinked mid.records.items ss
linked_still old mid ss cursor k o = grind (arith, IsRing-kept, subst (λ z. AllByRecursion (λ s. s < z) ss) (sym o.as_many) k.below)

-- the slots of Small, perhaps without one that leaves: their locations, and what the window's positions hold
pub record AreStaying (l : LinkState) (cursor : ℕ) (ss : List ℕ) : Type 0 where
  pub location : (t : ℕ) → list_any (eqb t) ss ≡ true → IsInSmall (location_at l.records.items t)
  pub placed : (t position : ℕ) → list_any (eqb t) ss ≡ true → location_at l.records.items t ≡ SmallYoung position → (position < length l.window.items) × (young_at l position ≡ Some t)
  pub occupied : (position t : ℕ) → young_at l position ≡ Some t → (list_any (eqb t) ss ≡ true) × (location_at l.records.items t ≡ SmallYoung position)
  pub cursor_in : 0 < length l.window.items → cursor < length l.window.items
  pub countable : length l.records.items < 2 ^ 32
  pub countable_positions : length l.window.items < 2 ^ 32

-- all of them, if none leaves
pub all_stay : {l : LinkState} {small : Small} → IsSmallQueue l small → AreStaying l small.cursor (small_slots l small)
all_stay m = grind (arith)

-- a slot at the cursor is in Small
pub cursor_linked : {l : LinkState} {cursor : ℕ} {ss : List ℕ} → AreStaying l cursor ss → IfSome (young_at l cursor) (λ slot. is_linked (location_at l.records.items slot) ≡ true)
cursor_linked {l} {cursor} {ss} m = of (young_at l cursor) refl
  where
    of : (o : Option ℕ) → young_at l cursor ≡ o → IfSome o (λ slot. is_linked (location_at l.records.items slot) ≡ true)
    of None e = tt
    of (Some t) e = in_small_linked (location_at l.records.items t) (m.location t (m.occupied cursor t e).0)

-- the slot at the cursor became old, and its position was given to another: the links between the two
abbrev pub aged_before : LinkState → LinkState → LinkState
aged_before old new = record new { window = accessed old.window }

pub position_taken : (old new : LinkState) (cursor slot : ℕ) → new.window ≡ written cursor (Some slot) (accessed old.window)
    → new ≡ record (aged_before old new) { window = written cursor (Some slot) (aged_before old new).window }
position_taken old new cursor slot e = ap (λ (w : CellsState (Option ℕ)). record new { window = w }) e

-- the slots with their ages
abbrev pub aged_slots : LinkState → ℕ → List ℕ → List (ℕ × Age)
aged_slots l cursor ss = map (λ s. (s, age_at l cursor s)) ss

-- a slot was admitted to Small, which keeps these
pub record Admits (slot : ℕ) (old : LinkState) (cursor : ℕ) (ss : List ℕ) (new : LinkState) (small' : Small) : Type 0 where
  pub whole : IsSmallQueue new small'
  pub slots : small_slots new small' ≡ slot ∷ ss
  pub entries : small_entries new small' ≡ admitted (length old.window.items) slot (aged_slots old cursor ss)
  pub others : IsSameBut (slot ∷ ss) old new

-- the positions are the same, and so is the bit of each slot but this one
pub record IsSameWithout (slot : ℕ) (old new : LinkState) : Type 0 where
  pub positions : new.window.items ≡ old.window.items
  pub bits : (t : ℕ) → eqb t slot ≡ false → bit_at new t ≡ bit_at old t

module _ {slot : ℕ} {old : LinkState} {cursor : ℕ} {ss : List ℕ} {mid aged new : LinkState} (small' : Small)
    (m : AreStaying old cursor ss) (absent : list_any (eqb slot) ss ≡ false) (w : 0 < length old.window.items)
    (o : GrowsOld cursor old mid) (e : aged ≡ record mid { window = written cursor (Some slot) mid.window })
    (i : Inserts slot (SmallYoung cursor) ss mid.records.items new.records.items)
    (same : IsSameWithout slot aged new)
    (newest : small'.newest ≡ slot) (oldest : end_of small'.len small'.oldest ≡ last_or None (slot ∷ ss))
    (count : small'.len ≡ length ss + 1) (moved : small'.cursor ≡ next_cursor (length old.window.items) cursor) where
  within : cursor < length old.window.items
  within = m.cursor_in w

  window_items_new : new.window.items ≡ set old.window.items cursor (Some slot)
  window_items_new = same.positions ∙ ap (λ (l : LinkState). l.window.items) e ∙ ap (λ (z : List (Option ℕ)). set z cursor (Some slot)) o.positions

  window_new : length new.window.items ≡ length old.window.items
  window_new = ap (λ (z : List (Option ℕ)). length z) window_items_new ∙ length-set old.window.items cursor (Some slot)

  slots_new : length new.records.items ≡ length old.records.items
  slots_new = i.as_many ∙ o.as_many

  young_at_new : (p : ℕ) → young_at new p ≡ cond (eqb p cursor) (Some slot) (young_at old p)
  young_at_new p = ap (λ z. get_or z p None) window_items_new ∙ changed (λ z. z) old.window.items cursor (Some slot) None p within

  location_new : (t : ℕ) → location_at new.records.items t ≡ cond (eqb t slot) (SmallYoung cursor) (cond (is_there (young_at old cursor) t) SmallOld (location_at old.records.items t))
  location_new t = i.locations t ∙ ap (λ z. cond (eqb t slot) (SmallYoung cursor) z) (o.locations t)

  bit_new : (t : ℕ) → eqb t slot ≡ false → bit_at new t ≡ cond (is_there (young_at old cursor) t) false (bit_at old t)
  bit_new t other = same.bits t other ∙ ap (λ (l : LinkState). bit_at l t) e ∙ o.bits t

  -- a young slot of the queue that isn't at the cursor has another position
  elsewhere : (t position : ℕ) → list_any (eqb t) ss ≡ true → is_there (young_at old cursor) t ≡ false
      → location_at old.records.items t ≡ SmallYoung position → (position < length old.window.items) × (position ≢ cursor)
  elsewhere t position h n y =
      let p = m.placed t position h y in
      (p.0, λ q. both_ways (is_there (young_at old cursor) t) n (is_there-own _ t (subst (λ z. young_at old z ≡ Some t) q p.1)))

  aged_at : (t : ℕ) → list_any (eqb t) ss ≡ true → age_at new small'.cursor t ≡ grown_older (length old.window.items) (age_at old cursor t)
  aged_at t h =
      let d : eqb t slot ≡ false = differs t slot ss h absent in
      elim (cases_Bool (is_there (young_at old cursor) t)) [
        | inl g ↦
            let y = (m.occupied cursor t (is_there-true _ t g)).1 in
            rw (moved, window_new, location_new t, bit_new t d, d, g, y) (sym (grown-at_cursor (length old.window.items) cursor (bit_at old t) within))
        | inr g ↦
            rw (moved, window_new, location_new t, bit_new t d, d, g)
            (aged_location (length old.window.items) cursor (location_at old.records.items t) (bit_at old t) within (λ position y. elsewhere t position h g y))
      ]

  own_location : location_at new.records.items slot ≡ SmallYoung cursor
  own_location = location_new slot ∙ rw (eqb_self slot) refl

  -- a slot that is in the queue now was in it before, unless it is new
  young_new : (t position : ℕ) → list_any (eqb t) (slot ∷ ss) ≡ true → location_at new.records.items t ≡ SmallYoung position → (position < length new.window.items) × (young_at new position ≡ Some t)
  young_new t position h y = grind (arith, cases_Bool, eqb-true, own_location, window_new, within, young_at_new, eqb_self, or_cases, both_ways, location_new, elsewhere, ne_eqb)

  occupied_new : (position t : ℕ) → young_at new position ≡ Some t → (list_any (eqb t) (slot ∷ ss) ≡ true) × (location_at new.records.items t ≡ SmallYoung position)
  occupied_new position t h = grind (arith, cases_Bool, young_at_new, or_left, eq-eqb, own_location, eqb-true, differs, is_there-true, both_ways, among_later, location_new)

  in_small_new : (t : ℕ) → list_any (eqb t) (slot ∷ ss) ≡ true → IsInSmall (location_at new.records.items t)
  in_small_new t h = grind (arith, cases_Bool, location_new, or_cases, both_ways)

  cursor_new : small'.cursor < length new.window.items
  cursor_new = grind (arith, cases_lt, window_new, lt-ltb, le-ltb)

  whole_new : IsSmall new small' (slot ∷ ss)
  whole_new = record {
    queue = record {
      linked = IsLinked-turned new.records.items ss (slot ∷ []) i.linked;
      starts = ap (λ z. end_of small'.len z) newest ∙ end_some small'.len slot (omega (arith, count));
      counted = omega (arith, count);
      countable = rw slots_new m.countable;
    };
    ends = oldest;
    location = in_small_new;
    placed = young_new;
    occupied = occupied_new;
    cursor_in = λ h. cursor_new;
    countable_positions = rw window_new m.countable_positions;
  }

  pub Admits-from : Admits slot old cursor ss new small'
  Admits-from = record {
    whole = IsSmallQueue-from new small' (slot ∷ ss) whole_new;
    slots = small_slots-is new small' (slot ∷ ss) whole_new;
    entries =
        ap (λ z. map {B = ℕ × Age} (λ s. (s, age_at new small'.cursor s)) z) (small_slots-is new small' (slot ∷ ss) whole_new)
        ∙ ap (λ z. (slot, z) ∷ map {B = ℕ × Age} (λ s. (s, age_at new small'.cursor s)) ss)
        (rw (own_location, window_new, moved) (ap (λ z. ages.Young z) (admissions_since-own (length old.window.items) cursor within)))
        ∙ ap (λ z. (slot, ages.Young 0) ∷ z)
        (entries-mapped (λ s. age_at new small'.cursor s) (λ s. age_at old cursor s) (λ a. grown_older (length old.window.items) a) ss aged_at);
    others = record {
      others = λ t h.
          let d : eqb t slot ≡ false = (or_parts (eqb t slot) (list_any (eqb t) ss) h).0 in
          let k : list_any (eqb t) ss ≡ false = (or_parts (eqb t slot) (list_any (eqb t) ss) h).1 in
          let f : is_there (young_at old cursor) t ≡ false = elim (cases_Bool (is_there (young_at old cursor) t)) [
            | inl z ↦ absurd (both_ways (list_any (eqb t) ss) k (m.occupied cursor t (is_there-true _ t z)).0)
            | inr z ↦ z
          ] in
          ap (λ z. (z, bit_at new t)) (i.others t h ∙ same_record (record_at mid.records.items t) (record_at old.records.items t) (o.previouses t) (o.nexts t) (o.locations t ∙ rw f refl))
          ∙ ap (λ z. (record_at old.records.items t, z)) (bit_new t d ∙ rw f refl);
      as_many = slots_new;
    };
  }

-- a queue with no slot, if no position is taken
pub IsSmallQueue-empty : (l : LinkState) → IsBlank l → IsSmallQueue l (record { newest = 0; oldest = 0; len = 0; cursor = 0 })
IsSmallQueue-empty l b = record {
  queue = record { linked = record { ring = tt; apart = distinct_none eqb; below = tt }; starts = refl; counted = refl; countable = b.countable };
  ends = refl;
  location = λ t h. absurd (both_ways false refl h);
  placed = λ t position h y. absurd (both_ways false refl h);
  occupied = λ position t h. let f = b.free position in absurd (cc);
  cursor_in = λ h. h;
  countable_positions = b.countable_positions;
}

last_behind : (ss : List ℕ) (slot first : ℕ) → Some first ≡ slice_get ss 0 → last_or None ss ≡ last_or None (slot ∷ ss)
last_behind [] slot first e = absurd (cc)
last_behind (s ∷ ss) slot first e = refl

last_alone : (ss : List ℕ) (slot : ℕ) → None ≡ slice_get ss 0 → Some slot ≡ last_or None (slot ∷ ss)
last_alone [] slot e = refl
last_alone (s ∷ ss) slot e = absurd (cc)

module _ (slot : ℕ) (old : LinkState) (small : Small) (mid aged : LinkState) (m : IsSmallQueue old small)
    (o : GrowsOld small.cursor old mid) (e : aged ≡ record mid { window = written small.cursor (Some slot) mid.window }) where
  records_aged : aged.records ≡ mid.records
  records_aged = ap (λ (l : LinkState). l.records) e

  still_in : (t : ℕ) → list_any (eqb t) (small_slots old small) ≡ true → is_linked (location_at aged.records.items t) ≡ true
  still_in t there = grind (arith, cases_Bool, in_small_linked)

  -- the slots between which a new one is put are in Small
  pub first_linked : 0 < small.len
      → (is_linked (location_at aged.records.items small.newest) ≡ true) × (is_linked (location_at aged.records.items (previous_at aged.records.items small.newest)) ≡ true)
  first_linked some = grind (arith, first_in, end_some, still_in, previous_in)

  module _ (new : LinkState) (small' : Small) (b : slot < length old.records.items) (absent : list_any (eqb slot) (small_slots old small) ≡ false) (w : 0 < length old.window.items)
      (cleared : SetsBit slot false aged (record new { records = aged.records; made = aged.made })) (n : small'.newest ≡ slot)
      (c : small'.len ≡ small.len + 1) (r : small'.cursor ≡ next_cursor (length old.window.items) small.cursor) where
    counted : small'.len ≡ length (small_slots old small) + 1
    counted = omega (arith, c, m.queue.counted)

    same : IsSameWithout slot aged new
    same = record { positions = ap (λ (z : CellsState (Option ℕ)). z.items) cleared.window; bits = λ t other. cleared.bits t ∙ rw other refl }

    ends_at : (oldest : ℕ) → small'.oldest ≡ oldest → end_of small'.len small'.oldest ≡ Some oldest
    ends_at oldest d = ap (λ z. end_of small'.len z) d ∙ end_some small'.len oldest (omega (arith, c))

    pub Admits-attached : 0 < small.len
        → Attaches slot small.newest (SmallYoung small.cursor) aged.records new.records → small'.oldest ≡ small.oldest → Admits slot old small.cursor (small_slots old small) new small'
    Admits-attached some a d =
        let newest = small.newest in
        let k = linked_still old mid (small_slots old small) small.cursor m.queue.linked o in
        let s = sym (end_some small.len newest some) ∙ m.queue.starts in
        let a' : Attaches slot newest (SmallYoung small.cursor) mid.records new.records =
        subst (λ (z : CellsState Record). Attaches slot newest (SmallYoung small.cursor) z new.records) records_aged a in
        Admits-from small' (all_stay m) absent w o e
        (Inserts-before mid.records new.records (small_slots old small) slot (SmallYoung small.cursor) newest k s absent (rw o.as_many b) a') same
        n (ends_at small.oldest d ∙ sym (end_some small.len small.oldest some) ∙ m.ends ∙ last_behind (small_slots old small) slot newest s) counted r

    pub Admits-alone : small.len ≡ 0 → new.records.items ≡ set aged.records.items slot (record { previous = slot; next = slot; held = SmallYoung small.cursor })
        → small'.oldest ≡ slot → Admits slot old small.cursor (small_slots old small) new small'
    Admits-alone h a d =
        let s : None ≡ slice_get (small_slots old small) 0 = ap (λ n. end_of n small.newest) (sym h) ∙ m.queue.starts in
        Admits-from small' (all_stay m) absent w o e
        (Inserts-first mid.records.items new.records.items (small_slots old small) slot (SmallYoung small.cursor) s (rw o.as_many b)
        (a ∙ ap (λ (z : CellsState Record). set z.items slot (record { previous = slot; next = slot; held = SmallYoung small.cursor })) records_aged)) same
        n (ends_at slot d ∙ last_alone (small_slots old small) slot s) counted r
