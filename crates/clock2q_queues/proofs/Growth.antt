-- Queues and an order over links and a ring that got room for more.
use Rattle.clock2q_queues.proofs.Names.{◌≡◌, ℕ, ◌+◌, ◌-◌, ◌^◌, ◌<◌, ◌≤◌, Bool, true, eqb, Option, Some, None, List, length, map, get_or, inl, inr, refl, sym, ap, ◌∙◌, subst, arith, list_any}
use Rattle.clock2q_queues.proofs.Names.{cases_Bool, cases_lt, lt-ltb, le-ltb, Age, Location, Free, SmallYoung, SmallOld, Main, Chain, Small, GrowsLinks, GrowsRing, moved_location, moved_position}
use Rattle.clock2q_queues.proofs.Names.{with_gap, Record, IsQueue, LinkState, accesses_of, bit_at, location_at, next_at, previous_at, slots_from, young_at, IsMain, main_slots, IsOrder, IsOrderOf}
use Rattle.clock2q_queues.proofs.Names.{free_places, AreQueues, queues_shown, RingState, IsInSmall, IsSmall, admissions_since, age_at, age_of, small_slots, IsRing-kept, below-more}
use Rattle.clock2q_machine.specs.Ages as ages
use Rattle.clock2q_queues.specs.declared.entries.Location.TheVariants as at
use Rattle.clock2q_queues.proofs.Copies.{gap-above, gap-below, gap-in, gap-length}
use Rattle.clock2q_queues.proofs.Joining.{map-agree}
use Rattle.clock2q_queues.proofs.Main.{IsMainQueue-from, main_slots-is}
use Rattle.clock2q_queues.proofs.Orders.{around-kept}
use Rattle.clock2q_queues.proofs.Sharing.{Becomes, queues_equal}
use Rattle.clock2q_queues.proofs.Window.{IsSmallQueue-from, small_slots-is}

-- a queue whose slots have the same neighbours, among more records
IsQueue-grown : (old new : List Record) (first : Option ℕ) (count : ℕ) (ss : List ℕ) → ((t : ℕ) → next_at new t ≡ next_at old t) → ((t : ℕ) → previous_at new t ≡ previous_at old t)
    → length old ≤ length new → length new < 2 ^ 32 → IsQueue old first count ss → IsQueue new first count ss
IsQueue-grown old new first count ss n p more countable q = record {
  linked = record {
    ring = IsRing-kept (next_at old) (previous_at old) (next_at new) (previous_at new) ss q.linked.ring (λ t h. n t) (λ t h. p t);
    apart = q.linked.apart;
    below = below-more (length old) (length new) ss more q.linked.below;
  };
  starts = q.starts;
  counted = q.counted;
  countable = countable;
}

-- Orders

module _ (old new : RingState) (newest : Option ℕ) (len : ℕ) (chain : Chain) (limit : ℕ) (g : GrowsRing (λ e. e) limit old new) (fits : length old.cells.items ≤ limit) (countable : limit < 2 ^ 32)
    (o : IsOrder old newest len chain) where
  pub order-grown : IsOrderOf new newest len chain (slots_from old.cells.items newest len) (free_places old.cells.items chain)
  order-grown = grind (arith, IsQueue-grown, around-kept)

-- Small and Main

-- each young slot has a position of the window
pub young_within : (l : LinkState) (small : Small) (main : Main) → AreQueues l small main → (t position : ℕ) → location_at l.records.items t ≡ SmallYoung position → position < length l.window.items
young_within l small main q t position young = elim (cases_Bool (list_any (eqb t) (small_slots l small))) [
  | inl h ↦ (q.small.placed t position h young).0
  | inr n ↦ elim (cases_Bool (list_any (eqb t) (main_slots l main))) [
    | inl h ↦ let e : at.Main ≡ SmallYoung position = sym (q.main.location t h) ∙ young in absurd (cc)
    | inr m ↦ let e : Free ≡ SmallYoung position = sym (q.elsewhere t n m) ∙ young in absurd (cc)
  ]
]

in_small_moved : (cursor gap : ℕ) (location : Location) → IsInSmall location → IsInSmall (moved_location cursor gap location)
in_small_moved cursor gap (SmallYoung position) i = tt
in_small_moved cursor gap SmallOld i = tt
in_small_moved cursor gap Free i = i
in_small_moved cursor gap at.Main i = i

-- a location with a position had one before
young_before : (cursor gap position : ℕ) (location : Location) → moved_location cursor gap location ≡ SmallYoung position → (p : ℕ) × ((location ≡ SmallYoung p) × (moved_position cursor gap p ≡ position))
young_before cursor gap position (SmallYoung p) e = (p, (refl, cc))
young_before cursor gap position SmallOld e = absurd (cc)
young_before cursor gap position Free e = absurd (cc)
young_before cursor gap position at.Main e = absurd (cc)

-- as many admissions were made since
admissions-moved : (window cursor gap position : ℕ) → cursor ≤ window → position < window → admissions_since (window + gap) cursor (moved_position cursor gap position) ≡ admissions_since window cursor position
admissions-moved window cursor gap position c p = grind (arith, cases_lt, lt-ltb, le-ltb)

age_moved : (window cursor cursor' gap : ℕ) (location : Location) (bit : Bool) → cursor ≤ window → (0 < window → cursor ≡ cursor') → ((position : ℕ) → location ≡ SmallYoung position → position < window)
    → age_of (window + gap) cursor (moved_location cursor gap location) bit ≡ age_of window cursor' location bit
age_moved window cursor cursor' gap (SmallYoung position) bit c same p =
    let within : position < window = p position refl in
    let e : cursor ≡ cursor' = same (omega (arith, within)) in
    ap (λ z. ages.Young z) (admissions-moved window cursor gap position c within ∙ ap (λ z. admissions_since window z position) e)
age_moved window cursor cursor' gap SmallOld bit c same p = refl
age_moved window cursor cursor' gap Free bit c same p = refl
age_moved window cursor cursor' gap at.Main bit c same p = refl

-- a position past the gap holds what it held
moved_at : (cursor gap position : ℕ) (xs : List (Option ℕ)) → cursor ≤ length xs → get_or (with_gap cursor gap None xs) (moved_position cursor gap position) None ≡ get_or xs position None
moved_at cursor gap position xs c = grind (arith, cases_lt, lt-ltb, le-ltb, gap-below, gap-above)

-- and what a position holds was held before
held_before : (cursor gap position t : ℕ) (xs : List (Option ℕ)) → cursor ≤ length xs → get_or (with_gap cursor gap None xs) position None ≡ Some t
    → (p : ℕ) × ((moved_position cursor gap p ≡ position) × (get_or xs p None ≡ Some t))
held_before cursor gap position t xs c held = elim (cases_lt position cursor) [
  | inl below ↦ (position, (rw (lt-ltb position cursor below) refl, sym (gap-below None cursor gap xs c position below) ∙ held))
  | inr from ↦ elim (cases_lt position (cursor + gap)) [
    | inl in_gap ↦ absurd (nothing (sym (gap-in None cursor gap xs c position from in_gap) ∙ held))
    | inr above ↦ (position - gap, (rw (le-ltb (position - gap) cursor (omega (arith, above))) (omega (arith, above)), sym (gap-above None cursor gap xs c position above) ∙ held))
  ]
]
  where
    nothing : None ≡ Some t → ⊥
    nothing e = cc

module _ (l : LinkState) (small : Small) (main : Main) (new : LinkState) (cursor slots window : ℕ) (q : AreQueues l small main) (g : GrowsLinks cursor slots window l new)
    (more_slots : length l.records.items ≤ slots) (more_positions : length l.window.items ≤ window) (slots_fit : slots < 2 ^ 32) (window_fits : window < 2 ^ 32)
    (cursor_in : cursor ≤ length l.window.items) (same_cursor : 0 < length l.window.items → cursor ≡ small.cursor) where
  abbrev gap : ℕ
  gap = window - length l.window.items

  abbrev small' : Small
  small' = record small { cursor = cursor }

  abbrev ss : List ℕ
  ss = small_slots l small

  location_new : (t : ℕ) → location_at new.records.items t ≡ moved_location cursor gap (location_at l.records.items t)
  location_new t = ap (λ (r : Record). r.held) (g.records t)

  window_new : length new.window.items ≡ window
  window_new = ap (λ (z : List (Option ℕ)). length z) g.positions ∙ gap-length None cursor gap l.window.items cursor_in ∙ (omega (arith, more_positions))

  young_new : (position : ℕ) → young_at new position ≡ get_or (with_gap cursor gap None l.window.items) position None
  young_new position = ap (λ z. get_or z position None) g.positions

  queue_new : (first : Option ℕ) (count : ℕ) (ts : List ℕ) → IsQueue l.records.items first count ts → IsQueue new.records.items first count ts
  queue_new first count ts k =
      IsQueue-grown l.records.items new.records.items first count ts (λ t. ap (λ (r : Record). r.next) (g.records t)) (λ t. ap (λ (r : Record). r.previous) (g.records t))
      (rw g.as_many more_slots) (rw g.as_many slots_fit) k

  placed_new : (t position : ℕ) → list_any (eqb t) ss ≡ true → location_at new.records.items t ≡ SmallYoung position → (position < length new.window.items) × (young_at new position ≡ Some t)
  placed_new t position h y =
      let b = young_before cursor gap position (location_at l.records.items t) (sym (location_new t) ∙ y) in
      let p = q.small.placed t b.0 h b.1.0 in
      let within : moved_position cursor gap b.0 < window = grind (arith, cases_lt, lt-ltb, le-ltb) in (
        rw window_new (subst (λ z. z < window) b.1.1 within),
        young_new position ∙ ap (λ z. get_or (with_gap cursor gap None l.window.items) z None) (sym b.1.1) ∙ moved_at cursor gap b.0 l.window.items cursor_in ∙ p.1,
      )

  occupied_new : (position t : ℕ) → young_at new position ≡ Some t → (list_any (eqb t) ss ≡ true) × (location_at new.records.items t ≡ SmallYoung position)
  occupied_new position t h =
      let b = held_before cursor gap position t l.window.items cursor_in (sym (young_new position) ∙ h) in
      let o = q.small.occupied b.0 t b.1.1 in
      (o.0, location_new t ∙ ap (λ z. moved_location cursor gap z) o.1 ∙ ap (λ z. SmallYoung z) b.1.0)

  cursor_new : 0 < length new.window.items → cursor < length new.window.items
  cursor_new some = grind (arith, cases_lt, window_new)

  small_new : IsSmall new small' ss
  small_new = record {
    queue = queue_new _ _ ss q.small.queue;
    ends = q.small.ends;
    location = λ t h. subst (λ z. IsInSmall z) (sym (location_new t)) (in_small_moved cursor gap (location_at l.records.items t) (q.small.location t h));
    placed = placed_new;
    occupied = occupied_new;
    cursor_in = cursor_new;
    countable_positions = rw window_new window_fits;
  }

  main_new : IsMain new main (main_slots l main)
  main_new = record {
    queue = queue_new _ _ (main_slots l main) q.main.queue;
    location = λ t h. location_new t ∙ ap (λ z. moved_location cursor gap z) (q.main.location t h);
  }

  age_new : (t : ℕ) → list_any (eqb t) ss ≡ true → age_at new cursor t ≡ age_at l small.cursor t
  age_new t h =
      let longer : window ≡ length l.window.items + gap = omega (arith, more_positions) in
      ap (λ n. age_of n cursor (location_at new.records.items t) (bit_at new t)) (window_new ∙ longer)
      ∙ ap (λ z. age_of (length l.window.items + gap) cursor z (bit_at new t)) (location_new t)
      ∙ age_moved (length l.window.items) cursor small.cursor gap (location_at l.records.items t) (bit_at new t) cursor_in same_cursor (λ position y. (q.small.placed t position h y).0)
      ∙ ap (λ z. age_of (length l.window.items) small.cursor (location_at l.records.items t) z) (g.bits t)

  pub queues-grown : Becomes new small' main (record (queues_shown l small main) { slots = slots; window = window; accesses = accesses_of new })
  queues-grown =
      let s = small_slots-is new small' ss small_new in
      let m = main_slots-is new main (main_slots l main) main_new in
      record {
        queues = record {
          small = IsSmallQueue-from new small' ss small_new;
          main = IsMainQueue-from new main (main_slots l main) main_new;
          elsewhere = λ t a b. location_new t ∙ ap (λ z. moved_location cursor gap z) (q.elsewhere t (ap (λ z. list_any (eqb t) z) (sym s) ∙ a) (ap (λ z. list_any (eqb t) z) (sym m) ∙ b));
        };
        is = queues_equal (queues_shown new small' main) (record (queues_shown l small main) { slots = slots; window = window; accesses = accesses_of new })
            (ap (λ z. map {B = ℕ × Age} (λ s. (s, age_at new cursor s)) z) s ∙ map-agree {X = ℕ × Age} (λ s. (s, age_at new cursor s)) (λ s. (s, age_at l small.cursor s)) ss (λ t h. ap (λ z. (t, z)) (age_new t h)))
            (ap (λ z. map {B = ℕ × Bool} (λ s. (s, bit_at new s)) z) m ∙ map-agree {X = ℕ × Bool} (λ s. (s, bit_at new s)) (λ s. (s, bit_at l s)) (main_slots l main) (λ t h. ap (λ z. (t, z)) (g.bits t)))
            g.as_many g.made window_new refl g.inspections;
      }
