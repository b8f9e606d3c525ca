-- The hand's sweep over Main, one inspection after the other.
use Rattle.clock2q_queues.proofs.Names.{◌≡◌, ℕ, ◌+◌, ◌<◌, Bool, true, false, cond, ◌||◌, eqb, Some, slice_get, List, [], ◌∷◌, ◌++◌, length, map, drop, refl, sym, ap, ◌∙◌, subst, arith, both_ways}
use Rattle.clock2q_queues.proofs.Names.{or_cases, append-nil, append_assoc, map-append, take-append-le, drop-append-le, length_push, prefix_len-le-length, list_any, list_any-append, Main, IsRing}
use Rattle.clock2q_queues.proofs.Names.{accessed, is_linked, Record, LinkState, IsLinked, IsSameBut, slot_at, record_at, location_at, next_at, previous_at, bit_at, IsMain, IsMainQueue, main_slots}
use Rattle.clock2q_queues.proofs.Names.{main_entries, set_front, inspections, from_victim, eqb_self, among_first, among_later, differs, distinct_first, or_left, or_parts, or_neither}
use Rattle.clock2q_queues.proofs.Joining.{map-agree, IsLinked-turned}
use Rattle.clock2q_queues.proofs.Main.{main_slots-is, IsMainQueue-from}

-- appending an entry with a clear bit doesn't change the number of set bits in front
prefix_len-push : (es : List (ℕ × Bool)) (s : ℕ) → set_front (es ++ (s, false) ∷ []) ≡ set_front es
prefix_len-push [] s = refl
prefix_len-push ((t, true) ∷ es) s = ap (λ z. 1 + z) (prefix_len-push es s)
prefix_len-push ((t, false) ∷ es) s = refl

-- an entry that the hand passes goes to the end with a clear bit, and the choice is the same
pub from_victim-passed : (s : ℕ) (es : List (ℕ × Bool)) → from_victim ((s, true) ∷ es) ≡ from_victim (es ++ (s, false) ∷ [])
from_victim-passed s es = grind (arith, prefix_len-le-length, prefix_len-push, drop-append-le, take-append-le, append_assoc)

-- if the first bit is clear, the first entry is the victim
pub from_victim-chosen : (s : ℕ) (es : List (ℕ × Bool)) → from_victim ((s, false) ∷ es) ≡ (s, false) ∷ es
from_victim-chosen s es = append-nil ((s, false) ∷ es)

-- Main with its hand at a slot
abbrev pub with_hand : ℕ → Main → Main
with_hand hand main = record { hand = Some hand; len = main.len }

pub first_of : (ss : List ℕ) (first : ℕ) → Some first ≡ slice_get ss 0 → (rest : List ℕ) × (ss ≡ first ∷ rest)
first_of [] first e = absurd (cc)
first_of (s ∷ ss) first e = let q : s ≡ first = cc in (ss, ap (λ z. z ∷ ss) q)

-- the hand inspected a slot: its bit is clear, and nothing else changed but counts
pub record Looks (hand : ℕ) (old new : LinkState) : Type 0 where
  pub bits : (t : ℕ) → bit_at new t ≡ cond (eqb t hand) false (bit_at old t)
  pub items : new.records.items ≡ old.records.items
  pub window : new.window ≡ old.window
  pub made : new.made ≡ old.made
  pub inspections : new.bits.inspections ≡ old.bits.inspections + 1

starts_next : (next previous : ℕ → ℕ) (hand : ℕ) (rest : List ℕ) → IsRing next previous (hand ∷ rest) → Some (next hand) ≡ slice_get (rest ++ hand ∷ []) 0
starts_next next previous hand [] r = ap (λ z. Some z) r.0
starts_next next previous hand (t ∷ rest) r = ap (λ z. Some z) r.0

among-behind : (t hand : ℕ) (rest : List ℕ) → list_any (eqb t) (rest ++ hand ∷ []) ≡ true → list_any (eqb t) (hand ∷ rest) ≡ true
among-behind t hand rest h = grind (arith, or_cases, list_any-append, among_later, or_left, both_ways)

-- if no record changed, the hand may stay at a slot or move on from it
module _ (now l : LinkState) (main : Main) (hand : ℕ) (rest : List ℕ) (items : l.records.items ≡ now.records.items) (m : IsMain now (with_hand hand main) (hand ∷ rest)) where
  linked : IsLinked l.records.items (hand ∷ rest)
  linked = subst (λ (z : List Record). IsLinked z (hand ∷ rest)) (sym items) m.queue.linked

  as_many : length l.records.items ≡ length now.records.items
  as_many = ap (λ (z : List Record). length z) items

  turned : IsMain l (with_hand (next_at now.records.items hand) main) (rest ++ hand ∷ [])
  turned = record {
    queue = record {
      linked = IsLinked-turned l.records.items (hand ∷ []) rest linked;
      starts = starts_next (next_at now.records.items) (previous_at now.records.items) hand rest m.queue.linked.ring;
      counted = m.queue.counted ∙ (let e = length_push rest hand in omega arith);
      countable = rw as_many m.queue.countable;
    };
    location = λ t h. ap (λ (z : List Record). (record_at z t).held) items ∙ m.location t (among-behind t hand rest h);
  }

  stayed : IsMain l (with_hand hand main) (hand ∷ rest)
  stayed = grind (arith, linked, as_many)

-- an inspection of the hand's slot doesn't change the other bits
module _ (now l : LinkState) (main : Main) (hand : ℕ) (rest : List ℕ) (k : Looks hand now l) (m : IsMain now (with_hand hand main) (hand ∷ rest)) where
  others_kept : map {B = ℕ × Bool} (λ s. (s, bit_at l s)) rest ≡ map {B = ℕ × Bool} (λ s. (s, bit_at now s)) rest
  others_kept = map-agree {X = ℕ × Bool} (λ s. (s, bit_at l s)) (λ s. (s, bit_at now s)) rest (λ t h. ap (λ z. (t, z)) (k.bits t ∙ rw (differs t hand rest h (distinct_first eqb hand rest m.queue.linked.apart)) refl))

  hand_cleared : bit_at l hand ≡ false
  hand_cleared = k.bits hand ∙ rw (eqb_self hand) refl

  entries_turned : map {B = ℕ × Bool} (λ s. (s, bit_at l s)) (rest ++ hand ∷ []) ≡ map {B = ℕ × Bool} (λ s. (s, bit_at now s)) rest ++ (hand, false) ∷ []
  entries_turned = grind (arith, map-append, others_kept, hand_cleared)

  entries_stayed : map {B = ℕ × Bool} (λ s. (s, bit_at l s)) (hand ∷ rest) ≡ (hand, false) ∷ map {B = ℕ × Bool} (λ s. (s, bit_at now s)) rest
  entries_stayed = grind (arith, others_kept, hand_cleared)

  same_elsewhere : (t : ℕ) → list_any (eqb t) (hand ∷ rest) ≡ false → slot_at l t ≡ slot_at now t
  same_elsewhere t h = grind (arith, k.items, k.bits, or_parts)

first_entry : (bits : ℕ → Bool) (ss : List ℕ) (slot : ℕ) → slice_get (map {B = ℕ × Bool} (λ s. (s, bits s)) ss) 0 ≡ Some (slot, false)
    → (rest : List ℕ) × ((ss ≡ slot ∷ rest) × (bits slot ≡ false))
first_entry bits [] slot e = absurd (cc)
first_entry bits (s ∷ ss) slot e =
    let r : ◌≡◌ {A = ℕ × Bool} (s, bits s) (slot, false) = cc in
    let p : s ≡ slot = ap (λ z. z.0) r in
    (ss, (ap (λ z. z ∷ ss) p, subst (λ z. bits z ≡ false) p (ap (λ z. z.1) r)))

-- the hand moves on from its slot, whose record is read
module _ (now l : LinkState) (main : Main) (slot : ℕ) (m : IsMainQueue now main) (first : slice_get (main_entries now main) 0 ≡ Some (slot, false))
    (read : l ≡ record now { records = accessed now.records }) where
  at_front : (rest : List ℕ) × ((main_slots now main ≡ slot ∷ rest) × (bit_at now slot ≡ false))
  at_front = first_entry (λ s. bit_at now s) (main_slots now main) slot first

  abbrev behind : List ℕ
  behind = at_front.0

  front : IsMain now (with_hand slot main) (slot ∷ behind)
  front =
      subst (λ z. IsMain now z (slot ∷ behind)) (ap (λ h. record { hand = h; len = main.len }) (m.queue.starts ∙ ap (λ z. slice_get z 0) at_front.1.0))
      (subst (λ z. IsMain now main z) at_front.1.0 m)

  pub front_linked : is_linked (location_at now.records.items slot) ≡ true
  front_linked = ap is_linked (front.location slot (among_first slot behind))

  passed : IsMain l (with_hand (next_at now.records.items slot) main) (behind ++ slot ∷ [])
  passed = turned now l main slot behind (ap (λ (z : LinkState). z.records.items) read) front

  pub whole_passed : IsMainQueue l (with_hand (next_at now.records.items slot) main)
  whole_passed = IsMainQueue-from l (with_hand (next_at now.records.items slot) main) (behind ++ slot ∷ []) passed

  pub entries_passed : main_entries l (with_hand (next_at now.records.items slot) main) ≡ drop 1 (main_entries now main) ++ (slot, false) ∷ []
  entries_passed =
      ap (λ z. map {B = ℕ × Bool} (λ t. (t, bit_at l t)) z) (main_slots-is l (with_hand (next_at now.records.items slot) main) (behind ++ slot ∷ []) passed)
      ∙ map-append {B = ℕ × Bool} (λ s. (s, bit_at l s)) behind (slot ∷ [])
      ∙ ap (λ (z : LinkState). map {B = ℕ × Bool} (λ s. (s, bit_at z s)) behind ++ (slot, bit_at z slot) ∷ []) read
      ∙ ap (λ b. map {B = ℕ × Bool} (λ s. (s, bit_at now s)) behind ++ (slot, b) ∷ []) at_front.1.1
      ∙ ap (λ (z : List ℕ). drop 1 (map {B = ℕ × Bool} (λ s. (s, bit_at now s)) z) ++ (slot, false) ∷ []) (sym at_front.1.0)

-- the hand has come as far as this slot: the choice and the number of inspections in all are the same from here
pub record Swept (old : LinkState) (main : Main) (now : LinkState) (hand : ℕ) : Type 0 where
  pub whole : IsMainQueue now (with_hand hand main)
  pub choice : from_victim (main_entries now (with_hand hand main)) ≡ from_victim (main_entries old main)
  pub looks : inspections (main_entries now (with_hand hand main)) + now.bits.inspections ≡ inspections (main_entries old main) + old.bits.inspections
  pub accesses : now.records.accesses + old.bits.inspections ≡ now.bits.inspections + old.records.accesses
  pub members : (t : ℕ) → list_any (eqb t) (main_slots old main) ≡ false → list_any (eqb t) (main_slots now (with_hand hand main)) ≡ false
  pub same : IsSameBut (main_slots old main) old now
  pub window : now.window ≡ old.window
  pub made : now.made ≡ old.made

pub Swept-start : (old : LinkState) (hand len : ℕ) → IsMainQueue old (record { hand = Some hand; len = len }) → Swept old (record { hand = Some hand; len = len }) old hand
Swept-start old hand len m = record { whole = m; choice = refl; looks = refl; accesses = omega arith; members = λ t h. h; same = record { others = λ t h. refl; as_many = refl }; window = refl; made = refl }

module _ (old : LinkState) (main : Main) (now : LinkState) (hand : ℕ) (s : Swept old main now hand) where
  rest_of : (rest : List ℕ) × (main_slots now (with_hand hand main) ≡ hand ∷ rest)
  rest_of = first_of (main_slots now (with_hand hand main)) hand s.whole.queue.starts

  abbrev rest : List ℕ
  rest = rest_of.0

  at_hand : IsMain now (with_hand hand main) (hand ∷ rest)
  at_hand = subst (λ z. IsMain now (with_hand hand main) z) rest_of.1 s.whole

  pub hand_linked : is_linked (location_at now.records.items hand) ≡ true
  hand_linked = ap is_linked (at_hand.location hand (among_first hand rest))

  abbrev es : List (ℕ × Bool)
  es = map {B = ℕ × Bool} (λ t. (t, bit_at now t)) rest

  before : (b : Bool) → bit_at now hand ≡ b → main_entries now (with_hand hand main) ≡ (hand, b) ∷ es
  before b e = ap (λ z. map {B = ℕ × Bool} (λ t. (t, bit_at now t)) z) rest_of.1 ∙ ap (λ z. (hand, z) ∷ es) e

  absent_there : (t : ℕ) → list_any (eqb t) (main_slots old main) ≡ false → list_any (eqb t) (hand ∷ rest) ≡ false
  absent_there t h = subst (λ z. list_any (eqb t) z ≡ false) rest_of.1 (s.members t h)

  module _ (l : LinkState) (k : Looks hand now l) where
    -- the hand passed an entry whose bit was set
    module _ (b : bit_at now hand ≡ true) where
      after : main_entries l (with_hand (next_at now.records.items hand) main) ≡ es ++ (hand, false) ∷ []
      after =
          let entries = λ (slots : List ℕ). map {B = ℕ × Bool} (λ t. (t, bit_at l t)) slots in
          ap entries (main_slots-is l (with_hand (next_at now.records.items hand) main) (rest ++ hand ∷ []) (turned now l main hand rest k.items at_hand))
          ∙ entries_turned now l main hand rest k at_hand

      looks_left : inspections (main_entries now (with_hand hand main)) ≡ inspections (main_entries l (with_hand (next_at now.records.items hand) main)) + 1
      looks_left = ap inspections (before true b) ∙ (let e = prefix_len-push es hand in omega arith) ∙ ap (λ z. inspections z + 1) (sym after)

      Swept-passed : l.records.accesses ≡ now.records.accesses + 1 → Swept old main l (next_at now.records.items hand)
      Swept-passed a = record {
        whole = IsMainQueue-from l (with_hand (next_at now.records.items hand) main) (rest ++ hand ∷ []) (turned now l main hand rest k.items at_hand);
        choice = ap from_victim after ∙ sym (from_victim-passed hand es) ∙ ap from_victim (sym (before true b)) ∙ s.choice;
        looks = let e = s.looks in let f = looks_left in let n = k.inspections in omega arith;
        accesses = let e = s.accesses in let n = k.inspections in omega arith;
        members = λ t h.
            let q = or_parts (eqb t hand) (list_any (eqb t) rest) (absent_there t h) in
            ap (λ z. list_any (eqb t) z) (main_slots-is l (with_hand (next_at now.records.items hand) main) (rest ++ hand ∷ []) (turned now l main hand rest k.items at_hand))
            ∙ list_any-append (eqb t) rest (hand ∷ []) ∙ or_neither (list_any (eqb t) rest) (eqb t hand || false) q.1 (or_neither (eqb t hand) false q.0 refl);
        same = record {
          others = λ t h. same_elsewhere now l main hand rest k at_hand t (absent_there t h) ∙ s.same.others t h;
          as_many = as_many now l main hand rest k.items at_hand ∙ s.same.as_many;
        };
        window = k.window ∙ s.window;
        made = k.made ∙ s.made;
      }

-- the hand's choice
pub record Selects (old : LinkState) (main : Main) (new : LinkState) (main' : Main) (victim : ℕ) : Type 0 where
  pub whole : IsMainQueue new main'
  pub entries : main_entries new main' ≡ from_victim (main_entries old main)
  pub chosen : slice_get (main_entries new main') 0 ≡ Some (victim, false)
  pub others : IsSameBut (main_slots old main) old new
  pub window : new.window ≡ old.window
  pub made : new.made ≡ old.made
  pub looks : new.bits.inspections ≡ old.bits.inspections + inspections (main_entries old main)
  pub accesses : new.records.accesses + 1 ≡ old.records.accesses + inspections (main_entries old main)

module _ (old : LinkState) (main : Main) (now : LinkState) (hand : ℕ) (s : Swept old main now hand) (l : LinkState) (k : Looks hand now l)
    (b : bit_at now hand ≡ false) (a : l.records.accesses ≡ now.records.accesses) where
  chosen_entries : main_entries l (with_hand hand main) ≡ (hand, false) ∷ es old main now hand s
  chosen_entries = grind (arith, main_slots-is, stayed, at_hand, entries_stayed)

  Selects-from : Selects old main l (with_hand hand main) hand
  Selects-from =
      let r = rest old main now hand s in
      let m = at_hand old main now hand s in
      let zs = es old main now hand s in
      let was : main_entries now (with_hand hand main) ≡ (hand, false) ∷ zs = before old main now hand s false b in
      let one : inspections (main_entries now (with_hand hand main)) ≡ 1 = ap inspections was in
      record {
        whole = IsMainQueue-from l (with_hand hand main) (hand ∷ r) (stayed now l main hand r k.items m);
        entries = chosen_entries ∙ sym (from_victim-chosen hand zs) ∙ ap from_victim (sym was) ∙ s.choice;
        chosen = ap (λ (z : List (ℕ × Bool)). slice_get z 0) chosen_entries;
        others = record {
          others = λ t h. same_elsewhere now l main hand r k m t (absent_there old main now hand s t h) ∙ s.same.others t h;
          as_many = as_many now l main hand r k.items m ∙ s.same.as_many;
        };
        window = k.window ∙ s.window;
        made = k.made ∙ s.made;
        looks = let e = s.looks in let n = k.inspections in omega arith;
        accesses = let e = s.looks in let f = s.accesses in let n = k.inspections in omega arith;
      }

-- the same from the states in between: after the inspection, and after the read of the record
module _ (old : LinkState) (main : Main) (now : LinkState) (hand : ℕ) (s : Swept old main now hand) (mid : LinkState)
    (bits : (t : ℕ) → bit_at mid t ≡ cond (eqb t hand) false (bit_at now t)) (looked : mid ≡ record now { bits = mid.bits }) (counted : mid.bits.inspections ≡ now.bits.inspections + 1) where
  pub hand_linked_still : is_linked (location_at mid.records.items hand) ≡ true
  hand_linked_still =
      ap (λ (z : LinkState). is_linked (location_at z.records.items hand)) looked ∙ hand_linked old main now hand s

  Looks-only : Looks hand now mid
  Looks-only = record { bits = bits; items = ap (λ (z : LinkState). z.records.items) looked; window = ap (λ (z : LinkState). z.window) looked; made = ap (λ (z : LinkState). z.made) looked; inspections = counted }

  pub Selects-at : false ≡ bit_at now hand → Selects old main mid (with_hand hand main) hand
  Selects-at b = Selects-from old main now hand s mid Looks-only (sym b) (ap (λ (z : LinkState). z.records.accesses) looked)

  module _ (l : LinkState) (r : Record) (b : true ≡ bit_at now hand) (e : l ≡ record mid { records = accessed mid.records }) (v : r ≡ record_at mid.records.items hand) where
    Looks-read : Looks hand now l
    Looks-read = grind (arith, Looks-only)

    next_is : r.next ≡ next_at now.records.items hand
    next_is = ap (λ (q : Record). q.next) v ∙ ap (λ (z : LinkState). next_at z.records.items hand) looked

    read_counted : l.records.accesses ≡ now.records.accesses + 1
    read_counted = ap (λ (z : LinkState). z.records.accesses) e ∙ ap (λ (z : LinkState). z.records.accesses + 1) looked

    pub Swept-step : Swept old main l r.next
    Swept-step = rw next_is (Swept-passed old main now hand s l Looks-read (sym b) read_counted)

    pub fewer_left : inspections (main_entries l (with_hand r.next main)) < inspections (main_entries now (with_hand hand main))
    fewer_left = rw next_is (let f = looks_left old main now hand s l Looks-read (sym b) in omega arith)
