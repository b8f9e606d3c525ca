-- Small, whose oldest slot became its newest.
use Rattle.clock2q_queues.proofs.Names.{◌≡◌, ℕ, ◌+◌, ◌<◌, true, false, not, cond, eqb, Option, Some, None, IfSome, List, [], ◌∷◌, ◌++◌, length, inl, inr, refl, sym, ap, ◌∙◌, subst, arith, filter}
use Rattle.clock2q_queues.proofs.Names.{last_or, list_any, IsDistinct, AllByRecursion, cases_Bool, eqb-true, append-nil, length-set, list_any-append, Location, SmallYoung, Small, CellsState, HitBits}
use Rattle.clock2q_queues.proofs.Names.{accessed, bit_in, written, without, Record, LinkState, IsLinked, IsSameBut, SetsBit, end_of, record_at, young_at, next_at, previous_at, location_at, bit_at}
use Rattle.clock2q_queues.proofs.Names.{with_location, vacant, position_freed, is_linked, IsSmallQueue, GrowsOld, small_slots, small_entries, admitted, next_cursor, and_false, or_parts, or_neither}
use Rattle.clock2q_queues.proofs.Names.{changed, IsRing-kept, eqb_self, among-without_test, without-parted}
use Rattle.clock2q_queues.proofs.InQueue.{in_small_linked}
use Rattle.clock2q_queues.proofs.Joining.{Inserts, IsLinked-turned, end_some, in_bounds, last_before, length-without, same_record, split_last}
use Rattle.clock2q_queues.proofs.Leaving.{others_stay, ages_kept, records_now, window_now}
use Rattle.clock2q_queues.proofs.SlotLists.{tail_among}
use Rattle.clock2q_queues.proofs.Window.{AreStaying, Admits, Admits-from, aged_slots, cursor_linked}

-- a list that ends with this slot is the others, then the slot
ends_in : (ss : List ℕ) (slot : ℕ) → IsDistinct eqb ss → last_or None ss ≡ Some slot → ss ≡ without slot ss ++ slot ∷ []
ends_in [] slot a e = absurd (cc)
ends_in (s ∷ ss) slot a e =
    let p = split_last ss s slot e in
    let w : without slot (s ∷ ss) ≡ p.0 = ap (λ z. without slot z) p.1 ∙ without-parted p.0 slot [] (subst (λ z. IsDistinct eqb z) p.1 a) ∙ append-nil p.0 in
    p.1 ∙ ap (λ z. z ++ slot ∷ []) (sym w)

-- if there is a slot, there is an oldest one
pub oldest_is : {l : LinkState} {small : Small} → IsSmallQueue l small → 0 < length (small_slots l small) → last_or None (small_slots l small) ≡ Some small.oldest
oldest_is {l} {small} m some = sym m.ends ∙ end_some small.len small.oldest (omega (arith, some, m.queue.counted))

-- the slot is none of the others
pub gone : (slot : ℕ) (ss : List ℕ) → list_any (eqb slot) (without slot ss) ≡ false
gone slot ss = among-without_test slot slot ss ∙ rw (eqb_self slot) (and_false (list_any (eqb slot) ss))

-- the location of a slot was changed, and nothing else
pub relocated : (rs : CellsState Record) (slot : ℕ) (location : Location) (t : ℕ) → slot < length rs.items
    → (next_at (with_location slot location rs).items t ≡ next_at rs.items t) × (previous_at (with_location slot location rs).items t ≡ previous_at rs.items t)
    × (location_at (with_location slot location rs).items t ≡ cond (eqb t slot) location (location_at rs.items t))
relocated rs slot location t fits =
    let r : Record = record (record_at rs.items slot) { held = location } in
    let nexts = changed (λ p. p.next) rs.items slot r vacant t fits in
    let previouses = changed (λ p. p.previous) rs.items slot r vacant t fits in
    let locations = changed (λ p. p.held) rs.items slot r vacant t fits in
    elim (cases_Bool (eqb t slot)) [
      | inl g ↦
          let q : t ≡ slot = eqb-true t slot g in
          (nexts ∙ rw g (ap (λ z. next_at rs.items z) (sym q)), previouses ∙ rw g (ap (λ z. previous_at rs.items z) (sym q)), locations)
      | inr g ↦ (nexts ∙ rw g refl, previouses ∙ rw g refl, locations)
    ]

-- the oldest slot of Small became its newest
pub record Turns (slot : ℕ) (old : LinkState) (small : Small) (new : LinkState) (small' : Small) : Type 0 where
  pub whole : IsSmallQueue new small'
  pub entries : small_entries new small' ≡ admitted (length old.window.items) slot (filter (λ e. not (eqb e.0 slot)) (small_entries old small))
  pub others : IsSameBut (small_slots old small) old new
  pub window : length new.window.items ≡ length old.window.items

module _ (slot : ℕ) (old : LinkState) (small : Small) (m : IsSmallQueue old small) (is : last_or None (small_slots old small) ≡ Some slot) where
  abbrev rest : List ℕ
  rest = without slot (small_slots old small)

  pub there : list_any (eqb slot) (small_slots old small) ≡ true
  there = tail_among (small_slots old small) slot is

  pub slot_fits : slot < length old.records.items
  slot_fits = in_bounds old.records.items (small_slots old small) slot m.queue.linked there

  parted : small_slots old small ≡ rest ++ slot ∷ []
  parted = ends_in (small_slots old small) slot m.queue.linked.apart is

  linked_before : IsLinked old.records.items (rest ++ slot ∷ [])
  linked_before = subst (λ z. IsLinked old.records.items z) parted m.queue.linked

  -- the one before it is the last of the others, or itself
  last_is : Some (previous_at old.records.items slot) ≡ last_or None (slot ∷ rest)
  last_is = sym (last_before (next_at old.records.items) (previous_at old.records.items) slot rest slot (IsLinked-turned old.records.items rest (slot ∷ []) linked_before).ring)

  -- its record was read
  abbrev pub read : LinkState
  read = record old { records = accessed old.records }

  module _ (left : LinkState) (e : left ≡ position_freed (location_at old.records.items slot) read) where
    stay : AreStaying left small.cursor rest
    stay = others_stay slot read m there (λ t g. refl) refl refl refl e

    pub window_left : length left.window.items ≡ length old.window.items
    window_left = window_now slot read m there (λ t g. refl) refl refl refl e

    records_left : left.records.items ≡ old.records.items
    records_left = records_now slot read m there (λ t g. refl) refl refl refl e

    bits_left : left.bits ≡ old.bits
    bits_left = ap (λ (l : LinkState). l.bits) e

    -- the position of the cursor holds another slot of Small, or none
    pub others_linked : IfSome (young_at left small.cursor) (λ t. is_linked (location_at left.records.items t) ≡ true)
    others_linked = cursor_linked stay

    module _ (mid aged : LinkState) (o : GrowsOld small.cursor left mid) (a : aged ≡ record mid { window = written small.cursor (Some slot) mid.window }) where
      pub aged_fits : slot < length aged.records.items
      aged_fits = rw (ap (λ (l : LinkState). length l.records.items) a ∙ o.as_many ∙ ap (λ (rs : List Record). length rs) records_left) slot_fits

      -- the slot is still in a queue
      pub aged_linked : is_linked (location_at aged.records.items slot) ≡ true
      aged_linked = grind (arith, in_small_linked, there, cases_Bool)

    module _ (mid aged new : LinkState) (small' : Small) (w : 0 < length old.window.items) (o : GrowsOld small.cursor left mid)
        (a : aged ≡ record mid { window = written small.cursor (Some slot) mid.window })
        (moved : new.records ≡ accessed (with_location slot (SmallYoung small.cursor) aged.records)) (cleared : SetsBit slot false aged (record new { records = aged.records }))
        (newest : small'.newest ≡ slot) (oldest : small'.oldest ≡ previous_at old.records.items slot) (len : small'.len ≡ small.len)
        (cursor : small'.cursor ≡ next_cursor (length left.window.items) small.cursor) where
      window_new : length new.window.items ≡ length left.window.items
      window_new = ap (λ (w : CellsState (Option ℕ)). length w.items) cleared.window ∙ ap (λ (l : LinkState). length l.window.items) a
          ∙ length-set mid.window.items small.cursor (Some slot) ∙ ap (λ (z : List (Option ℕ)). length z) o.positions

      stood : (t : ℕ) → (next_at new.records.items t ≡ next_at mid.records.items t) × (previous_at new.records.items t ≡ previous_at mid.records.items t)
          × (location_at new.records.items t ≡ cond (eqb t slot) (SmallYoung small.cursor) (location_at mid.records.items t))
      stood t = grind (arith, relocated, aged_fits)

      as_many_new : length new.records.items ≡ length mid.records.items
      as_many_new = ap (λ (r : CellsState Record). length r.items) moved ∙ length-set aged.records.items slot _ ∙ ap (λ (l : LinkState). length l.records.items) a

      inserted : Inserts slot (SmallYoung small.cursor) rest mid.records.items new.records.items
      inserted =
          let as_before : length new.records.items ≡ length old.records.items = as_many_new ∙ o.as_many ∙ ap (λ (rs : List Record). length rs) records_left in
          let below = subst (λ z. AllByRecursion (λ s. s < z) (rest ++ slot ∷ [])) (sym as_before) linked_before.below in
          grind (arith, IsRing-kept, linked_before, stood, as_before, or_parts, same_record, below)

      counted : small'.len ≡ length rest + 1
      counted = omega (arith, len, m.queue.counted, length-without slot (small_slots old small) m.queue.linked.apart there)

      admits : Admits slot left small.cursor rest new small'
      admits = Admits-from small' stay (gone slot (small_slots old small)) (rw window_left w) o a inserted
          (record { positions = ap (λ (w : CellsState (Option ℕ)). w.items) cleared.window; bits = λ t other. cleared.bits t ∙ rw other refl })
          newest (ap (λ z. end_of small'.len z) oldest ∙ end_some small'.len (previous_at old.records.items slot) (omega (arith, counted)) ∙ last_is) counted
          cursor

      pub Turns-from : Turns slot old small new small'
      Turns-from = record {
        whole = admits.whole;
        entries = admits.entries ∙ ap (λ z. admitted z slot (aged_slots left small.cursor rest)) window_left
            ∙ ap (λ z. admitted (length old.window.items) slot z) (ages_kept slot read m there (λ t g. refl) refl refl refl e (λ t other. refl));
        others = record {
          others = λ t h.
              let h' : list_any (eqb t) (slot ∷ rest) ≡ false = not_turned t h in
              admits.others.others t h' ∙ ap (λ (rs : List Record). (record_at rs t, bit_at left t)) records_left ∙ ap (λ (b : HitBits). (record_at old.records.items t, bit_in b.items t)) bits_left;
          as_many = admits.others.as_many ∙ ap (λ (rs : List Record). length rs) records_left;
        };
        window = window_new ∙ window_left;
      }
        where
          not_turned : (t : ℕ) → list_any (eqb t) (small_slots old small) ≡ false → list_any (eqb t) (slot ∷ rest) ≡ false
          not_turned t h =
              let p : list_any (eqb t) (rest ++ slot ∷ []) ≡ false = subst (λ z. list_any (eqb t) z ≡ false) parted h in
              let q = or_parts (list_any (eqb t) rest) (list_any (eqb t) (slot ∷ [])) (sym (list_any-append (eqb t) rest (slot ∷ [])) ∙ p) in
              or_neither (eqb t slot) (list_any (eqb t) rest) (or_parts (eqb t slot) false q.1).0 q.0
