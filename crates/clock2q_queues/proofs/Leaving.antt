-- Small after a slot left it.
use Rattle.clock2q_queues.proofs.Names.{◌≡◌, ℕ, ◌-◌, ◌<◌, ◌≢◌, true, false, not, cond, eqb, Option, Some, None, List, length, map, get_or, inl, inr, refl, sym, ap, ◌∙◌, subst, arith, filter, list_any}
use Rattle.clock2q_queues.proofs.Names.{eqb-true, eq-eqb, ne_eqb, both_ways, cases_Bool, cases_lt, length-set, get_or_past, set_past, Age, Location, Free, SmallYoung, SmallOld, Small, CellsState}
use Rattle.clock2q_queues.proofs.Names.{without, Record, LinkState, IsLinked, IsSameBut, Detaches, SetsBit, record_at, next_at, previous_at, location_at, bit_at, young_at}
use Rattle.clock2q_queues.proofs.Names.{position_freed, IsSmall, IsSmallQueue, small_slots, small_entries, age_at, changed, differs, eqb_swap, among-without, among-without-back, set}
use Rattle.clock2q_queues.specs.declared.entries.Location.TheVariants.{Main}
use Rattle.clock2q_queues.proofs.Joining.{Removes, Removes-detached, map-agree, first_left, last_left, filter-entries, length-without}
use Rattle.clock2q_queues.proofs.Window.{AreStaying, aged_slots, small_slots-is, IsSmallQueue-from}

-- Positions

window-freed : (location : Location) (l : LinkState) → length (position_freed location l).window.items ≡ length l.window.items
window-freed Free l = refl
window-freed (SmallYoung position) l = length-set l.window.items position None
window-freed SmallOld l = refl
window-freed Main l = refl

-- a position was emptied
emptied : (xs : List (Option ℕ)) (at p : ℕ) → get_or (set xs at None) p None ≡ cond (eqb p at) None (get_or xs p None)
emptied xs at p = elim (cases_lt at (length xs)) [
  | inl w ↦ changed (λ z. z) xs at None None p w
  | inr w ↦ grind (arith, set_past, get_or_past, cases_Bool, eqb-true)
]

-- a slot keeps its position, if it isn't the one that was emptied
young_at_kept : (location : Location) (l : LinkState) (p t : ℕ) → young_at l p ≡ Some t
    → ((position : ℕ) → location ≡ SmallYoung position → p ≢ position) → young_at (position_freed location l) p ≡ Some t
young_at_kept Free l p t h d = h
young_at_kept (SmallYoung position) l p t h d = emptied l.window.items position p ∙ rw (ne_eqb p position (d position refl)) h
young_at_kept SmallOld l p t h d = h
young_at_kept Main l p t h d = h

young_at_was : (location : Location) (l : LinkState) (p t : ℕ) → young_at (position_freed location l) p ≡ Some t
    → (young_at l p ≡ Some t) × ((position : ℕ) → location ≡ SmallYoung position → p ≢ position)
young_at_was Free l p t h = (h, λ position e. absurd (cc))
young_at_was (SmallYoung position) l p t h = elim (cases_Bool (eqb p position)) [
  | inl g ↦ let q : young_at (position_freed (SmallYoung position) l) p ≡ None = emptied l.window.items position p ∙ rw g refl in absurd (cc)
  | inr g ↦ (sym (emptied l.window.items position p ∙ rw g refl) ∙ h, λ q e c. let r : q ≡ position = cc in both_ways (eqb p position) g (eq-eqb p position (c ∙ r)))
]
young_at_was SmallOld l p t h = (h, λ position e. absurd (cc))
young_at_was Main l p t h = (h, λ position e. absurd (cc))

-- The slots that stay

module _ (slot : ℕ) {old : LinkState} {small : Small} (mid : LinkState) {new : LinkState} (m : IsSmallQueue old small) (h : list_any (eqb slot) (small_slots old small) ≡ true)
    (kept : (t : ℕ) → eqb t slot ≡ false → location_at mid.records.items t ≡ location_at old.records.items t)
    (as_many : length mid.records.items ≡ length old.records.items) (positions : mid.window.items ≡ old.window.items)
    {location : Location} (was : location ≡ location_at old.records.items slot) (e : new ≡ position_freed location mid) where
  pub records_now : new.records.items ≡ mid.records.items
  records_now = ap (λ (l : LinkState). l.records.items) e

  pub window_now : length new.window.items ≡ length old.window.items
  window_now = ap (λ (l : LinkState). length l.window.items) e ∙ window-freed location mid ∙ ap (λ (z : List (Option ℕ)). length z) positions

  pub location_now : (t : ℕ) → eqb t slot ≡ false → location_at new.records.items t ≡ location_at old.records.items t
  location_now t g = ap (λ (z : List Record). location_at z t) records_now ∙ kept t g

  placed_now : (t position : ℕ) → list_any (eqb t) (without slot (small_slots old small)) ≡ true → location_at new.records.items t ≡ SmallYoung position
      → (position < length new.window.items) × (young_at new position ≡ Some t)
  placed_now t position g y =
      let w = among-without t slot (small_slots old small) g in
      let z : location_at old.records.items t ≡ SmallYoung position = sym (location_now t w.1) ∙ y in
      let p = m.placed t position w.0 z in
      let k : young_at mid position ≡ Some t = ap (λ q. get_or q position None) positions ∙ p.1 in (
        rw window_now p.0,
        ap (λ l. young_at l position) e ∙ young_at_kept location mid position t k (λ q s c.
            let o = (m.placed slot q h (sym was ∙ s)).1 in
            let f : young_at old position ≡ Some slot = ap (λ r. young_at old r) c ∙ o in
            let x : t ≡ slot = let a = p.1 in cc in
            both_ways (eqb t slot) w.1 (eq-eqb t slot x)),
      )

  occupied_now : (position t : ℕ) → young_at new position ≡ Some t → (list_any (eqb t) (without slot (small_slots old small)) ≡ true) × (location_at new.records.items t ≡ SmallYoung position)
  occupied_now position t g = grind (arith, young_at_was, cases_Bool, eqb-true, among-without-back, location_now)

  -- all but the slot whose position was emptied
  pub others_stay : AreStaying new small.cursor (without slot (small_slots old small))
  others_stay = record {
    location = λ t g. let w = among-without t slot (small_slots old small) g in rw (location_now t w.1) (m.location t w.0);
    placed = placed_now;
    occupied = occupied_now;
    cursor_in = λ p. rw window_now (m.cursor_in (rw window_now at p));
    countable = rw (ap (λ (z : List Record). length z) records_now ∙ as_many) m.queue.countable;
    countable_positions = rw window_now m.countable_positions;
  }

  -- their ages don't change
  pub ages_kept : ((t : ℕ) → eqb t slot ≡ false → bit_at mid t ≡ bit_at old t) → aged_slots new small.cursor (without slot (small_slots old small)) ≡ filter (λ e. not (eqb e.0 slot)) (small_entries old small)
  ages_kept bits =
      map-agree {X = ℕ × Age} (λ s. (s, age_at new small.cursor s)) (λ s. (s, age_at old small.cursor s)) (without slot (small_slots old small))
      (λ t g.
      let w = among-without t slot (small_slots old small) g in
      let b : bit_at new t ≡ bit_at old t = ap (λ (l : LinkState). bit_at l t) e ∙ bits t w.1 in
      ap (λ z. (t, z)) (rw (window_now, location_now t w.1, b) refl))
      ∙ sym (filter-entries slot (λ s. age_at old small.cursor s) (small_slots old small))

-- a slot was taken out of Small
pub record UnlinksSmall (slot : ℕ) (old : LinkState) (small : Small) (new : LinkState) (small' : Small) : Type 0 where
  pub whole : IsSmallQueue new small'
  pub entries : small_entries new small' ≡ filter (λ e. not (eqb e.0 slot)) (small_entries old small)
  pub freed : location_at new.records.items slot ≡ Free
  pub others : IsSameBut (small_slots old small) old new
  pub window : length new.window.items ≡ length old.window.items

module _ (slot : ℕ) (old : LinkState) (small : Small) (mid new : LinkState) (m : IsSmallQueue old small) (h : list_any (eqb slot) (small_slots old small) ≡ true)
    (d : Detaches slot old.records mid.records) (cleared : SetsBit slot false old (record mid { records = old.records }))
    (location : Location) (was : location ≡ location_at old.records.items slot) (e : new ≡ position_freed location mid) where
  removed : Removes slot (small_slots old small) old.records.items mid.records.items
  removed = Removes-detached old.records mid.records (small_slots old small) slot m.queue.linked h d

  positions_mid : mid.window.items ≡ old.window.items
  positions_mid = ap (λ (z : CellsState (Option ℕ)). z.items) cleared.window

  records_left : new.records.items ≡ mid.records.items
  records_left = records_now slot mid m h removed.locations removed.as_many positions_mid was e

  window_left : length new.window.items ≡ length old.window.items
  window_left = window_now slot mid m h removed.locations removed.as_many positions_mid was e

  stay : AreStaying new small.cursor (without slot (small_slots old small))
  stay = others_stay slot mid m h removed.locations removed.as_many positions_mid was e

  as_many_left : length new.records.items ≡ length old.records.items
  as_many_left = ap (λ (z : List Record). length z) records_left ∙ removed.as_many

  linked_left : IsLinked new.records.items (without slot (small_slots old small))
  linked_left = subst (λ (z : List Record). IsLinked z (without slot (small_slots old small))) (sym records_left) removed.linked

  bit_mid : (t : ℕ) → eqb t slot ≡ false → bit_at mid t ≡ bit_at old t
  bit_mid t other = cleared.bits t ∙ rw other refl

  module _ (small' : Small) (len : small'.len ≡ small.len - 1) (cursor : small'.cursor ≡ small.cursor)
      (newest : small'.newest ≡ cond (eqb small.newest slot) (next_at old.records.items slot) small.newest)
      (oldest : small'.oldest ≡ cond (eqb small.oldest slot) (previous_at old.records.items slot) small.oldest) where
    whole_left : IsSmall new small' (without slot (small_slots old small))
    whole_left = grind (arith, linked_left, first_left, length-without, stay, last_left)

    pub UnlinksSmall-from : UnlinksSmall slot old small new small'
    UnlinksSmall-from = record {
      whole = IsSmallQueue-from new small' (without slot (small_slots old small)) whole_left;
      entries =
          ap (λ z. map {B = ℕ × Age} (λ s. (s, age_at new small'.cursor s)) z) (small_slots-is new small' (without slot (small_slots old small)) whole_left)
          ∙ ap (λ z. aged_slots new z (without slot (small_slots old small))) cursor
          ∙ ages_kept slot mid m h removed.locations removed.as_many positions_mid was e bit_mid;
      freed = ap (λ (z : List Record). location_at z slot) records_left ∙ ap (λ r. r.held) removed.freed;
      others =
          record {
            others = λ t g.
                let other : eqb t slot ≡ false = eqb_swap slot t (differs slot t (small_slots old small) h g) in
                ap (λ z. (z, bit_at new t)) (ap (λ (z : List Record). record_at z t) records_left ∙ removed.others t g)
                ∙ ap (λ z. (record_at old.records.items t, z)) (ap (λ (l : LinkState). bit_at l t) e ∙ bit_mid t other);
            as_many = as_many_left;
          };
      window = window_left;
    }
