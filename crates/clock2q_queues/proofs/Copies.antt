-- What a copy of a ring, of flags or of a window holds, which has room for more.
use Rattle.clock2q_queues.proofs.Names.{◌≡◌, ℕ, zero, suc, ◌+◌, ◌-◌, ◌*◌, ◌<◌, ◌≤◌, Bool, false, Option, None, List, [], ◌∷◌, ◌++◌, length, get_or, map, take, drop, replicate, refl, sym, ap, ◌∙◌}
use Rattle.clock2q_queues.proofs.Names.{subst, arith, append_assoc, get_or_append_left, get_or-append_right, get_or-drop, get_or-take, length-append, length-drop, length-map, length-replicate}
use Rattle.clock2q_queues.proofs.Names.{length-take-le, map-id, replicate-append-replicate, take_all, Location, Free, SmallYoung, SmallOld, Flag, CellsState, cells_state, AreLinks, FlagState}
use Rattle.clock2q_queues.proofs.Names.{all_flags, flag_state, is_linked, is_set, links_shown, says_linked, GrowsLinks, GrowsRing, moved_location, moved_record, with_gap, Record, LinkState}
use Rattle.clock2q_queues.proofs.Names.{all_records, record_at, vacant, RingState, ring_shown, get_or-same}
use Rattle.clock2q_queues.specs.declared.entries.Location.TheVariants.{Main}
use Rattle.clock2q_queues.proofs.AllRecords.{all-at, length-all}

-- Rings

changed_at : (change : Record → Record) → change vacant ≡ vacant → (rs : List Record) (t : ℕ) → record_at (map change rs) t ≡ change (record_at rs t)
changed_at change blank [] t = sym blank
changed_at change blank (r ∷ rs) zero = refl
changed_at change blank (r ∷ rs) (suc t) = changed_at change blank rs t

-- the records in memory were copied, each changed in this way
pub ring-grown : (change : Record → Record) → change vacant ≡ vacant → (rs rs' : List Record) → rs' ≡ map change rs → (old places a b : ℕ) (now : RingState) → ring_shown rs old a ≡ now
    → length rs ≤ old → length now.cells.items ≤ places → b ≡ now.cells.accesses + 2 * length rs → GrowsRing change places now (ring_shown rs' places b)
ring-grown change blank rs rs' copied old places a b now shown within fits counted =
    let many : length now.cells.items ≡ old = ap (λ (z : RingState). length z.cells.items) (sym shown) ∙ length-all vacant rs old within in
    let as_many : length rs' ≡ length rs = ap (λ (z : List Record). length z) copied ∙ length-map rs change in
    let made : now.made ≡ length rs = ap (λ (z : RingState). z.made) (sym shown) in
    record {
      entries = λ t. all-at vacant rs' places t ∙ ap (λ z. record_at z t) copied ∙ changed_at change blank rs t
          ∙ ap change (sym (all-at vacant rs old t) ∙ ap (λ (z : RingState). record_at z.cells.items t) shown);
      as_many = length-all vacant rs' places (omega (arith, as_many, many, within, fits));
      made = as_many ∙ sym made;
      within = omega (arith, made, many, within);
      accesses = omega (arith, counted, made);
    }

-- after the last record was copied
pub all-copied : (change : Record → Record) (es items copies : List Record) (k : ℕ) → copies ≡ map change (take k items) → items ≡ es → length items ≤ k
    → map (λ (r : Record). r) copies ≡ map change (map (λ (r : Record). r) es)
all-copied change es items copies k copied same done = map-id copies ∙ copied ∙ ap (λ z. map change z) (take_all k items done ∙ same ∙ sym (map-id es))

-- a record in memory
pub record-in : (es : List Record) (places t : ℕ) → record_at (all_records (map (λ (r : Record). r) es) places) t ≡ record_at es t
record-in es places t = all-at vacant (map (λ (r : Record). r) es) places t ∙ ap (λ z. record_at z t) (map-id es)

-- Flags

pub flags-grown : (fs : List Flag) (old new : ℕ) → length fs ≤ old → old ≤ new → all_flags fs new ≡ all_flags fs old ++ replicate (new - length (all_flags fs old)) Flag.Free
flags-grown fs old new within fits = grind (arith, append_assoc, replicate-append-replicate, length-all Flag.Free)

module _ (says : Flag → Bool) (free : says Flag.Free ≡ false) where
  said_free : (n t : ℕ) → get_or (map says (replicate n Flag.Free)) t false ≡ false
  said_free zero t = refl
  said_free (suc n) zero = free
  said_free (suc n) (suc t) = said_free n t

  said_at : (fs : List Flag) (n t : ℕ) → get_or (map says (fs ++ replicate n Flag.Free)) t false ≡ get_or (map says fs) t false
  said_at [] n t = said_free n t
  said_at (f ∷ fs) n zero = refl
  said_at (f ∷ fs) n (suc t) = said_at fs n t

-- The window

module _ {X : Type 0} (d : X) (at gap : ℕ) (xs : List X) (within : at ≤ length xs) where
  front_length : length (take at xs ++ replicate gap d) ≡ at + gap
  front_length = length-append (take at xs) (replicate gap d) ∙ (omega (arith, length-take-le at xs within, length-replicate gap d))

  pub gap-length : length (with_gap at gap d xs) ≡ length xs + gap
  gap-length = length-append (take at xs ++ replicate gap d) (drop at xs) ∙ (omega (arith, front_length, length-drop at xs, within))

  -- the items before the gap, in it and after it
  pub gap-below : (t : ℕ) → t < at → get_or (with_gap at gap d xs) t d ≡ get_or xs t d
  gap-below t below =
      get_or_append_left (take at xs ++ replicate gap d) (drop at xs) d t (omega (arith, front_length, below))
      ∙ get_or_append_left (take at xs) (replicate gap d) d t (omega (arith, length-take-le at xs within, below)) ∙ get_or-take at xs t d below

  pub gap-in : (t : ℕ) → at ≤ t → t < at + gap → get_or (with_gap at gap d xs) t d ≡ d
  gap-in t from below =
      get_or_append_left (take at xs ++ replicate gap d) (drop at xs) d t (omega (arith, front_length, below))
      ∙ get_or-append_right (take at xs) (replicate gap d) at t d (length-take-le at xs within) from ∙ get_or-same gap (t - at) d

  pub gap-above : (t : ℕ) → at + gap ≤ t → get_or (with_gap at gap d xs) t d ≡ get_or xs (t - gap) d
  gap-above t from =
      let e : at + (t - (at + gap)) ≡ t - gap = omega (arith, from) in
      get_or-append_right (take at xs ++ replicate gap d) (drop at xs) (at + gap) t d front_length from ∙ get_or-drop at xs (t - (at + gap)) d ∙ ap (λ z. get_or xs z d) e

-- Links

linked_moved : (cursor gap : ℕ) (location : Location) → is_linked (moved_location cursor gap location) ≡ is_linked location
linked_moved cursor gap Free = refl
linked_moved cursor gap (SmallYoung position) = refl
linked_moved cursor gap SmallOld = refl
linked_moved cursor gap Main = refl

module _ (old new : RingState) (flags flags' : FlagState) (slots cursor gap : ℕ) (were : AreLinks old flags)
    (g : GrowsRing (moved_record cursor gap) slots old new) (f : flags' ≡ flag_state (flags.items ++ replicate (slots - length flags.items) Flag.Free) flags.made) (fits : length old.cells.items ≤ slots) where
  pub AreLinks-grown : AreLinks new flags'
  AreLinks-grown = record {
    as_many = ap (λ (z : FlagState). length z.items) f ∙ length-append flags.items (replicate (slots - length flags.items) Flag.Free)
        ∙ (omega (arith, length-replicate (slots - length flags.items) Flag.Free, were.as_many, fits, g.as_many));
    agree = λ t. ap (λ (z : FlagState). get_or (map says_linked z.items) t false) f ∙ said_at says_linked refl flags.items (slots - length flags.items) t ∙ were.agree t
        ∙ sym (ap (λ (r : Record). is_linked r.held) (g.entries t) ∙ linked_moved cursor gap (record_at old.cells.items t).held);
    made = λ t linked. rw g.made (were.made t (sym (ap (λ (r : Record). is_linked r.held) (g.entries t) ∙ linked_moved cursor gap (record_at old.cells.items t).held) ∙ linked));
    together = ap (λ (z : FlagState). z.made) f ∙ were.together ∙ sym g.made;
  }

  pub GrowsLinks-from : (window window' : CellsState (Option ℕ)) (len a b : ℕ) (now : LinkState) → links_shown old flags.items window a ≡ now → gap ≡ len - length window.items → b ≡ a
      → window' ≡ cells_state (with_gap cursor (len - length window.items) None window.items) (window.accesses + 2 * length window.items)
      → GrowsLinks cursor slots len now (links_shown new flags'.items window' b)
  GrowsLinks-from window window' len a b now shown is same w = rw (← shown) (record {
    records = subst (λ z. (t : ℕ) → record_at new.cells.items t ≡ moved_record cursor z (record_at old.cells.items t)) is g.entries;
    bits = λ t. ap (λ (z : FlagState). get_or (map is_set z.items) t false) f ∙ said_at is_set refl flags.items (slots - length flags.items) t;
    positions = ap (λ (z : CellsState (Option ℕ)). z.items) w;
    as_many = g.as_many;
    made = g.made;
    within = g.within;
    inspections = same;
    accesses = omega (arith, g.accesses, ap (λ (z : CellsState (Option ℕ)). z.accesses) w);
  })
