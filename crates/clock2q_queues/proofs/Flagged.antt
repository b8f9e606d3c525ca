-- The flags of the slots agree with the records after a write to both.
use Rattle.clock2q_queues.proofs.Names.{◌≡◌, ℕ, ◌+◌, ◌<◌, ◌≤◌, Bool, true, false, None, eqb, Option, List, map, length, get_or, set, replicate, inl, inr, refl, sym, ap, ◌∙◌, arith}
use Rattle.clock2q_queues.proofs.Names.{cases_Bool, eqb-true, get_or-map, length-map, length-replicate, length-set, map-set, Flag, Location, CellsState, cells_state, Record, SetsBit, fresh}
use Rattle.clock2q_queues.proofs.Names.{made_below, Attaches, Detaches, location_at, vacant, RingState, ring_state, changed, get_or-same, mapped-same, eqb_self, AreLinks, FlagState, flag_state}
use Rattle.clock2q_queues.proofs.Names.{is_linked, is_set, links_shown, says_linked}
use Rattle.clock2q_queues.proofs.AllRecords.{linked_within}

-- a flag was written that says this
pub mapped-set : (says : Flag → Bool) (flags : List Flag) (slot : ℕ) (f : Flag) (b : Bool) → says f ≡ b → map says (set flags slot f) ≡ set (map says flags) slot b
mapped-set says flags slot f b e = map-set says flags slot f ∙ ap (λ z. set (map says flags) slot z) e

-- no slot is in a queue
pub are_fresh : (n accesses : ℕ) (ring : RingState) (flags : FlagState) → ring ≡ ring_state (cells_state (replicate n vacant) accesses) 0 → flags ≡ flag_state (replicate n Flag.Free) 0
    → AreLinks ring flags
are_fresh n accesses ring flags empty free = grind (arith, get_or-same, mapped-same, length-replicate)

-- the flag of a slot that is in a queue says so
pub flag_linked : {ring : RingState} {flags : FlagState} → AreLinks ring flags → (slot : ℕ) → is_linked (location_at ring.cells.items slot) ≡ true
    → says_linked (get_or flags.items slot Flag.Free) ≡ true
flag_linked {ring} {flags} were slot linked =
    sym (get_or-map says_linked flags.items slot Flag.Free false (rw were.as_many (linked_within ring.cells.items slot linked))) ∙ were.agree slot ∙ linked

-- the flag of a slot was written, and its record perhaps: they still agree if they do at this slot
module _ {old : RingState} {flags flags' : FlagState} (slot : ℕ) (f : Flag) (were : AreLinks old flags) (flagged : flags'.items ≡ set flags.items slot f) where
  flags_written : (new : RingState) → slot < length old.cells.items → length new.cells.items ≡ length old.cells.items → says_linked f ≡ is_linked (location_at new.cells.items slot)
      → ((t : ℕ) → eqb t slot ≡ false → is_linked (location_at new.cells.items t) ≡ is_linked (location_at old.cells.items t))
      → old.made ≤ new.made → (is_linked (location_at new.cells.items slot) ≡ true → slot < new.made) → flags'.made ≡ new.made → AreLinks new flags'
  flags_written new within as_many here elsewhere more made together = record {
    as_many = rw flagged (length-set flags.items slot f) ∙ were.as_many ∙ sym as_many;
    agree = λ t. ap (λ z. get_or (map says_linked z) t false) flagged ∙ ap (λ z. get_or z t false) (mapped-set says_linked flags.items slot f (says_linked f) refl)
        ∙ changed (λ b. b) (map says_linked flags.items) slot (says_linked f) false t (rw (length-map flags.items says_linked, were.as_many) within)
        ∙ elim (cases_Bool (eqb t slot)) [
          | inl e ↦ rw e (here ∙ ap (λ z. is_linked (location_at new.cells.items z)) (sym (eqb-true t slot e)))
          | inr e ↦ rw e (were.agree t ∙ sym (elsewhere t e))
        ];
    made = λ t linked. elim (cases_Bool (eqb t slot)) [
      | inl e ↦ rw (eqb-true t slot e) (made (ap (λ z. is_linked (location_at new.cells.items z)) (sym (eqb-true t slot e)) ∙ linked))
      | inr e ↦ omega (arith, were.made t (sym (elsewhere t e) ∙ linked), more)
    ];
    together = together;
  }

  -- its record stays
  pub flags_changed : is_linked (location_at old.cells.items slot) ≡ true → says_linked f ≡ true → flags'.made ≡ flags.made → AreLinks old flags'
  flags_changed linked says same =
      flags_written old (linked_within old.cells.items slot linked) refl (says ∙ sym linked) (λ t other. refl) (omega arith) (were.made slot) (same ∙ were.together)

  -- its record is written
  pub record_written : (new : RingState) (r : Record) → slot < length old.cells.items → says_linked f ≡ is_linked r.held → new.cells.items ≡ set old.cells.items slot r
      → old.made ≤ new.made → slot < new.made → flags'.made ≡ new.made → AreLinks new flags'
  record_written new r within here written more made together =
      let is = (λ (t : ℕ). ap (λ z. is_linked (location_at z t)) written ∙ changed (λ (x : Record). is_linked x.held) old.cells.items slot r vacant t within) in
      flags_written new within (ap length written ∙ length-set old.cells.items slot r) (here ∙ sym (is slot ∙ rw (eqb_self slot) refl))
      (λ t other. is t ∙ rw other refl) more (λ _. made) together

  -- it is put before another
  pub slot_attached : {before : ℕ} {location : Location} (new : RingState) → slot < length old.cells.items → Attaches slot before location old.cells new.cells
      → says_linked f ≡ is_linked location → new.made ≡ made_below (slot + 1) old.made → flags'.made ≡ made_below (slot + 1) flags.made → AreLinks new flags'
  slot_attached new within attached here made together =
      flags_written new within attached.as_many (here ∙ sym (ap is_linked (attached.locations slot) ∙ rw (eqb_self slot) refl))
      (λ t other. ap is_linked (attached.locations t) ∙ rw other refl) (omega (arith, made)) (λ _. omega (arith, made)) (omega (arith, made, together, were.together))

  -- it is taken out
  pub slot_detached : (new : RingState) → is_linked (location_at old.cells.items slot) ≡ true → Detaches slot old.cells new.cells → says_linked f ≡ false → new.made ≡ old.made → flags'.made ≡ flags.made → AreLinks new flags'
  slot_detached new linked detached here made same =
      flags_written new (linked_within old.cells.items slot linked) detached.as_many
      (here ∙ sym (ap (λ (r : Record). is_linked r.held) detached.freed))
      (λ t other. ap is_linked (detached.locations t other)) (omega (arith, made)) (λ _. rw made (were.made slot linked)) (same ∙ were.together ∙ sym made)

-- its bit is this one now
pub bit_set : {old : RingState} {flags : FlagState} {flags' : List Flag} (slot : ℕ) (f : Flag) → AreLinks old flags → flags' ≡ set flags.items slot f
    → (positions : CellsState (Option ℕ)) (inspections : ℕ) (bit : Bool) → slot < length old.cells.items → is_set f ≡ bit
    → SetsBit slot bit (links_shown old flags.items positions inspections) (links_shown old flags' positions inspections)
bit_set {old} {flags} slot f were flagged positions inspections bit within e = record {
  bits = λ t. ap (λ z. get_or (map is_set z) t false) flagged ∙ ap (λ z. get_or z t false) (mapped-set is_set flags.items slot f bit e)
      ∙ changed (λ b. b) (map is_set flags.items) slot bit false t (rw (length-map flags.items is_set, were.as_many) within);
  records = refl;
  made = refl;
  window = refl;
  inspections = refl;
}

-- new links
pub shown_fresh : (slots window : ℕ) {inspections : ℕ} {ring : RingState} {flags : List Flag} {positions : CellsState (Option ℕ)}
    → ring ≡ ring_state (cells_state (replicate slots vacant) 0) 0 → flags ≡ replicate slots Flag.Free → positions ≡ cells_state (replicate window None) 0 → inspections ≡ 0
    → links_shown ring flags positions inspections ≡ fresh slots window
shown_fresh slots window blank free none unseen = rw (blank, free, none, unseen, mapped-same is_set slots Flag.Free) refl
