-- What the two vectors of a table say about its slots.
use Rattle.std.specs.Prelude.{◌≡◌, ℕ, zero, suc, pred, ◌+◌, ◌/◌, ◌%◌, ◌^◌, ◌<◌, ◌≤◌, List, [], ◌∷◌, length, Option, Some, None}
use Rattle.std.specs.Coded.{Coded, code_by, coded×, coded_ℕ, coded_list, coded_option}
use Rattle.clock2q_handles.specs.Layout.{Placed, placed, placed_code}
use Rattle.clock2q_handles.specs.declared.metadata.Metadata.{Metadata}
use Rattle.clock2q_handles.specs.declared.metadata.Wanted.{Wanted}
use mathlib.Core.Path.{refl}

-- a slot's displacement and fingerprint, or None for an empty slot
abbrev pub Mark : Type 0
Mark = Option (ℕ × ℕ)

-- what a reach and a fingerprint mean: an entry's reach is its displacement plus one, and an empty slot's is 0
abbrev pub mark_at : ℕ → ℕ → Mark
mark_at zero f = None
mark_at (suc d) f = Some (d, f)

-- what a word of metadata means
abbrev pub meaning : Metadata → Mark
meaning m = mark_at (m.word / 256) (m.word % 256)

-- what a walk looks for
abbrev pub sought : Wanted → Mark
sought w = mark_at (w.word / 256) (w.word % 256)

-- how far past its home an entry in the next slot may be, after this mark
abbrev pub mark_reach : Mark → ℕ
mark_reach None = 0
mark_reach (Some s) = suc s.0

-- the same entry one slot further past its home
abbrev pub mark_on : Mark → Mark
mark_on None = None
mark_on (Some s) = Some (suc s.0, s.1)

-- the same entry one slot nearer to its home
abbrev pub mark_back : Mark → Mark
mark_back None = None
mark_back (Some s) = Some (pred s.0, s.1)

module _ {H : Type 0} where
  -- the contents of a slot with that mark and that handle
  abbrev pub cell : Mark → H → Option (Placed (ℕ × H))
  cell None v = None
  cell (Some s) v = Some (placed s.0 (s.1, v))

  -- the mark of a slot's contents
  abbrev pub mark_of : Option (Placed (ℕ × H)) → Mark
  mark_of None = None
  mark_of (Some p) = Some (p.displacement, p.entry.0)

  -- the contents of each slot
  abbrev pub cells : List Metadata → List H → List (Option (Placed (ℕ × H)))
  cells [] vs = []
  cells (m ∷ ms) [] = []
  cells (m ∷ ms) (v ∷ vs) = cell (meaning m) v ∷ cells ms vs

-- the contents of each slot
abbrev pub slot_list : Type 0 → Type 0
slot_list H = List (Option (Placed (ℕ × H)))

abbrev pub slot_list_code : {H : Type 0} → Coded H → Coded (slot_list H)
slot_list_code h = coded_list (coded_option (placed_code (coded× coded_ℕ h)))

-- what contracts see of the two vectors: the contents of each slot, and the number of slot writes
pub record SlotsValue (H : Type 0) : Type 0 where
  pub slots : List (Option (Placed (ℕ × H)))
  pub writes : ℕ

abbrev pub slots_value : {H : Type 0} → List (Option (Placed (ℕ × H))) → ℕ → SlotsValue H
slots_value slots writes = record { slots = slots; writes = writes }

abbrev pub slots_code : {H : Type 0} → Coded H → Coded (SlotsValue H)
slots_code {H} h =
    code_by (slot_list H × ℕ) (coded× (slot_list_code h) coded_ℕ) (λ s. (s.slots, s.writes)) (λ p. slots_value p.0 p.1) (λ _. refl)

-- there are no slots, or a power of two of them, at least 16
pub record IsSlotCount (m : ℕ) : Type 0 where
  pub power : 0 < m → (k : ℕ) × (m ≡ 2 ^ k)
  pub least : 0 < m → 16 ≤ m

-- both vectors have the same length, a power of two or 0
pub record ArePaired {H : Type 0} (metadata : List Metadata) (handles : List H) : Type 0 where
  pub same : length handles ≡ length metadata
  pub slot_count : IsSlotCount (length metadata)

-- both vectors have the same length, a power of two or 0, and the mask is one less
pub record AreMasked {H : Type 0} (metadata : List Metadata) (handles : List H) (mask : ℕ) : Type 0 where
  pub same : length handles ≡ length metadata
  pub slot_count : IsSlotCount (length metadata)
  pub mask_of : 0 < length metadata → mask + 1 ≡ length metadata

-- they are so, of fewer than 2^63 slots
pub record IsView {H : Type 0} (metadata : List Metadata) (handles : List H) (mask : ℕ) : Type 0 where
  pub same : length handles ≡ length metadata
  pub slot_count : IsSlotCount (length metadata)
  pub small : length metadata < 2 ^ 63
  pub mask_of : 0 < length metadata → mask + 1 ≡ length metadata
