-- The answer of each call and its effect on the machine, and those of a list of calls.
use Rattle.std.specs.Prelude.{ℕ, zero, suc, ◌-◌, Bool, true, false, ◌==◌, if◌then◌else◌, List, [], ◌∷◌, map, length, slice_get, Option, Some, None, is_some}
use Rattle.std.specs.Option.{option_and_then}
use Rattle.clock2q_machine.specs.Calls.{Call, Answer, Put, Get, Peek, Contains, GetAt, Set, With, Try, SlotFor, Remove, Retain, Clear, Evict, Prefill, Len, IsEmpty, Capacity, Value, Stored, Tried, Slot, Flag, Number, Done}
use Rattle.clock2q_machine.specs.Machine.{Machine, resident_count, slot_of, value_of, hit, placement, stored, inserted, reused, removed, by_slot, vacated_all, leaves_now, evicted, cleared, prefilled}

-- the slots whose question was answered with false; past the end every answer is true
abbrev pub refused_slots : List Bool → List ℕ → List ℕ
refused_slots [] slots = []
refused_slots (keep ∷ bits) [] = []
refused_slots (true ∷ bits) (slot ∷ slots) = refused_slots bits slots
refused_slots (false ∷ bits) (slot ∷ slots) = slot ∷ refused_slots bits slots

-- whether the key is resident at this slot
abbrev pub is_at : ℕ → Option ℕ → Bool
is_at slot None = false
is_at slot (Some resident) = resident == slot

module _ {V : Type 0} where
  -- the first values of a list whose last one repeats
  abbrev pub supplied : ℕ → List V → List V
  supplied zero values = []
  supplied (suc n) [] = []
  supplied (suc n) (v ∷ []) = v ∷ supplied n (v ∷ [])
  supplied (suc n) (v ∷ w ∷ values) = v ∷ supplied n (w ∷ values)

  -- the value that a key has after its fetch: the one it had, otherwise the new one
  abbrev pub fetched_value : Option V → V → V
  fetched_value (Some had) value = had
  fetched_value None value = value

  -- the same if there may be no new one
  abbrev pub tried_value : Option V → Option V → Option V
  tried_value (Some had) value = Some had
  tried_value None value = value

module _ {K V : Type 0} where
  -- a hit, and the value of the key's slot is replaced
  abbrev pub replaced_at : (K → Bool) → V → Option ℕ → Machine K V → Machine K V
  replaced_at is value None m = m
  replaced_at is value (Some slot) m = stored slot value (hit is m)

  abbrev pub replaced : (K → Bool) → V → Machine K V → Machine K V
  replaced is value m = replaced_at is value (slot_of is m) m

  -- a resident key gets the value, any other is inserted with it
  abbrev pub put : (K → Bool) → K → V → Machine K V → Machine K V
  put is key value m = if is_some (slot_of is m) then replaced is value m else inserted is key value m

  -- a resident key is hit, any other is inserted with the value
  abbrev pub fetched : (K → Bool) → K → V → Machine K V → Machine K V
  fetched is key value m = if is_some (slot_of is m) then hit is m else inserted is key value m

  -- the same if there may be no value: without it no key is inserted
  abbrev pub tried : (K → Bool) → K → Option V → Machine K V → Machine K V
  tried is key (Some value) m = fetched is key value m
  tried is key None m = hit is m

  abbrev pub hit_at : ℕ → (K → Bool) → Machine K V → Machine K V
  hit_at slot is m = if is_at slot (slot_of is m) then hit is m else m

  abbrev pub value_at : ℕ → (K → Bool) → Machine K V → Option V
  value_at slot is m = if is_at slot (slot_of is m) then slice_get m.values slot else None

  -- a resident key is hit, any other is inserted, and only a new slot gets the value
  abbrev pub slotted : (K → Bool) → K → V → Machine K V → Machine K V
  slotted is key fresh m = if is_some (slot_of is m) then hit is m else reused is key fresh m

  -- its slot and the value there
  abbrev pub slotted_at : Option ℕ → (K → Bool) → K → Machine K V → ℕ
  slotted_at (Some slot) is key m = slot
  slotted_at None is key m = (placement is key m).slot

  abbrev pub slot_answer : ℕ → V → Machine K V → Answer V
  slot_answer slot fresh m = Slot slot (fetched_value (slice_get m.values slot) fresh)

  -- the refused residents are removed
  abbrev pub retained : List Bool → Machine K V → Machine K V
  retained bits m = vacated_all (refused_slots bits (map (λ r. r.1) (by_slot m))) m

  -- values for the slots that were never made
  abbrev pub prefilled_with : List V → Machine K V → Machine K V
  prefilled_with values m = prefilled (supplied (m.shares.capacity - length m.values) values) m

  module _ (eq : K → K → Bool) where
    -- what a call answers
    abbrev pub answer : Call K V → Machine K V → Answer V
    answer (Put key value) m = Value (value_of (eq key) m)
    answer (Get key) m = Value (value_of (eq key) m)
    answer (Peek key) m = Value (value_of (eq key) m)
    answer (Contains key) m = Flag (is_some (slot_of (eq key) m))
    answer (GetAt slot key) m = Value (value_at slot (eq key) m)
    answer (Set key value) m = Value (value_of (eq key) m)
    answer (With key value) m = Stored (fetched_value (value_of (eq key) m) value)
    answer (Try key value) m = Tried (tried_value (value_of (eq key) m) value)
    answer (SlotFor key value) m = slot_answer (slotted_at (slot_of (eq key) m) (eq key) key m) value m
    answer (Remove key) m = Flag (is_some (slot_of (eq key) m))
    answer (Retain bits) m = Done
    answer Clear m = Done
    answer Evict m = Value (option_and_then (λ r. slice_get m.values r.1) (leaves_now m))
    answer (Prefill values) m = Done
    answer Len m = Number (resident_count m)
    answer IsEmpty m = Flag (resident_count m == 0)
    answer Capacity m = Number m.shares.capacity

    -- the machine after a call
    abbrev pub after : Call K V → Machine K V → Machine K V
    after (Put key value) m = put (eq key) key value m
    after (Get key) m = hit (eq key) m
    after (Peek key) m = m
    after (Contains key) m = m
    after (GetAt slot key) m = hit_at slot (eq key) m
    after (Set key value) m = replaced (eq key) value m
    after (With key value) m = fetched (eq key) key value m
    after (Try key value) m = tried (eq key) key value m
    after (SlotFor key value) m = slotted (eq key) key value m
    after (Remove key) m = removed (eq key) m
    after (Retain bits) m = retained bits m
    after Clear m = cleared m
    after Evict m = evicted m
    after (Prefill values) m = prefilled_with values m
    after Len m = m
    after IsEmpty m = m
    after Capacity m = m

    -- the answers to a list of calls, in order, and the machine afterwards
    abbrev pub answers : List (Call K V) → Machine K V → List (Answer V)
    answers [] m = []
    answers (call ∷ calls) m = answer call m ∷ answers calls (after call m)

    abbrev pub after_all : List (Call K V) → Machine K V → Machine K V
    after_all [] m = m
    after_all (call ∷ calls) m = after_all calls (after call m)
