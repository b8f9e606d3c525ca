-- The residents of a machine with their values, as an iterator over a cache yields them.
use Rattle.std.specs.Prelude.{◌≡◌, ℕ, ◌-◌, List, length, map, slice_get, Option}
use Rattle.std.specs.List.{filter_map, range_with_len}
use Rattle.std.specs.Option.{option_map, option_and_then}
use Rattle.clock2q_machine.specs.Machine.{Machine, resident_at, by_slot}

module _ {K V : Type 0} where
  -- the key of the resident at a slot, the slot, and the value there
  abbrev pub entry_at : Machine K V → ℕ → Option (K × ℕ × V)
  entry_at m slot = option_and_then (λ r. option_map (λ value. (r.0, r.1, value)) (slice_get m.values slot)) (resident_at m slot)

  -- the entries of a slot and of the slots above it, in ascending order
  abbrev pub entries_from : Machine K V → ℕ → List (K × ℕ × V)
  entries_from m slot = filter_map (entry_at m) (range_with_len slot (length m.values - slot))

  -- an iterator has yielded the entries of the slots below this one, has so many left, and has looked at each slot below
  -- once
  pub record HasLooked (m : Machine K V) (slot left looks : ℕ) : Type 0 where
    pub left_is : left ≡ length (entries_from m slot)
    pub once : looks ≡ slot

  -- the entries of all slots
  abbrev pub entries : Machine K V → List (K × ℕ × V)
  entries m = entries_from m 0

  -- the key and the slot
  abbrev pub key_and_slot : K × ℕ × V → K × ℕ
  key_and_slot e = (e.0, e.1)

  -- the key
  abbrev pub key_of : K × ℕ × V → K
  key_of e = e.0

  -- the value
  abbrev pub value_in : K × ℕ × V → V
  value_in e = e.2

  -- the residents' keys by slot
  abbrev pub keys : Machine K V → List K
  keys m = map (λ r. r.0) (by_slot m)

  -- their values by slot
  abbrev pub values : Machine K V → List V
  values m = map value_in (entries m)
