-- Which resident leaves: the one that a call without removals may evict, and the key that it brings.
use Rattle.std.specs.Prelude.{◌≡◌, ℕ, ◌+◌, Bool, false, ◌==◌, if◌then◌else◌, List, length, slice_get, Option, Some, None, is_some}
use Rattle.std.specs.List.{count_by, list_any, last_or}
use Rattle.std.specs.Option.{option_map, option_and_then}
use Rattle.clock2q_machine.specs.Shares.{main_share}
use Rattle.clock2q_machine.specs.Ages.{is_promoted}
use Rattle.clock2q_machine.specs.Entries.{SmallEntry, MainEntry, first_of, from_victim}
use Rattle.clock2q_machine.specs.Calls.{Call, Put, Get, Peek, Contains, GetAt, Set, With, Try, SlotFor, Remove, Retain, Clear, Evict, Prefill, Len, IsEmpty, Capacity}
use Rattle.clock2q_machine.specs.Machine.{Machine, residents, slot_of, vacancy, goes_to_main, placement, leaves_now}
use Rattle.clock2q_machine.specs.Steps.{after}

-- for a key that enters Small no resident leaves if there is a vacancy; otherwise Small's tail does, or Main's victim
-- if the tail is promoted
abbrev pub leaves_for_small : {K : Type 0} → Option ℕ → Option (SmallEntry K) → List (MainEntry K) → Option (K × ℕ)
leaves_for_small (Some slot) tail main = None
leaves_for_small None None main = None
leaves_for_small None (Some tail) main = if is_promoted tail.age then first_of (from_victim main) else Some (tail.key, tail.slot)

-- one if there is a resident that passes a test of key and slot
abbrev pub one_with : {K : Type 0} → (K → ℕ → Bool) → Option (K × ℕ) → ℕ
one_with is None = 0
one_with is (Some r) = if is r.0 r.1 then 1 else 0

module _ {K V : Type 0} where
  -- for a key that enters Main its victim leaves, if Main has its share
  abbrev pub leaves_for_main : Machine K V → Option (K × ℕ)
  leaves_for_main m = if length m.main == main_share m.shares then first_of (from_victim m.main) else None

  -- the resident that leaves for a key that isn't resident, and is remembered or not
  abbrev pub leaves_for : Bool → Machine K V → Option (K × ℕ)
  leaves_for remembered m = if goes_to_main remembered m then leaves_for_main m else leaves_for_small (vacancy m) (last_or None m.small) m.main

  -- the resident that leaves next, if a key enters that the cache doesn't know
  abbrev pub next_victim : Machine K V → Option (K × ℕ)
  next_victim m = leaves_for false m

  -- the resident that leaves, and the key that enters at its slot, if a key is requested: none if it is resident
  abbrev pub leaves_wanted : (K → Bool) → Machine K V → Option (K × ℕ)
  leaves_wanted is m = if is_some (slot_of is m) then None else leaves_for (list_any is m.history) m

  abbrev pub comes_wanted : (K → Bool) → K → Machine K V → Option (K × ℕ)
  comes_wanted is key m = if is_some (slot_of is m) then None else Some (key, (placement is key m).slot)

  -- with the value at its slot
  abbrev pub with_value : Machine K V → Option (K × ℕ) → Option (K × (ℕ × V))
  with_value m resident = option_and_then (λ r. option_map (λ v. (r.0, (r.1, v))) (slice_get m.values r.1)) resident

  -- the number of residents that pass a test of key and slot
  abbrev pub resident_with : (K → ℕ → Bool) → Machine K V → ℕ
  resident_with is m = count_by (λ r. is r.0 r.1) (residents m)

  module _ (eq : K → K → Bool) where
    -- the resident that a call evicts, if it takes out no others
    abbrev pub leaver : Call K V → Machine K V → Option (K × ℕ)
    leaver (Put key value) m = leaves_wanted (eq key) m
    leaver (Get key) m = None
    leaver (Peek key) m = None
    leaver (Contains key) m = None
    leaver (GetAt slot key) m = None
    leaver (Set key value) m = None
    leaver (With key value) m = leaves_wanted (eq key) m
    leaver (Try key (Some value)) m = leaves_wanted (eq key) m
    leaver (Try key None) m = None
    leaver (SlotFor key value) m = leaves_wanted (eq key) m
    leaver (Remove key) m = None
    leaver (Retain bits) m = None
    leaver Clear m = None
    leaver Evict m = leaves_now m
    leaver (Prefill values) m = None
    leaver Len m = None
    leaver IsEmpty m = None
    leaver Capacity m = None

    -- the key that it brings, with its slot
    abbrev pub comer : Call K V → Machine K V → Option (K × ℕ)
    comer (Put key value) m = comes_wanted (eq key) key m
    comer (Get key) m = None
    comer (Peek key) m = None
    comer (Contains key) m = None
    comer (GetAt slot key) m = None
    comer (Set key value) m = None
    comer (With key value) m = comes_wanted (eq key) key m
    comer (Try key (Some value)) m = comes_wanted (eq key) key m
    comer (Try key None) m = None
    comer (SlotFor key value) m = comes_wanted (eq key) key m
    comer (Remove key) m = None
    comer (Retain bits) m = None
    comer Clear m = None
    comer Evict m = None
    comer (Prefill values) m = None
    comer Len m = None
    comer IsEmpty m = None
    comer Capacity m = None

    -- the victim with its slot and value
    abbrev pub victim_of : Call K V → Machine K V → Option (K × (ℕ × V))
    victim_of call m = with_value m (leaver call m)

    -- the residents afterwards are those before, minus the victim, plus the key that enters
    abbrev pub OneLeaves : Call K V → Machine K V → Type 0
    OneLeaves call m = (is : K → ℕ → Bool) → resident_with is (after eq call m) + one_with is (leaver call m) ≡ resident_with is m + one_with is (comer call m)
