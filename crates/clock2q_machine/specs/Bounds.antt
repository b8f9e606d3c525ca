-- How often the hand inspects an entry of Main, and the numbers that bound it: Main's victims, the bits of Main that
-- hits set, and those that are set.
use Rattle.std.specs.Prelude.{◌≡◌, ℕ, ◌+◌, ◌≤◌, Bool, true, false, not, ◌&&◌, ◌==◌, if◌then◌else◌, List, [], ◌∷◌, length, Option, Some, None, is_some}
use Rattle.std.specs.List.{count_by, list_any, last_or}
use Rattle.clock2q_machine.specs.Ages.{is_promoted}
use Rattle.clock2q_machine.specs.Shares.{main_share}
use Rattle.clock2q_machine.specs.Entries.{SmallEntry, inspections}
use Rattle.clock2q_machine.specs.Calls.{Call, Put, Get, Peek, Contains, GetAt, Set, With, Try, SlotFor, Remove, Retain, Clear, Evict, Prefill, Len, IsEmpty, Capacity}
use Rattle.clock2q_machine.specs.Machine.{Machine, slot_of, vacancy, goes_to_main, victim_leaves}
use Rattle.clock2q_machine.specs.Steps.{is_at, after, after_all}

-- whether Small has a tail that is promoted to Main
abbrev pub goes_on : {K : Type 0} → Option (SmallEntry K) → Bool
goes_on None = false
goes_on (Some tail) = is_promoted tail.age

module _ {K V : Type 0} where
  -- the number of set bits of Main
  abbrev pub set_bits : Machine K V → ℕ
  set_bits m = count_by (λ e. e.bit) m.main

  -- the number of bits of Main that a hit on the key turns from clear to set
  abbrev pub settings_of_hit : (K → Bool) → Machine K V → ℕ
  settings_of_hit is m = count_by (λ e. is e.key && not e.bit) m.main

  -- a key that enters evicts Main's victim: in Main if Main has its share, in Small if there is no vacancy and the tail
  -- is promoted
  abbrev pub takes_victim : (K → Bool) → Machine K V → Bool
  takes_victim is m = if goes_to_main (list_any is m.history) m then length m.main == main_share m.shares else not (is_some (vacancy m)) && goes_on (last_or None m.small)

  -- the number of victims in Main and of inspections by the hand if the key is requested: zero if it is resident
  abbrev pub victims_for : (K → Bool) → Machine K V → ℕ
  victims_for is m = if is_some (slot_of is m) then 0 else (if takes_victim is m then 1 else 0)

  abbrev pub inspections_for : (K → Bool) → Machine K V → ℕ
  inspections_for is m = if is_some (slot_of is m) then 0 else (if takes_victim is m then inspections m.main else 0)

  -- whether the call removes residents other than the one that is evicted next
  abbrev pub takes_out : Call K V → Bool
  takes_out (Put key value) = false
  takes_out (Get key) = false
  takes_out (Peek key) = false
  takes_out (Contains key) = false
  takes_out (GetAt slot key) = false
  takes_out (Set key value) = false
  takes_out (With key value) = false
  takes_out (Try key value) = false
  takes_out (SlotFor key value) = false
  takes_out (Remove key) = true
  takes_out (Retain bits) = true
  takes_out Clear = true
  takes_out Evict = false
  takes_out (Prefill values) = false
  takes_out Len = false
  takes_out IsEmpty = false
  takes_out Capacity = false

  -- whether it makes residents leave though no key comes: those, and the one that `Evict` evicts
  abbrev pub makes_room : Call K V → Bool
  makes_room Evict = true
  makes_room call = takes_out call

  module _ (eq : K → K → Bool) where
    -- the number of inspections by the hand in a call
    abbrev pub inspections_of : Call K V → Machine K V → ℕ
    inspections_of (Put key value) m = inspections_for (eq key) m
    inspections_of (Get key) m = 0
    inspections_of (Peek key) m = 0
    inspections_of (Contains key) m = 0
    inspections_of (GetAt slot key) m = 0
    inspections_of (Set key value) m = 0
    inspections_of (With key value) m = inspections_for (eq key) m
    inspections_of (Try key (Some value)) m = inspections_for (eq key) m
    inspections_of (Try key None) m = 0
    inspections_of (SlotFor key value) m = inspections_for (eq key) m
    inspections_of (Remove key) m = 0
    inspections_of (Retain bits) m = 0
    inspections_of Clear m = 0
    inspections_of Evict m = if victim_leaves m then inspections m.main else 0
    inspections_of (Prefill values) m = 0
    inspections_of Len m = 0
    inspections_of IsEmpty m = 0
    inspections_of Capacity m = 0

    -- the number of its victims in Main
    abbrev pub main_victims : Call K V → Machine K V → ℕ
    main_victims (Put key value) m = victims_for (eq key) m
    main_victims (Get key) m = 0
    main_victims (Peek key) m = 0
    main_victims (Contains key) m = 0
    main_victims (GetAt slot key) m = 0
    main_victims (Set key value) m = 0
    main_victims (With key value) m = victims_for (eq key) m
    main_victims (Try key (Some value)) m = victims_for (eq key) m
    main_victims (Try key None) m = 0
    main_victims (SlotFor key value) m = victims_for (eq key) m
    main_victims (Remove key) m = 0
    main_victims (Retain bits) m = 0
    main_victims Clear m = 0
    main_victims Evict m = if victim_leaves m then 1 else 0
    main_victims (Prefill values) m = 0
    main_victims Len m = 0
    main_victims IsEmpty m = 0
    main_victims Capacity m = 0

    -- the number of bits of Main that its hit turns from clear to set
    abbrev pub settings : Call K V → Machine K V → ℕ
    settings (Put key value) m = settings_of_hit (eq key) m
    settings (Get key) m = settings_of_hit (eq key) m
    settings (Peek key) m = 0
    settings (Contains key) m = 0
    settings (GetAt slot key) m = if is_at slot (slot_of (eq key) m) then settings_of_hit (eq key) m else 0
    settings (Set key value) m = settings_of_hit (eq key) m
    settings (With key value) m = settings_of_hit (eq key) m
    settings (Try key value) m = settings_of_hit (eq key) m
    settings (SlotFor key value) m = settings_of_hit (eq key) m
    settings (Remove key) m = 0
    settings (Retain bits) m = 0
    settings Clear m = 0
    settings Evict m = 0
    settings (Prefill values) m = 0
    settings Len m = 0
    settings IsEmpty m = 0
    settings Capacity m = 0

    -- a number for each call, summed over a run
    abbrev pub summed : (Call K V → Machine K V → ℕ) → List (Call K V) → Machine K V → ℕ
    summed number [] m = 0
    summed number (call ∷ calls) m = number call m + summed number calls (after eq call m)

    -- an inspection is paid for by a victim, or by a bit that was set: exactly if the call removes nothing
    abbrev pub IsPaid : Call K V → Machine K V → Type 0
    IsPaid call m = inspections_of call m + set_bits (after eq call m) ≡ main_victims call m + settings call m + set_bits m

    -- and there are no more inspections than that in any call
    abbrev pub IsClockBounded : Call K V → Machine K V → Type 0
    IsClockBounded call m = inspections_of call m + set_bits (after eq call m) ≤ main_victims call m + settings call m + set_bits m

    -- nor in a run
    abbrev pub IsRunBounded : List (Call K V) → Machine K V → Type 0
    IsRunBounded calls m = summed inspections_of calls m + set_bits (after_all eq calls m) ≤ summed main_victims calls m + summed settings calls m + set_bits m
