-- The minimum time that a key stays: in Small by the admissions after its own, in Main by the hand's inspections, in the
-- history by the keys that Small evicts after it.
use Rattle.std.specs.Prelude.{⊤, ◌≡◌, ℕ, ◌+◌, Bool, false, not, ◌||◌, if◌then◌else◌, List, [], ◌∷◌, map, length, Some, None, is_some}
use Rattle.std.specs.List.{list_any, last_or}
use Rattle.clock2q_machine.specs.Entries.{SmallEntry, MainEntry}
use Rattle.clock2q_machine.specs.Calls.{Call, Put, Get, Peek, Contains, GetAt, Set, With, Try, SlotFor, Remove, Retain, Clear, Evict, Prefill, Len, IsEmpty, Capacity}
use Rattle.clock2q_machine.specs.Machine.{Machine, slot_of, vacancy, goes_to_main, victim_leaves}
use Rattle.clock2q_machine.specs.Bounds.{goes_on}

-- the number of entries of Small that are older than the key that passes the test
abbrev pub older : {K : Type 0} → (K → Bool) → List (SmallEntry K) → ℕ
older is [] = 0
older is (e ∷ small) = if is e.key then length small else older is small

-- the number of keys remembered after the one that passes the test
abbrev pub newer : {K : Type 0} → (K → Bool) → List K → ℕ
newer is [] = 0
newer is (k ∷ history) = if is k then 0 else 1 + newer is history

-- the number of entries of Main that the hand reaches before the key that passes the test
abbrev pub ahead : {K : Type 0} → (K → Bool) → List (MainEntry K) → ℕ
ahead is main = newer is (map (λ e. e.key) main)

module _ {K V : Type 0} where
  abbrev pub is_in_main : (K → Bool) → Machine K V → Bool
  is_in_main is m = list_any is (map (λ e. e.key) m.main)

  abbrev pub is_in_small : (K → Bool) → Machine K V → Bool
  is_in_small is m = list_any (λ e. is e.key) m.small

  abbrev pub is_remembered : (K → Bool) → Machine K V → Bool
  is_remembered is m = list_any is m.history

  -- one if a requested key is admitted to Small: it isn't resident, and doesn't go to Main
  abbrev pub admitted_for : (K → Bool) → Machine K V → ℕ
  admitted_for is m = if is_some (slot_of is m) then 0 else (if goes_to_main (list_any is m.history) m then 0 else 1)

  -- one if Small's tail is evicted for it: there is no vacancy, and the tail isn't promoted
  abbrev pub evicted_for : (K → Bool) → Machine K V → ℕ
  evicted_for is m =
      if is_some (slot_of is m) then 0 else (if goes_to_main (list_any is m.history) m || is_some (vacancy m) || goes_on (last_or None m.small) then 0 else 1)

  module _ (eq : K → K → Bool) where
    -- the number of keys that a call admits to Small
    abbrev pub admissions_of : Call K V → Machine K V → ℕ
    admissions_of (Put key value) m = admitted_for (eq key) m
    admissions_of (Get key) m = 0
    admissions_of (Peek key) m = 0
    admissions_of (Contains key) m = 0
    admissions_of (GetAt slot key) m = 0
    admissions_of (Set key value) m = 0
    admissions_of (With key value) m = admitted_for (eq key) m
    admissions_of (Try key (Some value)) m = admitted_for (eq key) m
    admissions_of (Try key None) m = 0
    admissions_of (SlotFor key value) m = admitted_for (eq key) m
    admissions_of (Remove key) m = 0
    admissions_of (Retain bits) m = 0
    admissions_of Clear m = 0
    admissions_of Evict m = 0
    admissions_of (Prefill values) m = 0
    admissions_of Len m = 0
    admissions_of IsEmpty m = 0
    admissions_of Capacity m = 0

    -- the number of keys that it evicts from Small
    abbrev pub evictions_of : Call K V → Machine K V → ℕ
    evictions_of (Put key value) m = evicted_for (eq key) m
    evictions_of (Get key) m = 0
    evictions_of (Peek key) m = 0
    evictions_of (Contains key) m = 0
    evictions_of (GetAt slot key) m = 0
    evictions_of (Set key value) m = 0
    evictions_of (With key value) m = evicted_for (eq key) m
    evictions_of (Try key (Some value)) m = evicted_for (eq key) m
    evictions_of (Try key None) m = 0
    evictions_of (SlotFor key value) m = evicted_for (eq key) m
    evictions_of (Remove key) m = 0
    evictions_of (Retain bits) m = 0
    evictions_of Clear m = 0
    evictions_of Evict m = if victim_leaves m || not (is_some (last_or None m.small)) then 0 else 1
    evictions_of (Prefill values) m = 0
    evictions_of Len m = 0
    evictions_of IsEmpty m = 0
    evictions_of Capacity m = 0

    -- the call neither brings the key back nor erases it
    abbrev pub LetsBe : K → Call K V → Type 0
    LetsBe k (Put key value) = eq k key ≡ false
    LetsBe k (With key value) = eq k key ≡ false
    LetsBe k (Try key value) = eq k key ≡ false
    LetsBe k (SlotFor key value) = eq k key ≡ false
    LetsBe k (Remove key) = eq k key ≡ false
    LetsBe k Clear = ⊥
    LetsBe k Evict = ⊤
    LetsBe k (Get key) = ⊤
    LetsBe k (Peek key) = ⊤
    LetsBe k (Contains key) = ⊤
    LetsBe k (GetAt slot key) = ⊤
    LetsBe k (Set key value) = ⊤
    LetsBe k (Retain bits) = ⊤
    LetsBe k (Prefill values) = ⊤
    LetsBe k Len = ⊤
    LetsBe k IsEmpty = ⊤
    LetsBe k Capacity = ⊤
