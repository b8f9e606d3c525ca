-- What makes keys of Main leave: keys that were hit in Small, and keys that come to Main from the history.
use Rattle.std.specs.Prelude.{ℕ, Bool, false, not, ◌||◌, ◌&&◌, ◌==◌, if◌then◌else◌, None, Some, is_some}
use Rattle.std.specs.List.{count_by, list_any, last_or}
use Rattle.clock2q_machine.specs.Ages.{Age, Young, Old}
use Rattle.clock2q_machine.specs.Calls.{Call, Put, Get, Peek, Contains, GetAt, Set, With, Try, SlotFor, Remove, Retain, Clear, Evict, Prefill, Len, IsEmpty, Capacity}
use Rattle.clock2q_machine.specs.Machine.{Machine, slot_of, victim_leaves}
use Rattle.clock2q_machine.specs.Steps.{is_at}

-- whether a hit makes an entry of Small one that is promoted
abbrev pub becomes_promoted : Age → Bool
becomes_promoted (Young age) = false
becomes_promoted (Old bit) = not bit

module _ {K V : Type 0} where
  -- the number of keys of Small that a hit makes such
  abbrev pub settings_in_small : (K → Bool) → Machine K V → ℕ
  settings_in_small is m = count_by (λ e. is e.key && becomes_promoted e.age) m.small

  -- one if a key that isn't resident belongs in Main: it is remembered, or Small has no share
  abbrev pub belongs_in_main : (K → Bool) → Machine K V → ℕ
  belongs_in_main is m = if list_any is m.history || (m.shares.small == 0) then 1 else 0

  -- if a key is requested: what its hit or its insertion earns
  abbrev pub earned_for : (K → Bool) → Machine K V → ℕ
  earned_for is m = if is_some (slot_of is m) then settings_in_small is m else belongs_in_main is m

  module _ (eq : K → K → Bool) where
    -- the number of Main's keys that a call may cost, at once or when the key that it hits in Small is promoted
    abbrev pub earned : Call K V → Machine K V → ℕ
    earned (Put key value) m = earned_for (eq key) m
    earned (Get key) m = settings_in_small (eq key) m
    earned (Peek key) m = 0
    earned (Contains key) m = 0
    earned (GetAt slot key) m = if is_at slot (slot_of (eq key) m) then settings_in_small (eq key) m else 0
    earned (Set key value) m = settings_in_small (eq key) m
    earned (With key value) m = earned_for (eq key) m
    earned (Try key (Some value)) m = earned_for (eq key) m
    earned (Try key None) m = settings_in_small (eq key) m
    earned (SlotFor key value) m = earned_for (eq key) m
    earned (Remove key) m = 0
    earned (Retain bits) m = 0
    earned Clear m = 0
    earned Evict m = if victim_leaves m && not (is_some (last_or None m.small)) then 1 else 0
    earned (Prefill values) m = 0
    earned Len m = 0
    earned IsEmpty m = 0
    earned Capacity m = 0
