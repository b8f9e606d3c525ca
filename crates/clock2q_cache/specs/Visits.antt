-- Which calls visit all slots, so that they don't take the same time in a large cache as in a small one.
use Rattle.std.specs.Prelude.{Bool, true, false}
use Rattle.clock2q_machine.specs.Calls.{Call, Put, Get, Peek, Contains, GetAt, Set, With, Try, SlotFor, Remove, Retain, Clear, Evict, Prefill, Len, IsEmpty, Capacity}

-- whether a call visits all slots
abbrev pub visits_all : {K V : Type 0} → Call K V → Bool
visits_all (Retain bits) = true
visits_all Clear = true
visits_all (Prefill values) = true
visits_all (Put key value) = false
visits_all (Get key) = false
visits_all (Peek key) = false
visits_all (Contains key) = false
visits_all (GetAt slot key) = false
visits_all (Set key value) = false
visits_all (With key value) = false
visits_all (Try key value) = false
visits_all (SlotFor key value) = false
visits_all (Remove key) = false
visits_all Evict = false
visits_all Len = false
visits_all IsEmpty = false
visits_all Capacity = false
