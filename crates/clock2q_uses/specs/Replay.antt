-- The hits of a trace: keys that are put one after another.
use Rattle.std.specs.Prelude.{ℕ, Bool, true, false, eqb, List, Some, map}
use Rattle.std.specs.List.{count_by}
use Rattle.clock2q_machine.specs.Calls.{Call, Answer, Put, Value}
use Rattle.clock2q_machine.specs.Machine.{empty}
use Rattle.clock2q_machine.specs.Shares.{usual_shares}
use Rattle.clock2q_machine.specs.Steps.{answers}

-- a put of a resident key returns the value that it replaces
abbrev pub is_hit : Answer ℕ → Bool
is_hit (Value (Some value)) = true
is_hit answer = false

abbrev pub put_of : ℕ → Call ℕ ℕ
put_of key = Put key key

-- the number of keys that hit in a new cache of this capacity
abbrev pub trace_hits : ℕ → List ℕ → ℕ
trace_hits capacity keys = count_by is_hit (answers eqb (map put_of keys) (empty (usual_shares capacity)))
