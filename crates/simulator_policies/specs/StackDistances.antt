-- How long ago a key was accessed: the number of other keys accessed since.
use Rattle.std.specs.Prelude.{ℕ, ◌+◌, Bool, false, ◌==◌, nat_lt, if◌then◌else◌, List, [], ◌∷◌, Option, None, Some}
use Rattle.clock2q_machine.specs.Hits.{without}

-- all keys accessed so far, most recent first
abbrev pub recent_after : ℕ → List ℕ → List ℕ
recent_after key recent = key ∷ without key recent

-- after a whole trace
abbrev pub recent_after_all : List ℕ → List ℕ → List ℕ
recent_after_all [] recent = recent
recent_after_all (key ∷ trace) recent = recent_after_all trace (recent_after key recent)

abbrev pub one_more : Option ℕ → Option ℕ
one_more None = None
one_more (Some n) = Some (1 + n)

-- the stack distance of a key: the number of keys before it in this list, none if it isn't there
abbrev pub stack_distance : ℕ → List ℕ → Option ℕ
stack_distance key [] = None
stack_distance key (first ∷ recent) = if first == key then Some 0 else one_more (stack_distance key recent)

abbrev pub is_below : ℕ → Option ℕ → Bool
is_below capacity None = false
is_below capacity (Some distance) = nat_lt distance capacity
