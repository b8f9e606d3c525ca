-- A table whose handles are indices of a list of hashes.
use Rattle.std.specs.Prelude.{ℕ, List, ◌<◌, get_or, length}
use Rattle.clock2q_handles.specs.Rehash.{IsHeld}
use Rattle.clock2q_handles.specs.TableStep.{IsHashOf}

-- each handle in the table is an index of the list, inserted under the hash there
abbrev pub HoldsIndices : List ℕ → List (List (ℕ × ℕ)) → Type 0
HoldsIndices hashes homes = IsHashOf (λ at. get_or hashes at 0) homes × ((at : ℕ) → IsHeld homes at → at < length hashes)
